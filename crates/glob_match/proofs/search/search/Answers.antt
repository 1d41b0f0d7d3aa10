use Rattle.std.proofs.lemmas.Bool.{false≢true}
use Rattle.std.proofs.lemmas.List.{nil_from_length}
use Rattle.glob_match.proofs.Tries.{skips, takes_byte, none_left, tries_again}
use Rattle.glob_match.proofs.search.search.Goals as goal

pub loop-after-preserved-in-Skips : goal.loop-after-preserved-in-Skips
loop-after-preserved-in-Skips c =
    skips _ _ _ _ _ c.loop-after.retry c.loop-after.invariant c.in-Skips.ensures

pub loop-after-preserved-in-Takes : goal.loop-after-preserved-in-Takes
loop-after-preserved-in-Takes c =
    takes_byte _ _ _ _ _ _ c.loop-after.retry c.loop-after.invariant c.in-Takes.ensures

pub returns-in_default-split_first : goal.returns-in_default-split_first
returns-in_default-split_first c =
    let from = rw c.in-Some.is at c.loop-after.invariant in (
      λ e. absurd (false≢true e),
      λ m. absurd (none_left _ _ _ _ _ _ from c.in-Mismatch.ensures
          (nil_from_length _ c.in_default-split_first.ensures.cases) m),
    )

pub loop-after-preserved : goal.loop-after-preserved
loop-after-preserved c =
    let from = rw c.in-Some.is at c.loop-after.invariant in
    tries_again _ _ _ _ _ _ _ _ from c.in-Mismatch.ensures c.in-Some-split_first.ensures.cases.0
