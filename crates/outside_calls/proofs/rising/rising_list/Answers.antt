use Rattle.std.proofs.Common.{◌≡◌, sym, subst, All, true}
use Rattle.std.specs.List.Sorted.{IsStrictlySortedBy}
use Rattle.outside_calls.specs.Contents.{by_bytes}
use Rattle.outside_calls.proofs.RisingLemmas.{sorted-rises, kept-passes}
use Rattle.outside_calls.proofs.rising.rising_list.Goals as goal

pub returns-clause-rising : goal.returns-clause-rising
returns-clause-rising g c =
    subst (IsStrictlySortedBy by_bytes) (sym c.in_ok-as_list.ensures)
    (sorted-rises _ _ c.in_ok-sort.ensures.sorted c.dedup.ensures.filtered)

pub returns-clause-kept : goal.returns-clause-kept
returns-clause-kept g c = λ p h.
    subst (All (λ n. p n ≡ true)) (sym c.in_ok-as_list.ensures)
    (kept-passes p _ _ _ c.in_ok-sort.ensures.permutation c.dedup.ensures.filtered h)
