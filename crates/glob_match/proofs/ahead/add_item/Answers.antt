use Rattle.std.proofs.Common.{ℕ, ◌≢◌, sym, ap, subst, ◌∙◌, ◌+◌, ◌*◌, ◌<◌, ◌||◌, slice_index, arith}
use Rattle.glob_pattern.specs.Pattern.{dash}
use Rattle.glob_pattern.specs.Parts.{is_listed}
use Rattle.glob_match.specs.Words.{HasBits, bit, is_between}
use Rattle.glob_match.specs.Ends.{part}
use Rattle.glob_match.proofs.EndLemmas.{lists_byte, lists_range}
use Rattle.glob_match.proofs.ahead.add_item.Goals.{else-close-at-via-then-close-at+else-file-at-eq45}
use Rattle.glob_match.proofs.ahead.add_item.Goals.{else-close-at-via-else-close-at}
use Rattle.glob_match.proofs.ahead.add_item.Goals as goal

pub returns-then-file-at-eq45 : goal.returns-then-file-at-eq45
returns-then-file-at-eq45 c text same next third k i lt low =
    let file = c.args.file.now in
    let at = c.args.at in
    let close = c.args.close in
    let n = 64 * k + i in
    let before = third (omega (arith, c.if-close-at.true)) in
    c.add_range.ensures (λ t. is_listed (part file (at + 3) close) (slice_index text t)) before k i
    lt low
    ∙ ap (λ x. bit
    (is_listed (part file (at + 3) close) (slice_index text n)
    || is_between (slice_index file at) (slice_index file (at + 2)) x)) (same n)
    ∙ ap bit (sym
    (lists_range file at close (slice_index text n) c.if-close-at.true c.requires.within
    c.if-file-at-eq45.true))

pub returns-else-close-at : goal.returns-else-close-at
returns-else-close-at c text same next third k i lt low =
    let file = c.args.file.now in
    let at = c.args.at in
    let close = c.args.close in
    let n = 64 * k + i in
    let test = λ (t : ℕ). is_listed (part file (at + 1) close) (slice_index text t) in
    let other : at + 2 < close → slice_index file (at + 1) ≢ dash = elim c.else-close-at.branch [
      | else-close-at-via-then-close-at+else-file-at-eq45 w ↦ λ _. w.if-file-at-eq45.false
      | else-close-at-via-else-close-at w ↦ λ more. absurd
          (omega (arith, more, w.if-close-at.false))
    ] in
    c.add_range-else-close-at.ensures test
    (subst (λ ws. HasBits ws test) (sym c.copy_from_slice.ensures.after) next) k i lt low
    ∙ ap (λ x. bit (test n || is_between (slice_index file at) (slice_index file at) x)) (same n)
    ∙ ap bit (sym
    (lists_byte file at close (slice_index text n) c.requires.inside c.requires.within other))
