use Rattle.std.proofs.Common.{◌≡◌, refl, ap, ◌∙◌, ◌+◌, ◌-◌, ◌*◌, ◌<◌, ◌||◌, Bool, true, false}
use Rattle.std.proofs.Common.{length, slice_index, take, drop, arith}
use Rattle.std.proofs.lemmas.List.{get_or-drop, length-drop, take_all}
use Rattle.glob_match.specs.Words.{bit, is_between}
use Rattle.glob_match.proofs.state.State.list_set.Goals as goal

one_mark : (t : Bool) → is_between 1 1 (bit t) ≡ t
one_mark true = refl
one_mark false = refl

pub returns-clause-listed : goal.returns-clause-listed
returns-clause-listed c test list h g k i lt low =
    let first = c.args.self.now.first in
    let bytes = c.args.bytes.now in
    let n = 64 * k + i in
    let whole : take (length bytes - first) (drop first bytes) ≡ drop first bytes
    = take_all (length bytes - first) (drop first bytes)
    (omega (arith, length-drop first bytes)) in
    let inside : n < c.len-count.result * 64
    = omega (arith, lt, low, c.len-count.ensures, c.list_marked.ensures.same.listed) in
    c.list_marked.ensures.listed test h k i lt low
    ∙ ap (λ t. bit (test n || t))
    (ap (is_between 1 1) (c.in_ok-mark.ensures.marks list n g inside)
    ∙ one_mark (list (slice_index (take (length bytes - first) (drop first bytes)) n))
    ∙ ap list (ap (λ bs. slice_index bs n) whole ∙ get_or-drop first bytes n 0))
