use Rattle.std.proofs.Common.{sym, ap, ◌∙◌, ⊎_elim, ◌+◌, ◌*◌, ◌/◌, ◌%◌, ◌^◌, set, slice_index}
use Rattle.std.proofs.Common.{arith}
use Rattle.std.proofs.lemmas.Bool.{cases_eq, ne_eqb}
use Rattle.std.proofs.lemmas.List.{get_or-set_same, get_or-set_other, length-set}
use Rattle.std.specs.Int.{bit_at}
use Rattle.glob_match.specs.Words.{bit}
use Rattle.glob_match.proofs.ShiftLemmas.{one_bit}
use Rattle.glob_match.proofs.words.set_only.Goals as goal

pub returns : goal.returns
returns c k i lt low =
    let place = c.args.place in
    let words = c.clear.new.words in
    let word = 1 * 2 ^ (place % 64) % 2 ^ 64 in
    ⊎_elim
    (λ here.
    ap (λ w. bit_at w i)
    (ap (slice_index (set words (place / 64) word)) here
    ∙ get_or-set_same words (place / 64) word 0 (omega arith))
    ∙ one_bit place k i low here)
    (λ other.
    ap (λ w. bit_at w i) (get_or-set_other words (place / 64) k word 0 other)
    ∙ c.clear.ensures k i (omega (arith, lt, length-set words)) low
    ∙ ap bit (sym (ne_eqb (64 * k + i) place (λ e. omega (arith, e, low, other)))))
    (cases_eq k (place / 64))
