use Rattle.std.proofs.Common.{◌≡◌, sym, ap, ◌∙◌, ℕ, suc, ◌+◌, ◌-◌, ◌*◌, ◌/◌, ◌%◌, ◌^◌, ◌<◌}
use Rattle.std.proofs.Common.{slice_index, bit_or, arith, rules}
use Rattle.std.proofs.lemmas.List.{get_or_past}
use Rattle.std.specs.Int.{bit_at}
use Rattle.glob_match.specs.Words.{bit}
use Rattle.glob_match.proofs.ShiftLemmas.{window}
use Rattle.glob_match.proofs.words.word_from.Goals.{then-at-words-2, else-at-words-2}
use Rattle.glob_match.proofs.words.word_from.Goals as goal

pub returns : goal.returns
returns c test h none i lt =
    let words = c.args.words.now in
    let at = c.args.place / 64 in
    let k = c.args.place % 64 in
    let fits : (n : ℕ) → slice_index words n < 2 ^ 64 = λ n. search rules in
    let after : suc at ≡ at + 1 = omega arith in
    let next : c.if-at-words-2.next ≡ slice_index words (suc at) = elim c.if-at-words-2.branch [
      | then-at-words-2 w ↦ w.next-is ∙ ap (slice_index words) (sym after)
      | else-at-words-2 w ↦ w.next-is
          ∙ sym (get_or_past words (suc at) 0 (omega (arith, w.if-at-words-2.false)))
    ] in
    let there : 64 * at + (k + i) ≡ c.args.place + i = omega arith in
    ap (λ n. bit_at (bit_or (slice_index words at / 2 ^ k) (n * 2 ^ (64 - k) % 2 ^ 64)) i) next
    ∙ window words fits test h none at k i (omega (arith, c.if-low-eq0.false)) (omega arith) lt
    ∙ ap (λ n. bit (test n)) there
