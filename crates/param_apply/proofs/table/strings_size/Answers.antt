use Rattle.std.proofs.Common.{◌≡◌, ◌+◌, ◌==◌, ◌∙◌, ℕ, ap, arith, get_or}
use Rattle.std.proofs.lemmas.Bool.{false_from_ne_true}
use Rattle.memchr.specs.Find.{is_byte}
use Rattle.param_apply.proofs.EndLemmas.{strings-end}
use Rattle.param_apply.proofs.table.strings_size.Goals as goal

pub returns-in-Some : goal.returns-in-Some
returns-in-Some c =
    let image = c.args.image.now in
    let last = c.in-Some.last in
    strings-end image (last + 1) (omega (arith, c.in-Some.ensures.0.high))
    (λ k less is.
    let here : k ≡ last = omega (arith, is) in
    ap (λ (n : ℕ). get_or image n 0 == 0) here ∙ c.in-Some.ensures.1)
    (λ k after less.
    false_from_ne_true (is_byte 0 (get_or image k 0)) (c.in-Some.ensures.0.after k after less))

pub returns-in-None : goal.returns-in-None
returns-in-None c =
    let image = c.args.image.now in
    strings-end image 0 (omega arith) (λ k less is. absurd (omega (arith, less)))
    (λ k after less.
    false_from_ne_true (is_byte 0 (get_or image k 0)) (c.in-None.ensures k (omega arith) less))
