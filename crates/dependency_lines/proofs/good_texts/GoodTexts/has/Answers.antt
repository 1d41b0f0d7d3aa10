use Rattle.std.proofs.Common.{◌≡◌, ◌<◌, true, length, sym, subst, ◌∙◌, arith}
use Rattle.std.proofs.lemmas.Slice.Eq.{bytes_eq-Decides}
use Rattle.dependency_lines.proofs.good_texts.GoodTexts.has.Goals as goal

pub returns-then-not-is_empty : goal.returns-then-not-is_empty
returns-then-not-is_empty c = λ equal test kept.
    let same : c.text_at.result.now ≡ c.args.text.now
    = (bytes_eq-Decides c.text_at.result.now c.args.text.now).0 (sym c.eq.ensures ∙ equal) in
    let some : 0 < length c.args.text.now = grind arith in
    subst (λ t. test t ≡ true) same
    (c.text_at.ensures test kept (subst (λ t. 0 < length t) (sym same) some))
