use Rattle.std.proofs.Common.{◌∙◌, ap, sym}
use Rattle.std.specs.Char.{is_digit}
use Rattle.std.specs.List.{list_all}
use Rattle.kmod_words.proofs.DecimalLemmas.{decimal-parsed}
use Rattle.kmod_words.proofs.numbers.decimal.Goals as goal

pub returns : goal.returns
returns c =
    c.ok.ensures.value
    ∙ decimal-parsed c.args.most c.args.text.now c.parse.result c.parse.ensures.value.0
    (sym c.is_empty.ensures ∙ c.if-is_empty.false) c.if-most-text.false
    (ap (list_all (λ b. is_digit b 10)) (sym c.as_bytes.ensures.value) ∙ sym c.are_digits.ensures
    ∙ c.if-not-are_digits.false)
