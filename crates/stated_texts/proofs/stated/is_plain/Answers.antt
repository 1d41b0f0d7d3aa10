use Rattle.std.proofs.Common.{sym, ◌∙◌}
use Rattle.stated_texts.proofs.PlainAlias.{plain, no-more}
use Rattle.stated_texts.proofs.stated.is_plain.Goals as goal

pub returns : goal.returns
returns c = λ is.
    plain c.args.alias.now (sym c.contains.ensures.value ∙ c.if-contains.false)
    (sym c.contains-2.ensures.value ∙ c.if-contains-2.false)
    (sym c.contains-3.ensures.value ∙ no-more c.contains-3.result is)
