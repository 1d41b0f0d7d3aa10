use Rattle.std.proofs.Common.{None, option_copied, ap, sym, ◌∙◌}
use Rattle.provider_rel.specs.Kinds.{has_line}
use Rattle.provider_rel.proofs.BindingSteps.{unknown-alone}
use Rattle.provider_rel.proofs.unmet.has_line.Goals as goal

pub returns-else-known : goal.returns-else-known
returns-else-known c =
    let facts = c.args.facts.now in
    let need = c.args.need.now in
    c.if-known.false
    ∙ unknown-alone facts need
    ∙ ap (λ known. has_line known facts need None) (sym c.if-known.false)
    ∙ ap (λ found. has_line c.args.known facts need (option_copied found)) (sym c.in-None.is)
