use Rattle.std.proofs.Common.{sym, ◌∙◌}
use Rattle.provider_rel.proofs.NoLines.{nothing-added}
use Rattle.provider_rel.proofs.unmet.push_need_lines.Goals as goal

pub returns-then-not-any_line : goal.returns-then-not-any_line
returns-then-not-any_line c =
    let b = c.args.bindings.now in
    nothing-added b.known b.items.items b.names c.args.lines.now c.args.tree.now
    (sym c.any_line.ensures ∙ c.if-not-any_line.true)
