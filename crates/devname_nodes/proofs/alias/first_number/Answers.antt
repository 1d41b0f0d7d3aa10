use Rattle.std.proofs.Common.{sym, ap, ◌∙◌}
use Rattle.devname_nodes.specs.Nodes.{number_of}
use Rattle.devname_nodes.proofs.FirstSteps.{first-passed, first-found, first-over}
use Rattle.devname_nodes.proofs.alias.first_number.Goals as goal

pub loop-alias-preserved : goal.loop-alias-preserved
loop-alias-preserved c =
    c.loop-alias.invariant
    ∙ first-passed number_of c.args.aliases.now c.loop-alias.alias-index c.alias-item.result
    c.loop-alias-test.true
    (ap number_of (sym (c.as_bytes.ensures ∙ c.alias-item.is)) ∙ sym c.in_default.ensures)

pub returns-in-Some : goal.returns-in-Some
returns-in-Some c =
    sym (
    c.loop-alias.invariant
    ∙ first-found number_of c.args.aliases.now c.loop-alias.alias-index c.alias-item.result
    c.in-Some.number c.loop-alias-test.true
    (ap number_of (sym (c.as_bytes.ensures ∙ c.alias-item.is)) ∙ sym c.in-Some.ensures))

pub returns : goal.returns
returns c =
    sym (c.loop-alias.invariant
    ∙ first-over number_of c.args.aliases.now c.loop-alias.alias-index
    c.loop-alias-test.false)
