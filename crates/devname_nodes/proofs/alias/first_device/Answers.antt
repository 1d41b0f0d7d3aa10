use Rattle.std.proofs.Common.{sym, ap, ◌∙◌}
use Rattle.devname_nodes.specs.Nodes.{device_of}
use Rattle.devname_nodes.proofs.FirstSteps.{first-passed, first-found, first-over}
use Rattle.devname_nodes.proofs.alias.first_device.Goals as goal

pub loop-text-preserved : goal.loop-text-preserved
loop-text-preserved c =
    c.loop-text.invariant
    ∙ first-passed device_of c.args.aliases.now c.loop-text.text-index c.text-item.result
    c.loop-text-test.true
    (ap device_of (sym (c.as_bytes.ensures ∙ c.text-item.is)) ∙ sym c.in_default.ensures)

pub returns-in-Some : goal.returns-in-Some
returns-in-Some c =
    sym (
    c.loop-text.invariant
    ∙ first-found device_of c.args.aliases.now c.loop-text.text-index c.text-item.result
    c.in-Some.device.now c.loop-text-test.true
    (ap device_of (sym (c.as_bytes.ensures ∙ c.text-item.is)) ∙ sym c.in-Some.ensures))

pub returns : goal.returns
returns c =
    sym (c.loop-text.invariant
    ∙ first-over device_of c.args.aliases.now c.loop-text.text-index c.loop-text-test.false)
