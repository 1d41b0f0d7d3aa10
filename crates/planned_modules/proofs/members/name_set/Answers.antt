use Rattle.std.proofs.Common.{sym, ◌∙◌}
use Rattle.std.specs.Prelude.{◌||◌}
use Rattle.std.specs.Str.{bytes_eq}
use Rattle.planned_modules.proofs.Finds.{among-next}
use Rattle.planned_modules.proofs.members.name_set.Goals as goal

pub loop-name-preserved : goal.loop-name-preserved
loop-name-preserved c = λ other.
    c.in_ok-insert.ensures.among other
    ∙ (λ i. c.loop-name.invariant other i || bytes_eq other (c.as_bytes.ensures i))
    ∙ sym (among-next c.args.names.now c.loop-name.name-index c.name-item.result other
    c.loop-name-test.true c.name-item.is)
