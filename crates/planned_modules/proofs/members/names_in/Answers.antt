use Rattle.std.proofs.Common.{◌++◌, ap, sym, ◌∙◌, arith}
use Rattle.std.proofs.lemmas.List.{take_all}
use Rattle.name_lookup.specs.declared.found.Found.{Found}
use Rattle.planned_modules.specs.Members.{all_names}
use Rattle.planned_modules.proofs.Finds.{flat-more}
use Rattle.planned_modules.proofs.members.names_in.Goals as goal

pub loop-found-preserved : goal.loop-found-preserved
loop-found-preserved c =
    c.in_ok-push_all.ensures
    ∙ ap (λ names. names ++ c.found-item.result.names) c.loop-found.invariant
    ∙ sym (flat-more (λ (f : Found). f.names) c.args.founds.now c.loop-found.found-index
    c.found-item.result c.loop-found-test.true c.found-item.is)

pub returns : goal.returns
returns c =
    c.loop-found.invariant
    ∙ ap all_names
    (take_all c.loop-found.found-index c.args.founds.now (omega (arith, c.loop-found-test.false)))
