use Rattle.std.proofs.Common.{sym, ap, ◌∙◌, arith}
use Rattle.std.specs.Prelude.{◌||◌}
use Rattle.std.proofs.lemmas.List.{take_all}
use Rattle.std.proofs.lemmas.List.Folds.{list_any_more}
use Rattle.name_table.specs.FirstSeen.{is_among}
use Rattle.name_lookup.specs.declared.found.Found.{Found}
use Rattle.plan_builder.specs.Requested.{is_member_of}
use Rattle.plan_builder.proofs.members.member_names.Goals as goal

pub loop-found-preserved : goal.loop-found-preserved
loop-found-preserved c = λ name.
    let has = λ (f : Found). is_among f.names name in
    let i = c.loop-found.found-index in
    c.in_ok-insert_all.ensures name
    ∙ (λ j. c.loop-found.invariant name j || ap has c.found-item.is j)
    ∙ sym (list_any_more has c.args.founds.now i c.found-item.result c.loop-found-test.true)

pub returns : goal.returns
returns c = λ name.
    c.loop-found.invariant name
    ∙ ap (λ fs. is_member_of fs name)
    (take_all c.loop-found.found-index c.args.founds.now (omega (arith, c.loop-found-test.false)))
