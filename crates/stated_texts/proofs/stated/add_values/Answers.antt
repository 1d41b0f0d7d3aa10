use Rattle.std.proofs.Common.{List, ℕ, ap, ◌∙◌, []}
use Rattle.std.specs.List.{cons_option}
use Rattle.stated_texts.specs.Maps.{with_values}
use Rattle.stated_texts.specs.Kinds.{value_with}
use Rattle.stated_texts.proofs.MapSteps.{value-kept}
use Rattle.stated_texts.proofs.stated.add_values.Goals as goal

pub loop-stated-preserved : goal.loop-stated-preserved
loop-stated-preserved c =
    let value = value_with c.args.kind c.args.place c.args.name.now in
    value-kept value c.args.key_map.now c.loop-stated.key_map c.add_value.new.key_map c.args.all.now
    c.loop-stated.stated-index c.stated-item.result c.loop-stated-test.true c.stated-item.is
    c.loop-stated.invariant
    (c.in_ok-add_value.ensures
    ∙ ap (λ (text : List ℕ). with_values c.loop-stated.key_map (cons_option (value text) []))
    c.stated.view_is)
