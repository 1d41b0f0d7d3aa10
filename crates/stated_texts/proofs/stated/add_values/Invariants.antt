use Rattle.std.proofs.Common.{◌≡◌, take}
use Rattle.stated_texts.specs.Maps.{with_values}
use Rattle.stated_texts.specs.Kinds.{values_with}
use Rattle.stated_texts.proofs.stated.add_values.Given as goal

abbrev pub invariant-loop-stated : goal.invariant-loop-stated
invariant-loop-stated l =
    l.key_map
    ≡ with_values l.initial.key_map (values_with l.kind l.place l.name (take l.stated-index l.all))
