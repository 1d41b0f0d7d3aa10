use Rattle.std.proofs.Common.{◌≡◌, flat_map, take}
use Rattle.std.specs.List.{enumerate_from}
use Rattle.stated_texts.specs.Maps.{map_of}
use Rattle.stated_texts.specs.Kinds.{values_by}
use Rattle.stated_texts.proofs.stated.stated_map.Given as goal

abbrev pub invariant-loop-place : goal.invariant-loop-place
invariant-loop-place l =
    l.map ≡ map_of (flat_map (values_by l.fn.kind) (take l.place (enumerate_from 0 l.tree)))
