use Rattle.std.proofs.Common.{◌≡◌, map, take}
use Rattle.std.specs.List.{zip, enumerate_from}
use Rattle.provider_rel.specs.Seen.{closures_by}
use Rattle.stated_texts.specs.Maps.{map_of}
use Rattle.depmod_core.specs.Dependencies.{dep_value}
use Rattle.depmod_core.proofs.dependencies.dep_map.Given as goal

abbrev pub invariant-loop-place : goal.invariant-loop-place
invariant-loop-place l =
    l.map
    ≡ map_of (map (dep_value l.tree)
    (take l.place (enumerate_from 0 (zip l.tree (closures_by l.relation)))))
