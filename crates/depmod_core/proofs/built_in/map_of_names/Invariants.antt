use Rattle.std.proofs.Common.{◌≡◌, [], ℕ, List, map, take}
use Rattle.stated_texts.specs.Maps.{map_of}
use Rattle.depmod_core.proofs.built_in.map_of_names.Given as goal

abbrev pub invariant-loop-place : goal.invariant-loop-place
invariant-loop-place l =
    l.map ≡ map_of (map (λ (name : List ℕ). (name, (0, []))) (take l.place l.names))
