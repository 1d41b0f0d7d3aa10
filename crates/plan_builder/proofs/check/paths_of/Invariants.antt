use Rattle.std.proofs.Common.{◌≡◌, take, ℕ, List}
use Rattle.name_table.specs.FirstSeen.{is_among}
use Rattle.plan_builder.specs.Obstacles.{is_path_of}
use Rattle.plan_builder.proofs.check.paths_of.Given as goal

abbrev pub invariant-loop-place : goal.invariant-loop-place
invariant-loop-place l =
    (path : List ℕ)
    → is_among l.paths path ≡ is_path_of l.modules (take l.place-index l.places) path
