use Rattle.std.proofs.Common.{◌≡◌, take, ℕ, List}
use Rattle.name_table.specs.FirstSeen.{is_among}
use Rattle.plan_sources.specs.Sources.{is_troubled}
use Rattle.plan_sources.proofs.planner.troubled_paths.Given as goal

abbrev pub invariant-loop-line : goal.invariant-loop-line
invariant-loop-line l =
    (path : List ℕ) → is_among l.paths path ≡ is_troubled (take l.line-index l.unmet) path
