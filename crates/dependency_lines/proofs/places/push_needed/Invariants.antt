use Rattle.std.proofs.Common.{◌≡◌, ◌++◌, ◌==◌, length, map}
use Rattle.std.specs.List.{slice_split}
use Rattle.km_names.specs.Path.{module_name}
use Rattle.mod_tree.specs.DependencyLine.{needed_paths}
use Rattle.dependency_lines.specs.Modules.{needed_names, places_of}
use Rattle.dependency_lines.proofs.places.push_needed.Given as goal

abbrev pub invariant-loop-after : goal.invariant-loop-after
invariant-loop-after l =
    l.places.items
    ++ places_of l.modules (map module_name (needed_paths (slice_split (λ b. b == 32) l.rest)))
    ≡ l.fn.places.items ++ places_of l.modules (needed_names l.fn.line)

abbrev pub decreases-loop-after : goal.decreases-loop-after
decreases-loop-after l = length l.rest
