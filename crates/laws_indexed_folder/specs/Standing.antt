-- What is never an obstacle to a plan over files that depmod wrote. depmod(8), modules.dep(5).
use Rattle.std.specs.Prelude.{◌≡◌, ℕ, List, Some, None}
use Rattle.module_facts.specs.declared.facts.Facts.{Facts}
use Rattle.symbol_binding.specs.Symbols.{Kernel as SeenKernel}
use Rattle.kernel_exports.specs.declared.kernel.Kernel.{Kernel}
use Rattle.provider_rel.specs.Tree.{IsTree}
use Rattle.depmod_core.specs.Files.{StandFor, files, output_fault}
use Rattle.plan_builder.specs.declared.request.Request.{Request}
use Rattle.plan_sources.specs.Sources.{Sources}
use Rattle.plan_builder.specs.Obstacles.{bad_dep_line, obstacle_of}
use Rattle.laws_indexed_folder.specs.Binding.{StandsAsIndexed}

-- The files that depmod makes of a tree represent what they are made of, if none of them is too
-- large.
abbrev pub FilesStand : Type 0
FilesStand =
    (tree : List Facts) (kernel : SeenKernel) (builtin : List ℕ)
    → IsTree tree
    → output_fault (files tree kernel builtin) ≡ None
    → StandFor tree kernel builtin (files tree kernel builtin)

-- Over the dependency lines of a tree no request is refused for a value that is no dependency line.
abbrev pub LinesAreNoObstacle : Type 0
LinesAreNoObstacle =
    (tree : List Facts) (kernel : Kernel) (s : Sources) (request : Request) (name : List ℕ)
    → StandsAsIndexed tree kernel s.maps.dep
    → obstacle_of s request ≡ Some (bad_dep_line name)
    → ⊥
