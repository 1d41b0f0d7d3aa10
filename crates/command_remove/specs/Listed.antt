-- The modules that are listed as loaded, as a removal takes them. modprobe(8), modules.dep(5),
-- proc(5).
use Rattle.std.specs.Prelude.{ℕ, List, Option, None, if◌then◌else◌}
use Rattle.index_read.specs.Contents.{contents}
use Rattle.name_lookup.specs.declared.indexes.Indexes.{Indexes}
use Rattle.dependency_lines.specs.Modules.{is_well_formed}
use Rattle.stages_files.specs.KernelModules.{path_listed}

-- The path of the module of a name: the first of its dependency line, if its value is well formed.
-- No plan is made that would refuse another value.
abbrev pub well_formed_path : Indexes → List ℕ → Option (List ℕ)
well_formed_path indexes name =
    if is_well_formed (contents indexes.dep.nodes) name then path_listed indexes.dep name else None
