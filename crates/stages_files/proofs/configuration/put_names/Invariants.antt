use Rattle.std.proofs.Common.{◌≡◌, take}
use Rattle.std.specs.FinMap as fin
use Rattle.stages_files.specs.Configuration.{Named, with_names, entries_in_bytes}
use Rattle.stages_files.proofs.configuration.put_names.Given as goal

-- The names so far were put in place.
abbrev pub invariant-loop-name : goal.invariant-loop-name
invariant-loop-name l =
    (files : Named) → entries_in_bytes l.fn.found.entries ≡ fin.entries files
    → entries_in_bytes l.found.entries
    ≡ fin.entries (with_names l.folder.path (take l.name-index l.folder.names) files)
