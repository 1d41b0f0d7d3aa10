use Rattle.std.proofs.Common.{List, drop}
use Rattle.outside_calls.specs.OutSeen.{OutSeen}
use Rattle.km_course.specs.World.{world}
use Rattle.km_course.proofs.Steps.{LeadsTo}
use Rattle.stages_files.specs.declared.configuration.ListedFolder.{ListedFolder}
use Rattle.stages_files.specs.Configuration.{folder_name, lists_folders}
use Rattle.stages_files.proofs.ConfigurationSteps.{folders_rest}
use Rattle.stages_files.proofs.configuration.list_folders.Given as goal

-- Whatever lists the other folders from here lists all from the start.
abbrev pub invariant-loop-root : goal.invariant-loop-root
invariant-loop-root g l =
    (out err : OutSeen)
    → LeadsTo (λ (x : List ListedFolder). x) (lists_folders (folder_name l.fn.tool) l.roots)
    (world (g.F.Reads.seen l.fn.files) out err)
    (folders_rest (folder_name l.fn.tool) (drop l.root-index l.roots) l.listed)
    (world (g.F.Reads.seen l.files) out err)
