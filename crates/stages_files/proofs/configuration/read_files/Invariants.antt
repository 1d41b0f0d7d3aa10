use Rattle.std.proofs.Common.{List, ◌≤◌, drop, length}
use Rattle.std.specs.Prelude.{All}
use Rattle.km_names.specs.Limit.{file_limit}
use Rattle.km_names.specs.declared.conf.ConfFile.{ConfFile}
use Rattle.outside_calls.specs.OutSeen.{OutSeen}
use Rattle.km_course.specs.World.{world}
use Rattle.km_course.proofs.Steps.{LeadsTo}
use Rattle.stages_files.specs.Configuration.{reads_files}
use Rattle.stages_files.proofs.ConfigurationSteps.{files_rest}
use Rattle.stages_files.proofs.configuration.read_files.Given as goal

-- Whatever reads the other files from here reads all from the start.
abbrev pub invariant-loop-path : goal.invariant-loop-path
invariant-loop-path g l = record {
  follows : (out err : OutSeen) → LeadsTo (λ (x : List ConfFile). x) (reads_files l.paths)
      (world (g.F.Reads.seen l.fn.files) out err)
      (files_rest (drop l.path-index l.paths) l.read)
      (world (g.F.Reads.seen l.files) out err);
  limit : All (λ (file : ConfFile). length file.bytes ≤ file_limit) l.read;
}
