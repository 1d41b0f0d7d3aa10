use Rattle.std.proofs.Common.{◌≡◌, ◌≤◌, drop, length}
use Rattle.std.specs.FinMap as fin
use Rattle.stages_files.specs.Configuration.{by_name, entries_in_bytes}
use Rattle.stages_files.proofs.configuration.chosen_paths.Given as goal

-- The last folders' files are there.
abbrev pub invariant-loop-left : goal.invariant-loop-left
invariant-loop-left l = record {
  files : entries_in_bytes l.found.entries ≡ fin.entries (by_name (drop l.left l.folders));
  within : l.left ≤ length l.folders;
}

abbrev pub decreases-loop-left : goal.decreases-loop-left
decreases-loop-left l = l.left
