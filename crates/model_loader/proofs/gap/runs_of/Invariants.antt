use Rattle.std.proofs.Common.{◌≡◌, take, map}
use Rattle.model_loader.specs.Runs.{run_of}
use Rattle.model_loader.proofs.gap.runs_of.Given as goal

abbrev pub invariant-loop-entry : goal.invariant-loop-entry
invariant-loop-entry l = l.runs.items ≡ map run_of (take l.entry-index l.entries)
