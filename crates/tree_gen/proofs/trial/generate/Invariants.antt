use Rattle.std.proofs.Common.{◌≡◌}
use Rattle.tree_gen.specs.Trial.{start_of, trial_files}
use Rattle.tree_gen.proofs.trial.generate.Given as goal

abbrev pub invariant-loop-number : goal.invariant-loop-number
invariant-loop-number l = record {
  files : l.files ≡ trial_files l.seed l.number;
  draws : l.draws.last ≡ start_of l.seed l.number;
}
