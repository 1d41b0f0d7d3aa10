use Rattle.std.proofs.Common.{◌≡◌, ◌++◌, drop}
use Rattle.std.specs.Prelude.{map}
use Rattle.std.specs.List.{flat_map}
use Rattle.km_names.specs.First.{first}
use Rattle.command_modprobe.specs.Loaded.{command_owner, inserted}
use Rattle.command_modprobe.proofs.load.inserts_of.Given as goal

-- The steps so far run no command, and the modules that they load are there.
abbrev pub invariant-loop-step : goal.invariant-loop-step
invariant-loop-step l = record {
  command : first (map command_owner (drop l.step-index l.steps))
      ≡ first (map command_owner l.steps);
  inserts : l.inserts ++ flat_map inserted (drop l.step-index l.steps) ≡ flat_map inserted l.steps;
}
