use Rattle.std.proofs.Common.{◌≡◌, ◌-◌, ◌≤◌, drop, find, length, map}
use Rattle.std.specs.Str.{bytes_eq}
use Rattle.module_symbols.specs.Listed.{version_entry}
use Rattle.module_symbols.proofs.version_list.first_version.Given as goal

abbrev pub invariant-loop-place : goal.invariant-loop-place
invariant-loop-place l = record {
  within : l.from ≤ length l.entries;
  found : find (λ v. bytes_eq v.0 l.name) (map version_entry l.entries)
      ≡ find (λ v. bytes_eq v.0 l.name) (map version_entry (drop l.from l.entries));
}

abbrev pub decreases-loop-place : goal.decreases-loop-place
decreases-loop-place l = length l.entries - l.from
