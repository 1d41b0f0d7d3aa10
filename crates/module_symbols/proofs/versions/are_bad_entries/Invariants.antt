use Rattle.std.proofs.Common.{◌≡◌, ℕ, ◌<◌, false, is_none}
use Rattle.module_symbols.specs.Versions.{entry_name}
use Rattle.module_symbols.proofs.versions.are_bad_entries.Given as goal

abbrev pub invariant-loop-k : goal.invariant-loop-k
invariant-loop-k l = (k : ℕ) → k < l.k → is_none (entry_name l.bytes k) ≡ false
