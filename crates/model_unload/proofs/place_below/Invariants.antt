use Rattle.std.proofs.Common.{◌≡◌, ◌<◌, ℕ, Some}
use Rattle.model_unload.specs.Unload.{place_of}
use Rattle.model_unload.proofs.place_below.Given as goal

abbrev pub invariant-loop-k : goal.invariant-loop-k
invariant-loop-k l = (j : ℕ) → place_of l.machine l.name ≡ Some j → j < l.k
