use Rattle.std.proofs.Common.{◌≡◌, ℕ, ◌<◌, ◌≤◌, length, get_or, true, eqb}
use Rattle.km_names.proofs.path.without_end_slashes.Given as goal

abbrev pub invariant-loop-end : goal.invariant-loop-end
invariant-loop-end l =
    (l.end ≤ length l.path)
    × ((k : ℕ) → l.end ≤ k → k < length l.path → eqb (get_or l.path k 0) 47 ≡ true)

abbrev pub decreases-loop-end : goal.decreases-loop-end
decreases-loop-end l = l.end
