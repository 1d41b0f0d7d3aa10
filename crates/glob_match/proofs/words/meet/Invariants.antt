use Rattle.std.proofs.Common.{◌≡◌, ℕ, ◌+◌, ◌*◌, ◌<◌, ◌≤◌, ◌&&◌, Bool, false, length}
use Rattle.glob_match.specs.Words.{HasBits, HasPlaces}
use Rattle.glob_match.proofs.words.meet.Given as goal

abbrev pub invariant-loop-at : goal.invariant-loop-at
invariant-loop-at l =
    (some other : ℕ → Bool) → HasPlaces l.first l.reached some → HasBits l.words other
    → ((n : ℕ) → 64 * length l.words ≤ n → other n ≡ false) → (n : ℕ) → n < l.first + 64 * l.at
    → (some n && other n) ≡ false
