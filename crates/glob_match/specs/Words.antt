-- Sets of numbers as bits of words.
-- The contract of `Progress` cites it; no lookup does.
use Rattle.std.specs.Prelude.{◌≡◌, ℕ, zero, suc, ◌+◌, ◌*◌, ◌<◌, ◌≤◌, ◌&&◌, ◌||◌, nat_le, Bool}
use Rattle.std.specs.Prelude.{false, List, length, slice_index, if◌then◌else◌}
use Rattle.std.specs.Int.{bit_at}

-- A test as a bit.
abbrev pub bit : Bool → ℕ
bit t = if t then 1 else 0

-- Whether a byte is in a range.
abbrev pub is_between : ℕ → ℕ → ℕ → Bool
is_between low high byte = nat_le low byte && nat_le byte high

-- The words have a bit for each number that passes the test, 64 in each word.
abbrev pub HasBits : List ℕ → (ℕ → Bool) → Type 0
HasBits words test =
    (k i : ℕ) → k < length words → i < 64 → bit_at (slice_index words k) i ≡ bit (test (64 * k + i))

-- The numbers after those that pass both tests.
abbrev pub moved : (ℕ → Bool) → (ℕ → Bool) → ℕ → Bool
moved test list zero = false
moved test list (suc n) = test n && list n

-- Whether a number up to this one passes the test.
abbrev pub any_up_to : (ℕ → Bool) → ℕ → Bool
any_up_to test zero = test 0
any_up_to test (suc n) = any_up_to test n || test (suc n)

-- The words have a bit for each number from the first one on that passes the test, and no other
-- number passes it.
pub record HasPlaces (first : ℕ) (words : List ℕ) (test : ℕ → Bool) : Type 0 where
  pub bits : HasBits words (λ n. test (first + n))
  pub before : (n : ℕ) → n < first → test n ≡ false
  pub after : (n : ℕ) → first + 64 * length words ≤ n → test n ≡ false

-- The same but for the numbers past a last one.
pub record HasFront (first last : ℕ) (words : List ℕ) (test : ℕ → Bool) : Type 0 where
  pub bits : HasBits words (λ n. test (first + n))
  pub before : (n : ℕ) → n < first → test n ≡ false
  pub after : (n : ℕ) → first + 64 * length words ≤ n → n ≤ last → test n ≡ false
