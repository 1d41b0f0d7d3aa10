-- A set's items by the range that they begin with.
use Rattle.std.proofs.Common.{◌≡◌, ◌≢◌, ◌≤◌, ◌<◌, ◌-◌, ◌==◌, ◌↔◌, ◌⊎◌, inl, inr, refl, ℕ, List, []}
use Rattle.std.proofs.Common.{◌∷◌, length, take, drop, slice_index_or, false, arith}
use Rattle.std.proofs.lemmas.Bool.Decides.{nat_tests}
use Rattle.std.proofs.lemmas.Grind.{common_steps}
use Rattle.glob_pattern.specs.Pattern.{Lists}
use Rattle.glob_match.specs.Front.{BeginsWith}

-- The end of a list from a place on, as a slice gives it.
pub rest_of : (n : ℕ) (xs : List ℕ) → take (length xs - n) (drop n xs) ≡ drop n xs
rest_of n xs = grind (arith, common_steps)

-- A byte is in the range from another to itself where both are equal.
alone : (a byte : ℕ) (P : Type 0) → ((byte ≡ a) ⊎ P) ↔ (((a ≤ byte) × (byte ≤ a)) ⊎ P)
alone a byte P = (
  λ h. elim h [ inl e ↦ inl (omega arith, omega arith) | inr p ↦ inr p ],
  λ h. elim h [ inl r ↦ inl (omega arith) | inr p ↦ inr p ],
)

-- Three items, by whether the second is a dash.
range_of_three : (a b c : ℕ) (items : List ℕ) (byte : ℕ) → b ≡ 45
    → Lists (a ∷ b ∷ c ∷ items) byte ≡ (((a ≤ byte) × (byte ≤ c)) ⊎ Lists items byte)
range_of_three a b c items byte e = rw e refl

dash_test : (b : ℕ) → b ≢ 45 → (b == 45) ≡ false
dash_test b e = grind (arith, nat_tests)

byte_of_three : (a b c : ℕ) (items : List ℕ) (byte : ℕ) → b ≢ 45
    → Lists (a ∷ b ∷ c ∷ items) byte ≡ ((byte ≡ a) ⊎ Lists (b ∷ c ∷ items) byte)
byte_of_three a b c items byte e = rw (dash_test b e) refl

pub begins_with_range : (items : List ℕ) → 3 ≤ length items → slice_index_or items 1 0 ≡ 45
    → BeginsWith items (slice_index_or items 0 0) (slice_index_or items 2 0) (drop 3 items)
begins_with_range [] h e = absurd (omega arith)
begins_with_range (a ∷ []) h e = absurd (omega arith)
begins_with_range (a ∷ b ∷ []) h e = absurd (omega arith)
begins_with_range (a ∷ b ∷ c ∷ items) h e = record {
  listed = λ byte. rw (range_of_three a b c items byte e) (λ x. x, λ x. x);
  shorter = omega arith;
}

pub begins_with_byte : (items : List ℕ) → 0 < length items
    → ((3 ≤ length items) → slice_index_or items 1 0 ≢ 45)
    → BeginsWith items (slice_index_or items 0 0) (slice_index_or items 0 0) (drop 1 items)
begins_with_byte [] h e = absurd (omega arith)
begins_with_byte (a ∷ []) h e = record { listed = λ byte. alone a byte _; shorter = omega arith }
begins_with_byte (a ∷ b ∷ []) h e =
    record { listed = λ byte. alone a byte _; shorter = omega arith }
begins_with_byte (a ∷ b ∷ c ∷ items) h e = record {
  listed = λ byte. rw (byte_of_three a b c items byte (e (omega arith))) (alone a byte _);
  shorter = omega arith;
}
