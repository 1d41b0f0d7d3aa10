-- The table's words from what the code computes.
use Rattle.std.proofs.Common.{◌≡◌, ◌<◌, ◌+◌, ◌-◌, ◌%◌, ◌^◌, ◌&&◌, ℕ, ℤ, pos, negsuc, neg_ℤ, ◌≤ℤ◌}
use Rattle.std.proofs.Common.{◌<ℤ◌, ◌+ℤ◌, ◌-ℤ◌, Bool, true, false, refl, Ok, Err, arith, to_z, of_z}
use Rattle.std.proofs.Common.{w64, FitsSigned}
use Rattle.std.proofs.lemmas.Bool.Decides.{nat_tests}
use Rattle.std.proofs.lemmas.Int.{ints}
use Rattle.std.specs.Prelude.{int_le}
use Rattle.km_names.specs.Number.{signed}
use Rattle.x86_relocate.specs.Word.{modulo, sign_extended}
use Rattle.x86_relocate.specs.declared.word.Written.TheVariants.{Four}

signed_is : (v : ℕ) → v < 2 ^ 64 → signed v ≡ to_z w64 v
unfolding signed
signed_is v h = grind (arith, ints, nat_tests)

le_test : (a b : ℤ) → a ≤ℤ b → int_le a b ≡ true
le_test a b h = grind (arith, ints)

gt_test : (a b : ℤ) → b <ℤ a → int_le a b ≡ false
gt_test a b h = grind (arith, ints)

and_false : (b : Bool) → (b && false) ≡ false
and_false true = refl
and_false false = refl

pub fits_sign_extended : (v : ℕ) → v < 2 ^ 64 → neg_ℤ (pos (2 ^ 31)) ≤ℤ to_z w64 v
    → to_z w64 v ≤ℤ pos (2 ^ 31 - 1) → sign_extended v ≡ Ok (Four (v % 2 ^ 32))
fits_sign_extended v h low high = rw (signed_is v h, le_test _ _ low, le_test _ _ high) refl

pub low_sign_extended : (v : ℕ) → v < 2 ^ 64 → to_z w64 v <ℤ neg_ℤ (pos (2 ^ 31))
    → sign_extended v ≡ Err (record {})
low_sign_extended v h low = rw (signed_is v h, gt_test _ _ low) refl

pub high_sign_extended : (v : ℕ) → v < 2 ^ 64 → pos (2 ^ 31 - 1) <ℤ to_z w64 v
    → sign_extended v ≡ Err (record {})
high_sign_extended v h high = rw (signed_is v h, gt_test _ _ high, and_false) refl

-- Sums modulo 2^64, as the code takes them.
pub modulo_sum : (s : ℕ) (a : ℤ) → s < 2 ^ 64 → FitsSigned w64 a
    → (s + of_z w64 a) % 2 ^ 64 ≡ modulo (pos s +ℤ a)
modulo_sum s (pos n) h f = refl
modulo_sum s (negsuc n) h f = grind (arith, ints, nat_tests)

pub modulo_difference : (z : ℤ) (p : ℕ) → p < 2 ^ 64
    → (modulo z + (2 ^ 64 - p)) % 2 ^ 64 ≡ modulo (z -ℤ pos p)
modulo_difference (pos n) p h = grind (arith, ints, nat_tests)
modulo_difference (negsuc n) p h = grind (arith, ints, nat_tests)

pub relative_is : (s : ℕ) (a : ℤ) (p absolute : ℕ) → s < 2 ^ 64 → FitsSigned w64 a → p < 2 ^ 64
    → absolute ≡ (s + of_z w64 a) % 2 ^ 64
    → (absolute + (2 ^ 64 - p)) % 2 ^ 64 ≡ modulo (pos s +ℤ a -ℤ pos p)
relative_is s a p absolute hs ha hp e =
    rw (e, modulo_sum s a hs ha) (modulo_difference (pos s +ℤ a) p hp)
