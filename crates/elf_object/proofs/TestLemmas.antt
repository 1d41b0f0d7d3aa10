-- Lists of tests that pass.
use Rattle.std.proofs.Common.{◌≡◌, ℕ, zero, suc, ◌+◌, ◌<◌, List, ◌∷◌, map, Option, Some, None, refl}
use Rattle.std.proofs.Common.{arith, Bool, true, false}
use Rattle.std.proofs.Math.Nat.{add-zero, zero-add}
use Rattle.std.proofs.lemmas.List.FromFn.{get_or-range_with_len, length-range_with_len}
use Rattle.std.specs.Prelude.{All}
use Rattle.std.specs.List.{range_with_len}
use Rattle.km_names.specs.First.{first}
use Rattle.elf_sections.specs.Shape.{each, fault_if}

-- both parts of a list of tests that pass
pub first-parts : {F : Type 0} (test : Option F) (rest : List (Option F))
    → first (test ∷ rest) ≡ None → (test ≡ None) × (first rest ≡ None)
first-parts None rest passed = (refl, passed)
first-parts (Some fault) rest passed = cc

-- a test that passed
pub fault_if-none : {F : Type 0} (x : Bool) (fault : F) → fault_if x fault ≡ None → x ≡ false
fault_if-none true fault passed = cc
fault_if-none false fault passed = refl

-- each of the n tests from a on that pass
from-none : {F : Type 0} (test : ℕ → Option F) (a n k : ℕ)
    → first (map test (range_with_len a n)) ≡ None → k < n → test (a + k) ≡ None
from-none test a zero k passed less = absurd (omega arith)
from-none test a (suc n) zero passed less =
    rw (add-zero a) (first-parts (test a) (map test (range_with_len (a + 1) n)) passed).0
from-none test a (suc n) (suc k) passed less =
    let same : a + suc k ≡ a + 1 + k = omega arith in
    rw same (from-none test (a + 1) n k
    (first-parts (test a) (map test (range_with_len (a + 1) n)) passed).1 (omega arith))

-- each of the numbered tests that pass
pub each-none : {F : Type 0} (n : ℕ) (test : ℕ → Option F) → first (each n test) ≡ None → (k : ℕ)
    → k < n → test k ≡ None
each-none n test passed k less = rw zero-add at (from-none test 0 n k passed less)

-- two numberings of the same values
from-same : {X : Type 0} (f g : ℕ → X) (a n : ℕ) → ((k : ℕ) → f k ≡ g k)
    → map f (range_with_len a n) ≡ map g (range_with_len a n)
from-same f g a zero same = refl
from-same f g a (suc n) same = rw (same a, from-same f g (a + 1) n same) refl

pub map-range-same : {X : Type 0} (f g : ℕ → X) (n : ℕ) → ((k : ℕ) → f k ≡ g k)
    → map f (range_with_len 0 n) ≡ map g (range_with_len 0 n)
map-range-same f g n same = from-same f g 0 n same

-- what holds of each number below n
pub All-range : (P : ℕ → Type 0) (n : ℕ) → ((k : ℕ) → k < n → P k) → All P (range_with_len 0 n)
All-range P n holds = λ k d less.
    let length_is = length-range_with_len 0 n in
    let below : k < n = omega arith in
    rw (get_or-range_with_len 0 n k d below, zero-add k) (holds k below)
