-- Lists of tests: the first that fails.
use Rattle.std.proofs.Common.{◌≡◌, ℕ, zero, suc, ◌+◌, ◌<◌, List, [], ◌∷◌, ◌++◌, map, Option, Some}
use Rattle.std.proofs.Common.{None, refl, arith}
use Rattle.std.proofs.Math.Nat.{add-zero, zero-add}
use Rattle.std.specs.List.{range_with_len}
use Rattle.km_names.specs.First.{first}
use Rattle.elf_sections.specs.Shape.{each}

-- where the front passes, the rest decides
pub first-passed : {F : Type 0} (front rest : List (Option F)) → first front ≡ None
    → first (front ++ rest) ≡ first rest
first-passed [] rest passed = refl
first-passed (None ∷ front) rest passed = first-passed front rest passed
first-passed (Some fault ∷ front) rest passed = cc

-- where the front fails, it decides
pub first-failed : {F : Type 0} (front rest : List (Option F)) (fault : F)
    → first front ≡ Some fault → first (front ++ rest) ≡ Some fault
first-failed [] rest fault failed = cc
first-failed (None ∷ front) rest fault failed = first-failed front rest fault failed
first-failed (Some other ∷ front) rest fault failed = failed

-- the n tests from a on pass
from-passed : {F : Type 0} (test : ℕ → Option F) (a n : ℕ) → ((k : ℕ) → k < n → test (a + k) ≡ None)
    → first (map test (range_with_len a n)) ≡ None
from-passed test a zero passed = refl
from-passed test a (suc n) passed =
    let here : test a ≡ None = rw (add-zero a) at (passed 0 (omega arith)) in
    rw here (from-passed test (a + 1) n (λ k less.
    let same : a + suc k ≡ a + 1 + k = omega arith in rw same at (passed (suc k) (omega arith))))

-- of the n tests from a on, the first one that fails
from-failed : {F : Type 0} (test : ℕ → Option F) (a n i : ℕ) (fault : F) → i < n
    → ((k : ℕ) → k < i → test (a + k) ≡ None) → test (a + i) ≡ Some fault
    → first (map test (range_with_len a n)) ≡ Some fault
from-failed test a zero i fault within passed failed = absurd (omega arith)
from-failed test a (suc n) zero fault within passed failed =
    let here : test a ≡ Some fault = rw (add-zero a) at failed in rw here refl
from-failed test a (suc n) (suc i) fault within passed failed =
    let here : test a ≡ None = rw (add-zero a) at (passed 0 (omega arith)) in
    let there : a + suc i ≡ a + 1 + i = omega arith in
    rw here (from-failed test (a + 1) n i fault (omega arith)
    (λ k less. let same : a + suc k ≡ a + 1 + k
    = omega arith in rw same at (passed (suc k) (omega arith)))
    (rw there at failed))

-- all of the numbered tests pass
pub each-passed : {F : Type 0} (n : ℕ) (test : ℕ → Option F) → ((k : ℕ) → k < n → test k ≡ None)
    → first (each n test) ≡ None
each-passed n test passed =
    from-passed test 0 n (λ k less. rw (zero-add k) (passed k less))

-- the first of the numbered tests that fails
pub each-failed : {F : Type 0} (n : ℕ) (test : ℕ → Option F) (i : ℕ) (fault : F) → i < n
    → ((k : ℕ) → k < i → test k ≡ None) → test i ≡ Some fault → first (each n test) ≡ Some fault
each-failed n test i fault within passed failed =
    from-failed test 0 n i fault within (λ k less. rw (zero-add k) (passed k less))
    (rw (zero-add i) failed)
