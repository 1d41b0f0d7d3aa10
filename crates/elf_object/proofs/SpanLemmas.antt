-- Counting the items that have a number between their first number and their end.
use Rattle.std.proofs.Common.{◌≡◌, ℕ, ◌+◌, ◌<◌, ◌≤◌, true, false, cond, ltb, leb, List, [], ◌∷◌}
use Rattle.std.proofs.Common.{◌++◌, refl, inl, inr, arith}
use Rattle.std.proofs.lemmas.Bool.{and_parts, cases_Bool, leb-true, ltb-true, le-leb, lt-ltb}
use Rattle.std.proofs.lemmas.Bool.{and_from}
use Rattle.std.proofs.lemmas.Bool.Decides.{nat_tests}
use Rattle.std.proofs.lemmas.List.Sums.{sum_by_push}
use Rattle.elf_object.specs.Overlap.{IsApart, is_between}

pub is_between-true : (low high a : ℕ) → is_between low high a ≡ true → (low ≤ a) × (a < high)
is_between-true low high a is =
    let parts
    = and_parts (leb low a) (ltb a high) is in (leb-true low a parts.0, ltb-true a high parts.1)

pub is_between-from : (low high a : ℕ) → low ≤ a → a < high → is_between low high a ≡ true
is_between-from low high a above below =
    and_from (leb low a) (ltb a high) (le-leb low a above) (lt-ltb a high below)

pub is_between-past : (low high a : ℕ) → high ≤ a → is_between low high a ≡ false
is_between-past low high a past = grind (arith, nat_tests)

pub is_between-empty : (low a : ℕ) → is_between low (low + 0) a ≡ false
is_between-empty low a = grind (arith, nat_tests)

-- one more item at the end, which begins at the end or later
pub IsApart-push : {X : Type 0} (start finish : X → ℕ) (xs : List X) (x : X) (end : ℕ)
    → IsApart start finish xs end → end ≤ start x → start x ≤ finish x
    → IsApart start finish (xs ++ x ∷ []) (finish x)
IsApart-push start finish xs x end apart after ordered = record {
  once = λ a.
      let b = is_between (start x) (finish x) a in
      let more = sum_by_push (λ y. cond (is_between (start y) (finish y) a) 1 0) xs x in
      elim (cases_Bool b) [
        | inl yes' ↦
            let low = (is_between-true (start x) (finish x) a yes').0 in
            let none = apart.past a (omega arith) in
            rw (more, none, yes') (omega arith)
        | inr no' ↦ let before = apart.once a in rw (more, no') (omega arith)
      ];
  past = λ a later.
      let more = sum_by_push (λ y. cond (is_between (start y) (finish y) a) 1 0) xs x in
      let none = apart.past a (omega arith) in
      rw (more, none, is_between-past (start x) (finish x) a later) refl;
}

-- one more item without bytes
pub IsApart-push_empty : {X : Type 0} (start finish : X → ℕ) (xs : List X) (x : X) (end : ℕ)
    → IsApart start finish xs end → finish x ≡ start x + 0 → IsApart start finish (xs ++ x ∷ []) end
IsApart-push_empty start finish xs x end apart empty = record {
  once = λ a.
      let more
      = rw (empty, is_between-empty (start x) a) at
      (sum_by_push (λ y. cond (is_between (start y) (finish y) a) 1 0) xs x) in
      let before = apart.once a in
      omega arith;
  past = λ a later.
      let more
      = rw (empty, is_between-empty (start x) a) at
      (sum_by_push (λ y. cond (is_between (start y) (finish y) a) 1 0) xs x) in
      let before = apart.past a later in
      omega arith;
}

-- no item counts nothing
pub IsApart-none : {X : Type 0} (start finish : X → ℕ) → IsApart start finish [] 0
IsApart-none start finish = record { once = λ a. omega arith; past = λ a later. refl }
