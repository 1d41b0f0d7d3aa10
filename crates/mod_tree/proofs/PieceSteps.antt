-- The pieces of a text between spaces, taken off one by one.
use Rattle.std.proofs.Common.{◌≡◌, ℕ, suc, ◌+◌, ◌<◌, ◌==◌, Bool, true, false, List, [], ◌∷◌, length}
use Rattle.std.proofs.Common.{take, drop, refl, sym, ap, ◌∙◌, arith}
use Rattle.std.specs.Prelude.{◌&&◌, slice_index}
use Rattle.std.specs.List.{slice_split, onto_first, before_first, position_or_len, list_all}
use Rattle.std.proofs.lemmas.List.Splits.{slice_split-cons_no}
use Rattle.mod_tree.specs.DependencyLine.{is_line_path, are_needed}

-- The first piece, and the others, which also follow an empty piece where the text begins with what
-- parts it.
record Cut (p : ℕ → Bool) (xs : List ℕ) : Type 0 where
  pub more : List (List ℕ)
  pub front : slice_split p xs ≡ before_first p xs ∷ more
  pub rest : slice_split p (drop (length (before_first p xs)) xs) ≡ [] ∷ more

-- A byte that parts nothing belongs to the first piece.
take_next : (n x : ℕ) (xs : List ℕ) → take (1 + n) (x ∷ xs) ≡ x ∷ take n xs
take_next n x xs = let e : 1 + n ≡ suc n = omega arith in ap (λ m. take m (x ∷ xs)) e

pub front_no : (p : ℕ → Bool) (x : ℕ) (xs : List ℕ) → p x ≡ false
    → before_first p (x ∷ xs) ≡ x ∷ before_first p xs
front_no p x xs e = rw e (take_next (position_or_len p xs) x xs)

cut : (p : ℕ → Bool) (xs : List ℕ) → Cut p xs
cut p [] = record { more = []; front = refl; rest = refl }
cut p (x ∷ xs) = by_test (p x) refl (cut p xs)
  where
    by_test : (b : Bool) → p x ≡ b → Cut p xs → Cut p (x ∷ xs)
    by_test true e c = record { more = slice_split p xs; front = simp e; rest = simp e }
    by_test false e c =
        let f = front_no p x xs e in
        record {
          more = c.more;
          front
              = slice_split-cons_no p x xs e ∙ ap (onto_first x) c.front
              ∙ ap (λ piece. piece ∷ c.more) (sym f);
          rest = ap (λ piece. slice_split p (drop (length piece) (x ∷ xs))) f ∙ c.rest;
        }

-- A space, and then the first piece and the others.
pub needed-next : (xs : List ℕ)
    → are_needed (slice_split (λ b. b == 32) (32 ∷ xs))
    ≡ (is_line_path (before_first (λ b. b == 32) xs)
    && are_needed
    (slice_split (λ b. b == 32)
    (drop (length (before_first (λ b. b == 32) xs)) xs)))
needed-next xs =
    let c = cut (λ b. b == 32) xs in
    ap (list_all is_line_path) c.front
    ∙ sym (ap (λ pieces. is_line_path (before_first (λ b. b == 32) xs) && are_needed pieces) c.rest)

-- The same of a text that begins with a space, where these are the parts of it.
pub needed-parts : (text paths path after : List ℕ) → 0 < length text → slice_index text 0 ≡ 32
    → paths ≡ drop 1 text → path ≡ before_first (λ b. b == 32) paths
    → after ≡ drop (length path) paths
    → are_needed (slice_split (λ b. b == 32) text)
    ≡ (is_line_path path && are_needed (slice_split (λ b. b == 32) after))
needed-parts [] paths path after h s p q r = absurd (omega arith)
needed-parts (x ∷ xs) paths path after h s p q r = rw (s, r, q, p) (needed-next xs)

-- What doesn't begin with a space has no path after one.
pub needed-none : (xs : List ℕ) → 0 < length xs → (slice_index xs 0 == 32) ≡ false
    → are_needed (slice_split (λ b. b == 32) xs) ≡ false
needed-none [] h e = absurd (omega arith)
needed-none (x ∷ xs) h e = rw e (onto (slice_split (λ b. b == 32) xs))
  where
    onto : (pieces : List (List ℕ)) → are_needed (onto_first x pieces) ≡ false
    onto [] = refl
    onto (piece ∷ pieces) = refl
