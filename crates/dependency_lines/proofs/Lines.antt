-- The paths of a dependency line, taken off one by one.
use Rattle.std.proofs.Common.{◌≡◌, ℕ, suc, ◌+◌, ◌<◌, ◌≤◌, Bool, true, false, List, [], ◌∷◌, length}
use Rattle.std.proofs.Common.{take, drop, map, refl, sym, ap, ◌∙◌, arith}
use Rattle.std.specs.Prelude.{◌&&◌, ◌||◌, ◌==◌, slice_index}
use Rattle.std.specs.List.{slice_split, onto_first, before_first, after_first, position_or_len}
use Rattle.std.specs.List.{list_all, list_any}
use Rattle.std.specs.Str.{bytes_eq}
use Rattle.std.proofs.lemmas.Bool.{true≢false}
use Rattle.std.proofs.lemmas.List.{length-drop}
use Rattle.std.proofs.lemmas.List.Splits.{slice_split-cons_no, slice_split-cons_yes}
use Rattle.mod_tree.specs.DependencyLine.{is_line_path, are_needed, needed_paths, line_needs}
use Rattle.mod_tree.specs.DependencyLine.{is_dependency_line, own_path}
use Rattle.mod_tree.proofs.PieceSteps.{needed-none}
use Rattle.dependency_lines.specs.Modules.{is_line_of, needed_names}
use Rattle.dependency_lines.specs.GoodPaths.{begins_line, is_good, are_good_needs}
use Rattle.km_names.specs.Path.{module_name}

take_next : (n x : ℕ) (xs : List ℕ) → take (1 + n) (x ∷ xs) ≡ x ∷ take n xs
take_next n x xs = let e : 1 + n ≡ suc n = omega arith in ap (λ m. take m (x ∷ xs)) e

-- what is left of the first piece doesn't count
others : (x : ℕ) (pieces : List (List ℕ)) → needed_paths (onto_first x pieces) ≡ needed_paths pieces
others x [] = refl
others x (piece ∷ pieces) = refl

-- the first piece, and the others
front : (p : ℕ → Bool) (xs : List ℕ)
    → slice_split p xs ≡ before_first p xs ∷ needed_paths (slice_split p xs)
front p [] = refl
front p (x ∷ xs) = by_test (p x) refl (front p xs)
  where
    by_test : (b : Bool) → p x ≡ b
        → slice_split p xs ≡ before_first p xs ∷ needed_paths (slice_split p xs)
        → slice_split p (x ∷ xs) ≡ before_first p (x ∷ xs) ∷ needed_paths (slice_split p (x ∷ xs))
    by_test true e c = simp e
    by_test false e c =
        let whole = slice_split-cons_no p x xs e in
        let head : before_first p (x ∷ xs) ≡ x ∷ before_first p xs
        = rw e (take_next (position_or_len p xs) x xs) in
        whole ∙ ap (onto_first x) c
        ∙ ap (λ piece. piece ∷ needed_paths (slice_split p xs)) (sym head)
        ∙ ap (λ ps. before_first p (x ∷ xs) ∷ ps)
        (sym (ap needed_paths whole ∙ others x (slice_split p xs)))

after-yes : (p : ℕ → Bool) (x : ℕ) (xs : List ℕ) → p x ≡ true → after_first p (x ∷ xs) ≡ xs
after-yes p x xs e = rw e refl

after-no : (p : ℕ → Bool) (x : ℕ) (xs : List ℕ) → p x ≡ false
    → after_first p (x ∷ xs) ≡ after_first p xs
after-no p x xs e =
    rw e (let n : 1 + position_or_len p xs + 1 ≡ suc (position_or_len p xs + 1)
    = omega arith in ap (λ m. drop m (x ∷ xs)) n)

-- the pieces after the first
pub others-next : (p : ℕ → Bool) (xs : List ℕ) → list_any p xs ≡ true
    → needed_paths (slice_split p xs)
    ≡ before_first p (after_first p xs) ∷ needed_paths (slice_split p (after_first p xs))
others-next p [] h = absurd (true≢false (sym h))
others-next p (x ∷ xs) h = by_test (p x) refl h (others-next p xs)
  where
    by_test : (b : Bool) → p x ≡ b → (b || list_any p xs) ≡ true
        → (list_any p xs ≡ true
        → needed_paths (slice_split p xs)
        ≡ before_first p (after_first p xs)
        ∷ needed_paths (slice_split p (after_first p xs)))
        → needed_paths (slice_split p (x ∷ xs))
        ≡ before_first p (after_first p (x ∷ xs))
        ∷ needed_paths (slice_split p (after_first p (x ∷ xs)))
    by_test true e h ih =
        ap needed_paths (slice_split-cons_yes p x xs e) ∙ front p xs
        ∙ ap (λ ys. before_first p ys ∷ needed_paths (slice_split p ys)) (sym (after-yes p x xs e))
    by_test false e h ih =
        ap needed_paths (slice_split-cons_no p x xs e) ∙ others x (slice_split p xs) ∙ ih h
        ∙ ap (λ ys. before_first p ys ∷ needed_paths (slice_split p ys)) (sym (after-no p x xs e))

-- what follows the first piece is shorter
pub after-shorter : (p : ℕ → Bool) (xs : List ℕ) → list_any p xs ≡ true
    → length (after_first p xs) < length xs
after-shorter p [] h = absurd (true≢false (sym h))
after-shorter p (x ∷ xs) h = omega (arith, length-drop (position_or_len p (x ∷ xs) + 1) (x ∷ xs))

pub others-none : (p : ℕ → Bool) (xs : List ℕ) → list_any p xs ≡ false
    → needed_paths (slice_split p xs) ≡ []
others-none p [] h = refl
others-none p (x ∷ xs) h = by_test (p x) refl h (others-none p xs)
  where
    by_test : (b : Bool) → p x ≡ b → (b || list_any p xs) ≡ false
        → (list_any p xs ≡ false → needed_paths (slice_split p xs) ≡ [])
        → needed_paths (slice_split p (x ∷ xs)) ≡ []
    by_test true e h ih = absurd (true≢false h)
    by_test false e h ih
        = ap needed_paths (slice_split-cons_no p x xs e) ∙ others x (slice_split p xs) ∙ ih h

-- a byte passes exactly where something is left after the first part
before-yes : (p : ℕ → Bool) (x : ℕ) (xs : List ℕ) → p x ≡ true → before_first p (x ∷ xs) ≡ []
before-yes p x xs e = simp e

before-no : (p : ℕ → Bool) (x : ℕ) (xs : List ℕ) → p x ≡ false
    → before_first p (x ∷ xs) ≡ x ∷ before_first p xs
before-no p x xs e = rw e (take_next (position_or_len p xs) x xs)

pub any-short : (p : ℕ → Bool) (xs : List ℕ) → length (before_first p xs) < length xs
    → list_any p xs ≡ true
any-short p [] l = absurd (omega (arith, l))
any-short p (x ∷ xs) l = go (p x) refl (any-short p xs)
  where
    go : (b : Bool) → p x ≡ b → (length (before_first p xs) < length xs → list_any p xs ≡ true)
        → list_any p (x ∷ xs) ≡ true
    go true e more = ap (λ b. b || list_any p xs) e
    go false e more = λ i. e i || more (omega (arith, ap length (before-no p x xs e), l)) i

-- and then the first part is shorter
pub any-long : (p : ℕ → Bool) (xs : List ℕ) → list_any p xs ≡ true
    → length (before_first p xs) < length xs
any-long p [] h = absurd (true≢false (sym h))
any-long p (x ∷ xs) h = go (p x) refl h (any-long p xs)
  where
    go : (b : Bool) → p x ≡ b → (b || list_any p xs) ≡ true
        → (list_any p xs ≡ true → length (before_first p xs) < length xs)
        → length (before_first p (x ∷ xs)) < length (x ∷ xs)
    go true e h more = omega (arith, ap length (before-yes p x xs e))
    go false e h more = omega (arith, ap length (before-no p x xs e), more h)

-- the first part by its length, and what follows the byte after it
pub before-front : (p : ℕ → Bool) (xs : List ℕ)
    → take (length (before_first p xs)) xs ≡ before_first p xs
before-front p [] = refl
before-front p (x ∷ xs) = go (p x) refl (before-front p xs)
  where
    go : (b : Bool) → p x ≡ b → take (length (before_first p xs)) xs ≡ before_first p xs
        → take (length (before_first p (x ∷ xs))) (x ∷ xs) ≡ before_first p (x ∷ xs)
    go true e more =
        let none = before-yes p x xs e in
        ap (λ ys. take (length ys) (x ∷ xs)) none ∙ sym none
    go false e more =
        let next = before-no p x xs e in
        ap (λ ys. take (length ys) (x ∷ xs)) next ∙ ap (λ ys. x ∷ ys) more ∙ sym next

pub after-rest : (p : ℕ → Bool) (xs : List ℕ) → list_any p xs ≡ true
    → drop (length (before_first p xs) + 1) xs ≡ after_first p xs
after-rest p [] h = absurd (true≢false (sym h))
after-rest p (x ∷ xs) h = go (p x) refl h (after-rest p xs)
  where
    go : (b : Bool) → p x ≡ b → (b || list_any p xs) ≡ true
        → (list_any p xs ≡ true → drop (length (before_first p xs) + 1) xs ≡ after_first p xs)
        → drop (length (before_first p (x ∷ xs)) + 1) (x ∷ xs) ≡ after_first p (x ∷ xs)
    go true e h more =
        ap (λ ys. drop (length ys + 1) (x ∷ xs)) (before-yes p x xs e) ∙ sym (after-yes p x xs e)
    go false e h more =
        let n : length (x ∷ before_first p xs) + 1 ≡ suc (length (before_first p xs) + 1)
        = omega arith in
        ap (λ ys. drop (length ys + 1) (x ∷ xs)) (before-no p x xs e)
        ∙ ap (λ m. drop m (x ∷ xs)) n ∙ more h ∙ sym (after-no p x xs e)

pub any-whole : (p : ℕ → Bool) (xs : List ℕ) → length xs ≤ length (before_first p xs)
    → list_any p xs ≡ false
any-whole p [] l = refl
any-whole p (x ∷ xs) l = go (p x) refl (any-whole p xs)
  where
    go : (b : Bool) → p x ≡ b → (length xs ≤ length (before_first p xs) → list_any p xs ≡ false)
        → list_any p (x ∷ xs) ≡ false
    go true e more = absurd (omega (arith, ap length (before-yes p x xs e), l))
    go false e more = λ i. e i || more (omega (arith, ap length (before-no p x xs e), l)) i

pub needed-is : (line : List ℕ)
    → needed_names line
    ≡ map module_name
    (needed_paths (slice_split (λ b. b == 32) (after_first (λ b. b == 58) line)))
unfolding line_needs
needed-is line = refl

-- ---- paths that are needed, a path more at a time

record Cut (p : ℕ → Bool) (xs : List ℕ) : Type 0 where
  pub more : List (List ℕ)
  pub front : slice_split p xs ≡ before_first p xs ∷ more
  pub rest : slice_split p (drop (length (before_first p xs)) xs) ≡ [] ∷ more

-- the first piece, and the others, which also follow an empty piece where the text begins with what
-- parts it
cut : (p : ℕ → Bool) (xs : List ℕ) → Cut p xs
cut p [] = record { more = []; front = refl; rest = refl }
cut p (x ∷ xs) = by_test (p x) refl (cut p xs)
  where
    by_test : (b : Bool) → p x ≡ b → Cut p xs → Cut p (x ∷ xs)
    by_test true e c = record { more = slice_split p xs; front = simp e; rest = simp e }
    by_test false e c =
        let f = before-no p x xs e in
        record {
          more = c.more;
          front
              = slice_split-cons_no p x xs e ∙ ap (onto_first x) c.front
              ∙ ap (λ piece. piece ∷ c.more) (sym f);
          rest = ap (λ piece. slice_split p (drop (length piece) (x ∷ xs))) f ∙ c.rest;
        }

swap : (a b c d : Bool) → ((a && b) && (c && d)) ≡ ((a && c) && (b && d))
swap true true c d = refl
swap true false true d = refl
swap true false false d = refl
swap false b c d = refl

module _ (has : List ℕ → Bool) where
  good_next : (xs : List ℕ)
      → are_good_needs has (32 ∷ xs)
      ≡ (is_good has (before_first (λ b. b == 32) xs)
      && are_good_needs has (drop (length (before_first (λ b. b == 32) xs)) xs))
  good_next xs =
      let c = cut (λ b. b == 32) xs in
      let path = before_first (λ b. b == 32) xs in
      ap (λ ps. list_all is_line_path ps && list_all has (map module_name ps)) c.front
      ∙ swap (is_line_path path) (list_all is_line_path c.more) (has (module_name path))
      (list_all has (map module_name c.more))
      ∙ sym (ap (λ ps. is_good has path
      && (are_needed ps && list_all has (map module_name (needed_paths ps)))) c.rest)

  -- of a text that begins with a space, where these are the parts of it
  pub good-parts : (text paths path after : List ℕ) → 0 < length text → slice_index text 0 ≡ 32
      → paths ≡ drop 1 text → path ≡ before_first (λ b. b == 32) paths
      → after ≡ drop (length path) paths
      → are_good_needs has text ≡ (is_good has path && are_good_needs has after)
  good-parts [] paths path after h s p q r = absurd (omega arith)
  good-parts (x ∷ xs) paths path after h s p q r = rw (s, r, q, p) (good_next xs)

  -- what doesn't begin with a space has no path after one
  pub good-none : (text : List ℕ) → 0 < length text → (slice_index text 0 == 32) ≡ false
      → are_good_needs has text ≡ false
  good-none text h e
      = ap (λ b. b
      && list_all has (map module_name (needed_paths (slice_split (λ b. b == 32) text))))
      (needed-none text h e)

  pub good-nothing : (text : List ℕ) → length text ≡ 0 → are_good_needs has text ≡ true
  good-nothing [] e = refl
  good-nothing (x ∷ xs) e = absurd (omega (arith, e))

  parts : (a b c d e : Bool) → ((a && (b && c)) && (d && e)) ≡ ((a && b) && (d && (c && e)))
  parts true true true d e = refl
  parts true true false true e = refl
  parts true true false false e = refl
  parts true false c d e = refl
  parts false b c d e = refl

  -- a line by what comes before its first colon, and what comes after it
  pub line-parts : (name line : List ℕ)
      → is_line_of has name line
      ≡ ((list_any (λ b. b == 58) line && is_line_path (own_path line))
      && (bytes_eq (module_name (own_path line)) name
      && are_good_needs has (after_first (λ b. b == 58) line)))
  unfolding is_dependency_line line_needs
  line-parts name line =
      parts (list_any (λ b. b == 58) line) (is_line_path (own_path line))
      (are_needed (slice_split (λ b. b == 32) (after_first (λ b. b == 58) line)))
      (bytes_eq (module_name (own_path line)) name) (list_all has (needed_names line))

  -- the same by how it begins
  and-parts : (a b c : Bool) → (a && (b && c)) ≡ ((a && b) && c)
  and-parts true b c = refl
  and-parts false b c = refl

  pub line-begins : (name line : List ℕ)
      → is_line_of has name line
      ≡ (begins_line name line && are_good_needs has (after_first (λ b. b == 58) line))
  line-begins name line =
      line-parts name line
      ∙ and-parts (list_any (λ b. b == 58) line && is_line_path (own_path line))
      (bytes_eq (module_name (own_path line)) name)
      (are_good_needs has (after_first (λ b. b == 58) line))
