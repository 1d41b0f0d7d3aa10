-- Where the paths of a dependency line end: at the first byte that parts paths or ends them.
use Rattle.std.proofs.Common.{◌≡◌, ◌≢◌, ℕ, zero, suc, Option, get_or, ◌+◌, ◌<◌, Bool, true, false}
use Rattle.std.proofs.Common.{cond, List, [], ◌∷◌, Some, None, length, take, drop, refl, sym, ap}
use Rattle.std.proofs.Common.{◌∙◌, arith, inl, inr}
use Rattle.std.specs.Prelude.{◌&&◌, ◌||◌, ◌⊎◌, ◌==◌, is_some, not, slice_index}
use Rattle.std.specs.List.{before_first, after_first, list_any, position_or_len, slice_split}
use Rattle.std.proofs.Math.Bool.{and-true, and-false}
use Rattle.std.proofs.lemmas.Bool.{true≢false, eqb-true, eq-eqb, false_from_ne_true}
use Rattle.std.proofs.lemmas.List.{take_all}
use Rattle.std.proofs.lemmas.List.Sums.{position_or_len_is}
use Rattle.memchr.specs.Find.{IsFirstByte, is_byte3}
use Rattle.mod_tree.specs.Tree.{is_module_path}
use Rattle.mod_tree.specs.DependencyLine.{is_separator, is_line_path, are_needed}
use Rattle.mod_tree.specs.DependencyLine.{has_own_path, is_dependency_line, line_path, own_path}
use Rattle.mod_tree.specs.DependencyLine.{pieces_after}
use Rattle.mod_tree.proofs.PieceSteps.{front_no, needed-next, needed-none}

-- ---- what a search finds

pub separator-found : (text : List ℕ) (k : ℕ) → IsFirstByte (is_byte3 32 58 10) text (Some k)
    → take k text ≡ before_first is_separator text
separator-found text k h =
    let e : position_or_len is_separator text ≡ k
    = position_or_len_is is_separator text k 0 (omega (arith, h.0.high))
    (λ j l. false_from_ne_true _ (h.0.before j (omega arith) l)) (λ _. h.1) in
    ap (λ n. take n text) (sym e)

pub separator-none : (text : List ℕ) → IsFirstByte (is_byte3 32 58 10) text None
    → text ≡ before_first is_separator text
separator-none text h =
    let e : position_or_len is_separator text ≡ length text
    = position_or_len_is is_separator text (length text) 0 (omega arith)
    (λ j l. false_from_ne_true _ (h j (omega arith) l)) (λ l. absurd (omega (arith, l))) in
    sym (ap (λ n. take n text) e ∙ take_all _ text (omega arith))

-- ---- the first part of a text, and the rest

front_yes : (p : ℕ → Bool) (x : ℕ) (xs : List ℕ) → p x ≡ true → before_first p (x ∷ xs) ≡ []
front_yes p x xs e = simp e

after_yes : (p : ℕ → Bool) (x : ℕ) (xs : List ℕ) → p x ≡ true → after_first p (x ∷ xs) ≡ xs
after_yes p x xs e = rw e refl

after_no : (p : ℕ → Bool) (x : ℕ) (xs : List ℕ) → p x ≡ false
    → after_first p (x ∷ xs) ≡ after_first p xs
after_no p x xs e =
    rw e (let n : 1 + position_or_len p xs + 1 ≡ suc (position_or_len p xs + 1)
    = omega arith in ap (λ m. drop m (x ∷ xs)) n)

-- What begins with the first byte that passes.
abbrev rest : (ℕ → Bool) → List ℕ → List ℕ
rest p xs = drop (length (before_first p xs)) xs

rest_yes : (p : ℕ → Bool) (x : ℕ) (xs : List ℕ) → p x ≡ true → rest p (x ∷ xs) ≡ x ∷ xs
rest_yes p x xs e = ap (λ ys. drop (length ys) (x ∷ xs)) (front_yes p x xs e)

rest_no : (p : ℕ → Bool) (x : ℕ) (xs : List ℕ) → p x ≡ false → rest p (x ∷ xs) ≡ rest p xs
rest_no p x xs e = ap (λ ys. drop (length ys) (x ∷ xs)) (front_no p x xs e)

-- Nothing passes, or the rest begins with the first byte that does.
abbrev RestOf : (ℕ → Bool) → List ℕ → Type 0
RestOf p xs =
    ((rest p xs ≡ []) × (list_any p xs ≡ false))
    ⊎ ((y : ℕ) × (rest p xs ≡ y ∷ after_first p xs) × (p y ≡ true) × (list_any p xs ≡ true))

rest-of : (p : ℕ → Bool) (xs : List ℕ) → RestOf p xs
rest-of p [] = inl (refl, refl)
rest-of p (x ∷ xs) = go (p x) refl (rest-of p xs)
  where
    go : (b : Bool) → p x ≡ b → RestOf p xs → RestOf p (x ∷ xs)
    go true e before
        = inr (
          x,
          rest_yes p x xs e ∙ ap (λ ys. x ∷ ys) (sym (after_yes p x xs e)),
          e,
          ap (λ b. b || list_any p xs) e,
        )
    go false e (inl (none, any)) = inl (rest_no p x xs e ∙ none, (λ i. e i || any i))
    go false e (inr (y, is, passes, any)) =
        inr (
          y,
          rest_no p x xs e ∙ is ∙ ap (λ ys. y ∷ ys) (sym (after_no p x xs e)),
          passes,
          (λ i. e i || any i),
        )

-- What ends at the first separator ends at the first byte w too, or it ends at another separator,
-- which what ends at w has then.
abbrev Parts : ℕ → List ℕ → Type 0
Parts w xs =
    ((before_first is_separator xs ≡ before_first (λ b. b == w) xs)
    × (list_any is_separator (before_first (λ b. b == w) xs) ≡ false))
    ⊎ ((list_any is_separator (before_first (λ b. b == w) xs) ≡ true)
    × (0 < length (rest is_separator xs))
    × ((slice_index (rest is_separator xs) 0 == w) ≡ false))

parts : (w : ℕ) → is_separator w ≡ true → (xs : List ℕ) → Parts w xs
parts w sep [] = inl (refl, refl)
parts w sep (x ∷ xs) = go (x == w) refl (is_separator x) refl (parts w sep xs)
  where
    q : ℕ → Bool
    q b = b == w

    go : (is : Bool) → (x == w) ≡ is → (s : Bool) → is_separator x ≡ s → Parts w xs
        → Parts w (x ∷ xs)
    go true e s f before =
        let own = front_yes q x xs e in
        inl (
          front_yes is_separator x xs (ap is_separator (eqb-true x w e) ∙ sep) ∙ sym own,
          ap (list_any is_separator) own,
        )
    go false e true f before =
        let r = rest_yes is_separator x xs f in
        inr (
          ap (list_any is_separator) (front_no q x xs e)
              ∙ ap (λ b. b || list_any is_separator (before_first q xs)) f,
          rw r (omega arith),
          ap (λ ys. slice_index ys 0 == w) r ∙ e,
        )
    go false e false f (inl (same, none)) =
        let own = front_no q x xs e in
        inl (
          front_no is_separator x xs f ∙ ap (λ ys. x ∷ ys) same ∙ sym own,
          ap (list_any is_separator) own ∙ (λ i. f i || none i),
        )
    go false e false f (inr (any, some, other)) =
        let r = rest_no is_separator x xs f in
        inr (
          ap (list_any is_separator) (front_no q x xs e) ∙ (λ i. f i || any i),
          rw r some,
          ap (λ ys. slice_index ys 0 == w) r ∙ other,
        )

path_clean : (path : List ℕ) → list_any is_separator path ≡ false
    → is_line_path path ≡ is_module_path path
path_clean path e = ap (λ b. is_module_path path && not b) e ∙ and-true (is_module_path path)

path_parted : (path : List ℕ) → list_any is_separator path ≡ true → is_line_path path ≡ false
path_parted path e = ap (λ b. is_module_path path && not b) e ∙ and-false (is_module_path path)

-- ---- the paths that are needed

needed_step : (xs : List ℕ)
    → are_needed (slice_split (λ b. b == 32) (32 ∷ xs))
    ≡ (is_module_path (before_first is_separator xs)
    && are_needed (slice_split (λ b. b == 32) (rest is_separator xs)))
needed_step xs = needed-next xs ∙ go (parts 32 refl xs)
  where
    space : ℕ → Bool
    space b = b == 32

    go : Parts 32 xs
        → (is_line_path (before_first space xs) && are_needed (slice_split space (rest space xs)))
        ≡ (is_module_path (before_first is_separator xs)
        && are_needed (slice_split space (rest is_separator xs)))
    go (inl (same, none)) =
        ap (λ b. b && are_needed (slice_split space (rest space xs)))
        (path_clean (before_first space xs) none)
        ∙ ap (λ ys. is_module_path ys && are_needed (slice_split space (drop (length ys) xs)))
        (sym same)
    go (inr (any, some, other)) =
        ap (λ b. b && are_needed (slice_split space (rest space xs)))
        (path_parted (before_first space xs) any)
        ∙ sym (ap (λ b. is_module_path (before_first is_separator xs) && b)
        (needed-none (rest is_separator xs) some other)
        ∙ and-false (is_module_path (before_first is_separator xs)))

-- The same of a text that begins with a space, where these are the parts of it.
pub needed-step : (text paths path after : List ℕ) → 0 < length text → slice_index text 0 ≡ 32
    → paths ≡ drop 1 text → path ≡ before_first is_separator paths
    → after ≡ drop (length path) paths
    → are_needed (slice_split (λ b. b == 32) text)
    ≡ (is_module_path path && are_needed (slice_split (λ b. b == 32) after))
needed-step [] paths path after h s p q r = absurd (omega arith)
needed-step (x ∷ xs) paths path after h s p q r = rw (s, r, q, p) (needed_step xs)

-- ---- the line

module _ (line own after : List ℕ) (first : own ≡ before_first is_separator line)
    (then : after ≡ drop (length own) line) where
  abbrev colon : ℕ → Bool
  colon b = b == 58

  after-is : after ≡ rest is_separator line
  after-is = then ∙ ap (λ ys. drop (length ys) line) first

  -- A text has no dependency line's form where no colon ends its first path.
  pub no-line : (length after ≡ 0) ⊎ (slice_index after 0 ≢ 58) → line_path line ≡ None
  unfolding line_path is_dependency_line
  no-line bad
      = ap (λ b. cond b (Some (own_path line)) None)
      (go (parts 58 refl line) (rest-of colon line) bad)
    where
      whole : Bool
      whole = is_line_path (own_path line) && are_needed (pieces_after line)

      go : Parts 58 line → RestOf colon line → (length after ≡ 0) ⊎ (slice_index after 0 ≢ 58)
          → (list_any colon line && whole) ≡ false
      go (inl (same, none)) (inl (ends, any)) h = ap (λ b. b && whole) any
      go (inl (same, none)) (inr (y, is, passes, any)) (inl short) =
          let e : after ≡ y ∷ after_first colon line
          = after-is ∙ ap (λ ys. drop (length ys) line) same ∙ is in
          absurd (omega (arith, ap length e, short))
      go (inl (same, none)) (inr (y, is, passes, any)) (inr other) =
          let e : after ≡ y ∷ after_first colon line
          = after-is ∙ ap (λ ys. drop (length ys) line) same ∙ is in
          absurd (other (ap (λ ys. slice_index ys 0) e ∙ eqb-true y 58 passes))
      go (inr (parted, some, other)) r h
          = ap (λ b. list_any colon line && (b && are_needed (pieces_after line)))
          (path_parted (own_path line) parted)
          ∙ and-false (list_any colon line)

  -- Where a colon does, the text's form is the form of its parts.
  pub line-by-parts : 0 < length after → slice_index after 0 ≡ 58
      → line_path line
      ≡ cond (is_module_path own && are_needed (slice_split (λ b. b == 32) (drop 1 after)))
      (Some own) None
  unfolding line_path is_dependency_line
  line-by-parts some is58 = go (parts 58 refl line) (rest-of colon line)
    where
      go : Parts 58 line → RestOf colon line
          → cond (list_any colon line
          && (is_line_path (own_path line) && are_needed (pieces_after line)))
          (Some (own_path line)) None
          ≡ cond (is_module_path own && are_needed (slice_split (λ b. b == 32) (drop 1 after)))
          (Some own) None
      go (inr (parted, len, other)) r
          = absurd (true≢false
          (sym (eq-eqb (slice_index (rest is_separator line) 0) 58
          (ap (λ ys. slice_index ys 0) (sym after-is) ∙ is58))
          ∙ other))
      go (inl (same, none)) (inl (ends, any)) =
          let e : after ≡ [] = after-is ∙ ap (λ ys. drop (length ys) line) same ∙ ends in
          absurd (omega (arith, ap length e, some))
      go (inl (same, none)) (inr (y, is, passes, any)) =
          let e : after ≡ y ∷ after_first colon line
          = after-is ∙ ap (λ ys. drop (length ys) line) same ∙ is in
          let path : own_path line ≡ own = sym same ∙ sym first in
          ap (λ b. cond (b && (is_line_path (own_path line) && are_needed (pieces_after line)))
          (Some (own_path line)) None) any
          ∙ ap (λ b. cond (b && are_needed (pieces_after line)) (Some (own_path line)) None)
          (path_clean (own_path line) none)
          ∙ ap (λ ys. cond (is_module_path ys && are_needed (pieces_after line)) (Some ys) None)
          path
          ∙ ap (λ ys. cond (is_module_path own && are_needed (slice_split (λ b. b == 32) ys))
          (Some own) None) (sym (ap (drop 1) e))

  -- The same of the text's own path: it has none where no colon ends its first path.
  pub no-own : (length after ≡ 0) ⊎ (slice_index after 0 ≢ 58) → has_own_path line ≡ false
  no-own bad = go (parts 58 refl line) (rest-of colon line) bad
    where
      go : Parts 58 line → RestOf colon line → (length after ≡ 0) ⊎ (slice_index after 0 ≢ 58)
          → (list_any colon line && is_line_path (own_path line)) ≡ false
      go (inl (same, none)) (inl (ends, any)) h = ap (λ b. b && is_line_path (own_path line)) any
      go (inl (same, none)) (inr (y, is, passes, any)) (inl short) =
          let e : after ≡ y ∷ after_first colon line
          = after-is ∙ ap (λ ys. drop (length ys) line) same ∙ is in
          absurd (omega (arith, ap length e, short))
      go (inl (same, none)) (inr (y, is, passes, any)) (inr other) =
          let e : after ≡ y ∷ after_first colon line
          = after-is ∙ ap (λ ys. drop (length ys) line) same ∙ is in
          absurd (other (ap (λ ys. slice_index ys 0) e ∙ eqb-true y 58 passes))
      go (inr (parted, some, other)) r h
          = ap (λ b. list_any colon line && b) (path_parted (own_path line) parted)
          ∙ and-false (list_any colon line)

  -- Where a colon does, this is its own path, if it is the path of a module.
  pub own-by-parts : 0 < length after → slice_index after 0 ≡ 58
      → (own_path line ≡ own) × (has_own_path line ≡ is_module_path own)
  own-by-parts some is58 = go (parts 58 refl line) (rest-of colon line)
    where
      go : Parts 58 line → RestOf colon line
          → (own_path line ≡ own)
          × ((list_any colon line && is_line_path (own_path line)) ≡ is_module_path own)
      go (inr (parted, len, other)) r
          = absurd (true≢false
          (sym (eq-eqb (slice_index (rest is_separator line) 0) 58
          (ap (λ ys. slice_index ys 0) (sym after-is) ∙ is58))
          ∙ other))
      go (inl (same, none)) (inl (ends, any)) =
          let e : after ≡ [] = after-is ∙ ap (λ ys. drop (length ys) line) same ∙ ends in
          absurd (omega (arith, ap length e, some))
      go (inl (same, none)) (inr (y, is, passes, any)) =
          let path : own_path line ≡ own = sym same ∙ sym first in (
            path,
            ap (λ b. b && is_line_path (own_path line)) any
                ∙ path_clean (own_path line) none
                ∙ ap is_module_path path,
          )

-- ---- whether there is a separator

abbrev none_at : List ℕ → Type 0
none_at text = (k : ℕ) → k < length text → is_separator (get_or text k 0) ≡ false

no-separator : (text : List ℕ) → none_at text → list_any is_separator text ≡ false
no-separator [] h = refl
no-separator (x ∷ xs) h =
    λ i. h 0 (omega arith) i || no-separator xs (λ k l. h (suc k) (omega (arith, l))) i

one-separator : (text : List ℕ) (k : ℕ) → k < length text → is_separator (get_or text k 0) ≡ true
    → list_any is_separator text ≡ true
one-separator [] k l h = absurd (omega (arith, l))
one-separator (x ∷ xs) zero l h = ap (λ b. b || list_any is_separator xs) h
one-separator (x ∷ xs) (suc k) l h =
    ap (λ b. is_separator x || b) (one-separator xs k (omega (arith, l)) h)
    ∙ or-true (is_separator x)
  where
    or-true : (b : Bool) → b || true ≡ true
    or-true true = refl
    or-true false = refl

pub separator-any : (text : List ℕ) (found : Option ℕ) → IsFirstByte (is_byte3 32 58 10) text found
    → is_some found ≡ list_any is_separator text
separator-any text (Some k) h = sym (one-separator text k (omega (arith, h.0.high)) h.1)
separator-any text None h =
    sym (no-separator text (λ k l. false_from_ne_true _ (h k (omega arith) l)))
