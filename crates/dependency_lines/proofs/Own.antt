-- The paths with which lines begin are those of known modules.
use Rattle.std.proofs.Common.{◌≡◌, ℕ, zero, suc, ◌<◌, Bool, true, false, List, [], ◌∷◌, length}
use Rattle.std.proofs.Common.{get_or, refl, sym, ap, ◌∙◌, arith}
use Rattle.std.specs.Prelude.{◌&&◌, ◌||◌, ◌==◌, All, is_some}
use Rattle.std.specs.List.{list_any}
use Rattle.std.specs.Str.{bytes_eq}
use Rattle.std.proofs.lemmas.Bool.{and_from, and_parts}
use Rattle.std.proofs.lemmas.Slice.Eq.{bytes_eq-Decides}
use Rattle.km_names.specs.Path.{module_name}
use Rattle.mod_tree.specs.DependencyLine.{has_own_path, is_line_path, own_path}
use Rattle.index_format.specs.Listing.{KeyValue}
use Rattle.dependency_lines.specs.GoodPaths.{AreOwnGood, begins_line, is_good}
use Rattle.dependency_lines.specs.Modules.{by_number, place_of}
use Rattle.dependency_lines.proofs.Firsts.{any-by, some-position}

-- a line that begins well has a `:`
pub begins-colon : (name line : List ℕ) → begins_line name line ≡ true
    → list_any (λ b. b == 58) line ≡ true
begins-colon name line begins =
    let own = (and_parts (has_own_path line) _ begins).0 in
    (and_parts (list_any (λ b. b == 58) line) (is_line_path (own_path line)) own).0

-- and its own path is good if its module is known
pub own-good : (has : List ℕ → Bool) (name line : List ℕ) → begins_line name line ≡ true
    → has name ≡ true → is_good has (own_path line) ≡ true
own-good has name line begins known =
    let w = and_parts (has_own_path line) (bytes_eq (module_name (own_path line)) name) begins in
    let path
    = (and_parts (list_any (λ b. b == 58) line) (is_line_path (own_path line)) w.0).1 in
    let named = (bytes_eq-Decides (module_name (own_path line)) name).0 w.1 in
    and_from (is_line_path (own_path line)) (has (module_name (own_path line))) path
    (ap has named ∙ known)

any-at : {X : Type 0} (p : X → Bool) (xs : List X) (k : ℕ) (d : X) → k < length xs
    → p (get_or xs k d) ≡ true → list_any p xs ≡ true
any-at p [] k d l h = absurd (omega (arith, l))
any-at p (x ∷ xs) zero d l h = ap (λ b. b || list_any p xs) h
any-at p (x ∷ xs) (suc k) d l h =
    ap (λ b. p x || b) (any-at p xs k d (omega (arith, l)) h) ∙ or-true (p x)
  where
    or-true : (b : Bool) → b || true ≡ true
    or-true true = refl
    or-true false = refl

-- each module of some lines has its place
known-place : (ls : List KeyValue) (k : ℕ) (d : KeyValue) → k < length ls
    → is_some (place_of (by_number ls) (get_or ls k d).0) ≡ true
known-place ls k d l =
    let name = (get_or ls k d).0 in
    some-position (λ (m : KeyValue). bytes_eq m.0 name) (by_number ls)
    ∙ any-by (λ (m : KeyValue). bytes_eq m.0 name) ls
    ∙ any-at (λ (m : KeyValue). bytes_eq m.0 name) ls k d l ((bytes_eq-Decides name name).1 refl)

pub all-own-good : (ls modules : List KeyValue) → modules ≡ by_number ls
    → All (λ m. begins_line m.0 m.1.1 ≡ true) ls
    → AreOwnGood (λ name. is_some (place_of modules name)) ls
all-own-good ls modules is begin = λ k d l.
    let m = get_or ls k d in
    own-good (λ name. is_some (place_of modules name)) m.0 m.1.1 (begin k d l)
    (ap (λ ms. is_some (place_of ms m.0)) is ∙ known-place ls k d l)
