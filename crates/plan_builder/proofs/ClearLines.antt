-- What the tests of the lines of modules.unmet say of each line.
use Rattle.std.proofs.Common.{◌≡◌, ℕ, Bool, true, false, cond, List, [], ◌∷◌, Some, None, refl, sym}
use Rattle.std.proofs.Common.{ap, ◌∙◌}
use Rattle.std.specs.Prelude.{◌||◌}
use Rattle.std.specs.List.{find, list_any}
use Rattle.std.specs.Str.{bytes_eq}
use Rattle.std.proofs.lemmas.Bool.{true≢false, or_from}
use Rattle.std.proofs.lemmas.Slice.Eq.{bytes_eq-Decides}
use Rattle.symbol_binding.specs.declared.unbound.Unbound.{Unbound}
use Rattle.symbol_binding.specs.declared.unbound.Unbound.TheVariants as lines
use Rattle.symbol_binding.specs.Unmet.{belongs, collides}
use Rattle.unmet_file.specs.declared.kind.LineKind.TheVariants as kinds
use Rattle.plan_builder.specs.Obstacles.{is_obstacle}

pub none-found : {X : Type 0} (p : X → Bool) (x : X) (xs : List X) → find p (x ∷ xs) ≡ None
    → (p x ≡ false) × (find p xs ≡ None)
none-found p x xs none = go (p x) none
  where
    go : (b : Bool) → cond b (Some x) (find p xs) ≡ None → (b ≡ false) × (find p xs ≡ None)
    go true none = absurd (let bad = none in cc)
    go false none = (refl, none)

module _ (in_plan there : List ℕ → Bool) where
  -- ---- lines on needs

  other-path : (path m : List ℕ) → in_plan path ≡ true → in_plan m ≡ false → bytes_eq m path ≡ false
  other-path path m is not = go (bytes_eq m path) refl
    where
      go : (b : Bool) → bytes_eq m path ≡ b → b ≡ false
      go false e = refl
      go true e
          = absurd (true≢false (sym is ∙ ap in_plan (sym ((bytes_eq-Decides m path).0 e)) ∙ not))

  clear-line : (path : List ℕ) → in_plan path ≡ true → (line : Unbound)
      → is_obstacle kinds.Missing in_plan there line ≡ false
      → is_obstacle kinds.Gpl in_plan there line ≡ false
      → is_obstacle kinds.Version in_plan there line ≡ false
      → is_obstacle kinds.Namespace in_plan there line ≡ false → belongs path line ≡ false
  clear-line path is (lines.Missing m symbol) missing gpl version namespace
      = other-path path m is missing
  clear-line path is (lines.Gpl m symbol by) missing gpl version namespace
      = other-path path m is gpl
  clear-line path is (lines.Version m symbol by) missing gpl version namespace
      = other-path path m is version
  clear-line path is (lines.Namespace m symbol by) missing gpl version namespace
      = other-path path m is namespace
  clear-line path is (lines.Double symbol a b) missing gpl version namespace = refl

  pub clear-lines : (path : List ℕ) → in_plan path ≡ true → (unmet : List Unbound)
      → find (is_obstacle kinds.Missing in_plan there) unmet ≡ None
      → find (is_obstacle kinds.Gpl in_plan there) unmet ≡ None
      → find (is_obstacle kinds.Version in_plan there) unmet ≡ None
      → find (is_obstacle kinds.Namespace in_plan there) unmet ≡ None
      → list_any (belongs path) unmet ≡ false
  clear-lines path is [] missing gpl version namespace = refl
  clear-lines path is (line ∷ unmet) missing gpl version namespace =
      let m = none-found (is_obstacle kinds.Missing in_plan there) line unmet missing in
      let g = none-found (is_obstacle kinds.Gpl in_plan there) line unmet gpl in
      let v = none-found (is_obstacle kinds.Version in_plan there) line unmet version in
      let n = none-found (is_obstacle kinds.Namespace in_plan there) line unmet namespace in
      or_from _ _ (clear-line path is line m.0 g.0 v.0 n.0)
      (clear-lines path is unmet m.1 g.1 v.1 n.1)

  -- ---- double lines

  pub alone-lines : (all own : List ℕ → Bool)
      → ((path : List ℕ) → all path ≡ (in_plan path || there path))
      → ((path : List ℕ) → own path ≡ in_plan path) → (unmet : List Unbound)
      → find (is_obstacle kinds.Double in_plan there) unmet ≡ None
      → list_any (collides all own) unmet ≡ false
  alone-lines all own all-is own-is [] double = refl
  alone-lines all own all-is own-is (line ∷ unmet) double =
      let d = none-found (is_obstacle kinds.Double in_plan there) line unmet double in
      or_from _ _ ((λ i. collides (λ path. all-is path i) (λ path. own-is path i) line) ∙ d.0)
      (alone-lines all own all-is own-is unmet d.1)
