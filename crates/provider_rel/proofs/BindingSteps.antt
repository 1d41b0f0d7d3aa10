-- What needs are bound to, a need more at a time.
use Rattle.std.proofs.Common.{◌≡◌, ℕ, ◌+◌, ◌<◌, Bool, true, false, ◌&&◌, ◌||◌, not, cond, List, [], ◌∷◌}
use Rattle.std.proofs.Common.{◌++◌, length, map, take, get_or, Option, Some, None, refl, sym, ap}
use Rattle.std.proofs.Common.{◌∙◌, append-nil}
use Rattle.std.proofs.lemmas.List.{get_or-map, length-map, take_more}
use Rattle.std.proofs.lemmas.List.Elements.{filter_map-append}
use Rattle.std.specs.List.{cons_option}
use Rattle.module_facts.specs.declared.facts.Facts.{Facts}
use Rattle.module_symbols.specs.declared.needs.Need.{Need as StatedNeed}
use Rattle.symbol_binding.specs.Symbols.{Face, Need}
use Rattle.symbol_binding.specs.Needs.{agree}
use Rattle.provider_rel.specs.declared.unmet.UnmetKind.{UnmetKind}
use Rattle.provider_rel.specs.declared.unmet.UnmetKind.TheVariants.{Missing, Gpl, Version}
use Rattle.provider_rel.specs.declared.unmet.UnmetKind.TheVariants.{Namespace}
use Rattle.provider_rel.specs.Items.{Item, owner_under, used_places}
use Rattle.provider_rel.specs.Kinds.{test_of, has_line}

module _ (is : List Item) (bound : List (Option ℕ)) (i : ℕ) (d : Option ℕ)
    (within : i < length bound) where
  front : used_places is (take (i + 1) bound)
      ≡ used_places is (take i bound) ++ cons_option (owner_under is (get_or bound i d)) []
  front
      = ap (used_places is) (take_more bound i d within)
      ∙ filter_map-append (owner_under is) (take i bound) (get_or bound i d ∷ [])

  pub used-more : (owner : ℕ) → Some owner ≡ owner_under is (get_or bound i d)
      → used_places is (take i bound) ++ owner ∷ [] ≡ used_places is (take (i + 1) bound)
  used-more owner given
      = ap (λ o. used_places is (take i bound) ++ cons_option o []) given ∙ sym front

  pub used-same : None ≡ owner_under is (get_or bound i d)
      → used_places is (take i bound) ≡ used_places is (take (i + 1) bound)
  used-same none
      = sym (append-nil (used_places is (take i bound)))
      ∙ ap (λ o. used_places is (take i bound) ++ cons_option o []) none ∙ sym front

-- two lists of the same images, at a place
pub same-at : {X Y Z : Type 0} (g : X → Z) (h : Y → Z) (xs : List X) (ys : List Y) (i : ℕ) (x : X)
    (y : Y)
    → map g xs ≡ map h ys → i < length xs → i < length ys → x ≡ get_or xs i x → y ≡ get_or ys i y
    → g x ≡ h y
same-at g h xs ys i x y same in_xs in_ys is_x is_y =
    ap g is_x
    ∙ sym (get_or-map g xs i x (g x) in_xs)
    ∙ ap (λ l. get_or l i (g x)) same
    ∙ get_or-map h ys i y (g x) in_ys
    ∙ ap h (sym is_y)

-- and their lengths
pub same-length : {X Y Z : Type 0} (g : X → Z) (h : Y → Z) (xs : List X) (ys : List Y)
    → map g xs ≡ map h ys → length xs ≡ length ys
same-length g h xs ys same = sym (length-map xs g) ∙ ap length same ∙ length-map ys h

both : (b : Bool) → false ≡ (b && false)
both true = refl
both false = refl

unstated : (crc : Option ℕ) → not (agree crc None) ≡ false
unfolding agree
unstated None = refl
unstated (Some a) = refl

-- where nothing was found, a need is missing at the most
pub alone : (kind : UnmetKind) (known : Bool) (x : List ℕ) (m : Face) (n : Need)
    → (kind ≡ Missing → ⊥)
    → false
    ≡ test_of kind
    (cond known None (Some (record { name = x; crc = None; gpl = false; space = [] }))) m n
alone Missing known x m n other = absurd (other refl)
alone Gpl true x m n other = both (not n.weak)
alone Gpl false x m n other = both (not n.weak)
alone Version true x m n other = refl
alone Version false x m n other = sym (unstated n.crc)
alone Namespace true x m n other = refl
alone Namespace false x m n other = refl

-- with an unknown kernel, a need under whose name nothing was found has no line
no-line : (strong other : Bool) → other ≡ false
    → false ≡ ((strong && false) || (strong && false) || other || false)
no-line true other is = ap (λ b. b || false) (sym is)
no-line false other is = ap (λ b. b || false) (sym is)

pub unknown-alone : (f : Facts) (n : StatedNeed) → false ≡ has_line false f n None
unknown-alone f n = no-line (not n.weak) (not (agree n.crc None)) (unstated n.crc)
