-- The words of relocations are in the image and apart, and are put in one by one.
use Rattle.std.proofs.Common.{◌≡◌, ◌≤◌, ◌<◌, ◌+◌, ◌-◌, ◌%◌, ◌^◌, ◌∙◌, inl, inr, ℕ, suc, true, false}
use Rattle.std.proofs.Common.{List, [], ◌∷◌, ◌++◌, Option, Some, None, refl, sym, ap, subst, arith}
use Rattle.std.proofs.Common.{length, take, drop, map, get_or}
use Rattle.std.specs.Prelude.{All, IfSome}
use Rattle.std.specs.List.{slice_get}
use Rattle.std.specs.Prelude.{Result, Ok, Err, is_ok, OnOk}
use Rattle.std.proofs.lemmas.Bool.{cases_lt, false≢true}
use Rattle.std.proofs.lemmas.List.{take-append-drop, map-append, length-take, get_or-take}
use Rattle.std.proofs.lemmas.List.{length-map, get_or-map}
use Rattle.std.proofs.lemmas.List.Folds.{find-append}
use Rattle.std.proofs.lemmas.List.FromFn.{fill_by_all, length-map-range_with_len}
use Rattle.std.proofs.lemmas.Option.{get_or_from_slice_get, slice_get_within}
use Rattle.std.proofs.Math.Seq.{drop-cons}
use Rattle.elf_format.specs.Relocation.{known_width}
use Rattle.elf_sections.specs.declared.section.Section.{Section}
use Rattle.elf_object.specs.declared.place.RelaPlace.{RelaPlace}
use Rattle.elf_object.specs.Object.{FileObject, IsPlaceIn, IsLoadable, AreApart}
use Rattle.x86_relocate.specs.declared.patch.Patch.{Patch}
use Rattle.x86_relocate.specs.Patched.{Covers, IsWithin, IsApart, fits, first_too_wide, patched}
use Rattle.x86_relocate.specs.Patched.{byte_at}
use Rattle.image_layout.specs.Offsets.{offset, image_size}
use Rattle.image_layout.specs.Laid.{patch_of}
use Rattle.image_layout.proofs.EndLemmas.{take-item}
use Rattle.image_layout.proofs.PieceLemmas.{item-at}
use Rattle.image_layout.proofs.OffsetLemmas.{apart, lies_in}

if_some : {X : Type 0} (o : Option X) (x : X) (P : X → Type 0) → o ≡ Some x → IfSome o P → P x
if_some o x P is h = subst (λ r. IfSome r P) is h

module _ (o : FileObject) (base : ℕ) (addresses : List ℕ) where
  abbrev the_patch : RelaPlace → Patch
  the_patch p = patch_of o base addresses p

  patch_at : (p : RelaPlace) → (the_patch p).at ≡ (offset o.sections p.target + p.offset) % 2 ^ 64
  unfolding patch_of
  patch_at p = refl

  pub patch_kind : (p : RelaPlace) → (the_patch p).kind ≡ p.kind
  unfolding patch_of
  patch_kind p = refl

  -- Where the bytes of a place that changes some are in the image.
  pub record Spot (p : RelaPlace) : Type 0 where
    pub target : Section
    pub is : slice_get o.sections p.target ≡ Some target
    pub kept : target.kept ≡ true
    pub inside : p.offset + known_width p.kind ≤ target.size
    pub at : (the_patch p).at ≡ offset o.sections p.target + p.offset

  pub spot : (p : RelaPlace) → IsPlaceIn o.sections o.symbols p → image_size o.sections < 2 ^ 63
      → 0 < known_width p.kind → Spot p
  spot p inside small some =
      let t = item-at o.sections p.target inside.target in
      let kept : t.0.kept ≡ true
      = if_some (slice_get o.sections p.target) t.0 (λ s. s.kept ≡ true) t.1 inside.kept in
      let within = if_some (slice_get o.sections p.target) t.0 _ t.1 (inside.within some) in
      let image = (lies_in o.sections p.target t.0 t.1 kept).image in
      let near : offset o.sections p.target + p.offset < 2 ^ 64 = omega (arith, within.1, image) in
      record {
        target = t.0;
        is = t.1;
        kept = kept;
        inside = within.1;
        at = omega (arith, patch_at p, near);
      }

  pub place-within : (p : RelaPlace) → IsPlaceIn o.sections o.symbols p
      → image_size o.sections < 2 ^ 63 → IsWithin (image_size o.sections) (the_patch p)
  place-within p inside small x covered =
      let kind = patch_kind p in
      let covers : Covers (the_patch p) x = covered in
      let wide : x < (the_patch p).at + known_width p.kind
      = subst (λ k. x < (the_patch p).at + known_width k) kind covers.1 in
      let s = spot p inside small (omega (arith, wide, covers.0)) in
      let image = (lies_in o.sections p.target s.target s.is s.kept).image in
      omega (arith, wide, s.at, s.inside, image)

  ranges : (p q : RelaPlace) (x : ℕ) → image_size o.sections < 2 ^ 63 → Spot p → Spot q
      → AreApart p q → (the_patch p).at ≤ x → x < (the_patch p).at + known_width p.kind
      → (the_patch q).at ≤ x → x < (the_patch q).at + known_width q.kind → ⊥
  ranges p q x small one other free low high low_q high_q =
      elim (cases_lt p.target q.target) [
        | inl less ↦
            elim (apart o.sections p.target q.target one.target other.target one.is other.is
            one.kept other.kept less) [
              | inl before ↦ omega
                  (arith, before, one.at, one.inside, other.at, low, high, low_q, high_q)
              | inr after ↦ omega
                  (arith, after, other.at, other.inside, one.at, low, high, low_q, high_q)
            ]
        | inr above ↦
            elim (cases_lt q.target p.target) [
              | inl less ↦
                  elim (apart o.sections q.target p.target other.target one.target other.is one.is
                  other.kept one.kept less) [
                    | inl before ↦ omega (
                      arith,
                      before,
                      one.at,
                      one.inside,
                      other.at,
                      other.inside,
                      low,
                      high,
                      low_q,
                      high_q,
                    )
                    | inr after ↦ omega (
                      arith,
                      after,
                      other.at,
                      other.inside,
                      one.at,
                      one.inside,
                      low,
                      high,
                      low_q,
                      high_q,
                    )
                  ]
              | inr below ↦
                  let same : p.target ≡ q.target = omega (arith, above, below) in
                  let base_same : offset o.sections p.target ≡ offset o.sections q.target
                  = ap (offset o.sections) same in
                  let y = x - offset o.sections p.target in
                  free same y
                  (omega (arith, one.at, low, high), omega (arith, one.at, low, high)) (
                    omega (arith, base_same, one.at, other.at, low, low_q, high_q),
                    omega (arith, base_same, one.at, other.at, low, low_q, high_q),
                  )
            ]
      ]

  pub places-apart : (p q : RelaPlace) → IsPlaceIn o.sections o.symbols p
      → IsPlaceIn o.sections o.symbols q → image_size o.sections < 2 ^ 63 → AreApart p q
      → IsApart (the_patch p) (the_patch q)
  places-apart p q inside_p inside_q small free x covered_p covered_q =
      let one : Covers (the_patch p) x = covered_p in
      let other : Covers (the_patch q) x = covered_q in
      let wide_p : x < (the_patch p).at + known_width p.kind
      = subst (λ k. x < (the_patch p).at + known_width k) (patch_kind p) one.1 in
      let wide_q : x < (the_patch q).at + known_width q.kind
      = subst (λ k. x < (the_patch q).at + known_width k) (patch_kind q) other.1 in
      ranges p q x small
      (spot p inside_p small (omega (arith, wide_p, one.0)))
      (spot q inside_q small (omega (arith, wide_q, other.0)))
      free one.0 wide_p other.0 wide_q

  -- The words of the first places don't meet the word of the next.
  pub earlier-apart : (i : ℕ) (p : RelaPlace) → IsLoadable o → slice_get o.places i ≡ Some p
      → image_size o.sections < 2 ^ 63
      → All (λ one. IsApart one (the_patch p)) (map the_patch (take i o.places))
  earlier-apart i p loadable is small k d less =
      let within = slice_get_within o.places i p is in
      let k_less : k < i = omega (arith, simp (length-map, length-take) at less) in
      let one = get_or o.places k p in
      let here : get_or o.places i p ≡ p = get_or_from_slice_get o.places i p p is in
      let same : get_or (map the_patch (take i o.places)) k d ≡ the_patch one
      = get_or-map the_patch (take i o.places) k p d (omega (arith, length-take i o.places))
      ∙ ap the_patch (get_or-take i o.places k p k_less) in
      let inside : IsPlaceIn o.sections o.symbols one = loadable.places k p (omega arith) in
      let inside_p : IsPlaceIn o.sections o.symbols p
      = subst (IsPlaceIn o.sections o.symbols) here (loadable.places i p within) in
      let free : AreApart one p = subst (AreApart one) here (loadable.apart k i p k_less within) in
      subst (λ a. IsApart a (the_patch p)) (sym same)
      (places-apart one p inside inside_p small free)

-- One word more.
pub map-more : {X Y : Type 0} (f : X → Y) (xs : List X) (i : ℕ) (x : X) → slice_get xs i ≡ Some x
    → map f (take (i + 1) xs) ≡ map f (take i xs) ++ f x ∷ []
map-more f xs i x is = ap (map f) (take-item xs i x is) ∙ map-append f (take i xs) (x ∷ [])

none-wide : (ps : List Patch) (p : Patch) → first_too_wide ps ≡ None → fits p ≡ true
    → first_too_wide (ps ++ p ∷ []) ≡ None
none-wide ps p none fit = rw (find-append, none, fit) refl

first-wide : (ps later : List Patch) (p : Patch) → first_too_wide ps ≡ None → fits p ≡ false
    → first_too_wide (ps ++ p ∷ later) ≡ Some p
first-wide ps later p none wide = rw (find-append, none, wide) refl

pub wide-more : (f : RelaPlace → Patch) (xs : List RelaPlace) (i : ℕ) (x : RelaPlace)
    → slice_get xs i ≡ Some x → first_too_wide (map f (take i xs)) ≡ None → fits (f x) ≡ true
    → first_too_wide (map f (take (i + 1) xs)) ≡ None
wide-more f xs i x is none fit =
    ap first_too_wide (map-more f xs i x is) ∙ none-wide (map f (take i xs)) (f x) none fit

pub wide-here : (f : RelaPlace → Patch) (xs : List RelaPlace) (i : ℕ) (x : RelaPlace)
    → slice_get xs i ≡ Some x → first_too_wide (map f (take i xs)) ≡ None → fits (f x) ≡ false
    → first_too_wide (map f xs) ≡ Some (f x)
wide-here f xs i x is none wide =
    let within = slice_get_within xs i x is in
    let here : get_or xs i x ≡ x = get_or_from_slice_get xs i x x is in
    let rest : drop i xs ≡ x ∷ drop (suc i) xs
    = drop-cons xs i x within ∙ ap (λ y. y ∷ drop (suc i) xs) here in
    let split : map f xs ≡ map f (take i xs) ++ map f (drop i xs)
    = ap (map f) (sym (take-append-drop i xs)) ∙ map-append f (take i xs) (drop i xs) in
    ap first_too_wide (split ∙ ap (λ ys. map f (take i xs) ++ map f ys) rest)
    ∙ first-wide (map f (take i xs)) (map f (drop (suc i) xs)) (f x) none wide

pub patched-none : (image : List ℕ) → image ≡ patched image []
unfolding patched
patched-none image =
    fill_by_all (byte_at image []) image (length image) 0 refl (λ place inside. refl)

pub length-patched : (image : List ℕ) (ps : List Patch) → length (patched image ps) ≡ length image
unfolding patched
length-patched image ps = length-map-range_with_len (byte_at image ps) 0 (length image)

pub on_ok : {T E P : Type 0} (r : Result T E) → is_ok r ≡ true → OnOk r P → P
on_ok (Ok x) is h = h
on_ok (Err e) is h = absurd (false≢true is)
