-- Names that are listed once, where some in the middle are left out.
use Rattle.std.proofs.Common.{◌≡◌, ◌∙◌, inl, inr, ℕ, zero, suc, true, false, List, []}
use Rattle.std.proofs.Common.{◌∷◌, ◌++◌, Some, None, refl, sym, ap, subst, map, take, drop}
use Rattle.std.proofs.Common.{append_assoc, append-nil}
use Rattle.std.specs.Prelude.{◌||◌, flat_map, remove, slice_get}
use Rattle.std.specs.List.{IsDistinct, AllByRecursion, list_any}
use Rattle.std.specs.Option.{option_map_or}
use Rattle.std.specs.Str.{bytes_eq}
use Rattle.std.proofs.lemmas.Bool.{cases_Bool, false≢true, or_parts}
use Rattle.std.proofs.lemmas.Cmp.{nat_list_eq_equiv}
use Rattle.std.proofs.lemmas.List.{map-append}
use Rattle.std.proofs.lemmas.List.Concat.{flat_map-append}
use Rattle.std.proofs.lemmas.List.Folds.{list_any-append}
use Rattle.std.proofs.lemmas.Slice.Eq.{bytes_eq-Decides}
use Rattle.kernel_exports.specs.declared.kernel.KernelExport.{KernelExport}
use Rattle.export_table.specs.declared.placed.PlacedExport.{PlacedExport}
use Rattle.model_loader.specs.declared.entry.Entry.{Entry}
use Rattle.model_loader.specs.Machine.{Machine}
use Rattle.export_table.specs.Exports.{export_named}
use Rattle.model_loader.specs.Sound.{exported_names}
use Rattle.model_loader.specs.Use.{without}
use Rattle.model_loader.proofs.StandingLemmas.{same_name}
use Rattle.model_loader.proofs.PlaceLemmas.{none≢some}

-- Names without some in the middle.
pub flip : (x y : List ℕ) → bytes_eq x y ≡ bytes_eq y x
flip x y = nat_list_eq_equiv.symm x y

abbrev pub listed : List ℕ → List (List ℕ) → Type 0
listed x names = list_any (bytes_eq x) names ≡ true

abbrev pub unlisted : List ℕ → List (List ℕ) → Type 0
unlisted x names = list_any (bytes_eq x) names ≡ false

abbrev Differs : List ℕ → List (List ℕ) → Type 0
Differs a names = AllByRecursion (λ z. bytes_eq a z ≡ false) names

differs-cut : (a : List ℕ) (xs ys zs : List (List ℕ)) → Differs a ((xs ++ ys) ++ zs)
    → Differs a (xs ++ zs)
differs-cut a [] [] zs all = all
differs-cut a [] (y ∷ ys) zs all = differs-cut a [] ys zs all.1
differs-cut a (x ∷ xs) ys zs all = (all.0, differs-cut a xs ys zs all.1)

pub distinct-cut : (xs ys zs : List (List ℕ)) → IsDistinct bytes_eq ((xs ++ ys) ++ zs)
    → IsDistinct bytes_eq (xs ++ zs)
unfolding IsDistinct
distinct-cut [] [] zs all = all
distinct-cut [] (y ∷ ys) zs all = distinct-cut [] ys zs all.1
distinct-cut (x ∷ xs) ys zs all = (differs-cut x xs ys zs all.0, distinct-cut xs ys zs all.1)

differs-unlisted : (x y : List ℕ) (zs : List (List ℕ)) → bytes_eq x y ≡ true → Differs y zs
    → unlisted x zs
differs-unlisted x y [] is all = refl
differs-unlisted x y (z ∷ zs) is all =
    rw (ap (λ n. bytes_eq n z) (same_name x y is) ∙ all.0) (differs-unlisted x y zs is all.1)

differs-skip : (a : List ℕ) (ys zs : List (List ℕ)) → Differs a (ys ++ zs) → Differs a zs
differs-skip a [] zs all = all
differs-skip a (y ∷ ys) zs all = differs-skip a ys zs all.1

unlisted-after : (x : List ℕ) (ys zs : List (List ℕ)) → listed x ys → IsDistinct bytes_eq (ys ++ zs)
    → unlisted x zs
unfolding IsDistinct
unlisted-after x [] zs in_ys all = absurd (false≢true in_ys)
unlisted-after x (y ∷ ys) zs in_ys all =
    elim (cases_Bool (bytes_eq x y)) [
      | inl is ↦ differs-unlisted x y zs is (differs-skip y ys zs all.0)
      | inr other ↦ unlisted-after x ys zs (rw other at in_ys) all.1
    ]

differs-listed : (x a : List ℕ) (xs ys zs : List (List ℕ)) → listed x ys
    → Differs a ((xs ++ ys) ++ zs) → bytes_eq x a ≡ false
differs-listed x a (y ∷ xs) ys zs in_ys all = differs-listed x a xs ys zs in_ys all.1
differs-listed x a [] [] zs in_ys all = absurd (false≢true in_ys)
differs-listed x a [] (y ∷ ys) zs in_ys all =
    elim (cases_Bool (bytes_eq x y)) [
      | inl is ↦ flip x a ∙ ap (bytes_eq a) (same_name x y is) ∙ all.0
      | inr other ↦ differs-listed x a [] ys zs (rw other at in_ys) all.1
    ]

pub unlisted-cut : (x : List ℕ) (xs ys zs : List (List ℕ)) → listed x ys
    → IsDistinct bytes_eq ((xs ++ ys) ++ zs) → unlisted x (xs ++ zs)
unfolding IsDistinct
unlisted-cut x [] ys zs in_ys all = unlisted-after x ys zs in_ys all
unlisted-cut x (a ∷ xs) ys zs in_ys all =
    rw (differs-listed x a xs ys zs in_ys all.0) (unlisted-cut x xs ys zs in_ys all.1)

-- A list around one of its items.
pub around : {X : Type 0} (xs : List X) (j : ℕ) (x : X) → slice_get xs j ≡ Some x
    → xs ≡ (take j xs ++ x ∷ []) ++ drop (suc j) xs
around [] j x at = absurd (none≢some at)
around (y ∷ ys) zero x at = ap (λ o. option_map_or (λ z. z ∷ ys) o ys) at
around (y ∷ ys) (suc j) x at = ap (λ l. y ∷ l) (around ys j x at)

-- An entry by its name.
abbrev pub name_of : Entry → List ℕ
name_of e = e.loaded.name

pub same-name : (x : List ℕ) → bytes_eq x x ≡ true
same-name x = (bytes_eq-Decides x x).1 refl

pub at-place : (P : List ℕ → Type 0) (es : List Entry) (k : ℕ) (e : Entry) → slice_get es k ≡ Some e
    → AllByRecursion P (map name_of es) → P e.loaded.name
at-place P [] k e at all = absurd (none≢some at)
at-place P (y ∷ ys) zero e at all =
    let same : y ≡ e
    = ap (λ o. option_map_or (λ (x : Entry). x) o y) at in subst
    (λ (x : Entry). P x.loaded.name) same all.0
at-place P (y ∷ ys) (suc k) e at all = at-place P ys k e at all.1

-- The names of an entry's exports.
abbrev pub names_of : Entry → List (List ℕ)
names_of e = map (λ (x : PlacedExport). x.name) e.exports

module _ (machine : Machine) (j : ℕ) (e : Entry) (at : slice_get machine.entries j ≡ Some e) where
  abbrev pub before_it : List (List ℕ)
  before_it
      = map (λ (x : KernelExport). x.name) machine.kernel.exports
      ++ flat_map names_of (take j machine.entries)

  abbrev pub after_it : List (List ℕ)
  after_it = flat_map names_of (drop (suc j) machine.entries)

  exports-around : exported_names machine ≡ (before_it ++ names_of e) ++ after_it
  exports-around =
      let k = map (λ (x : KernelExport). x.name) machine.kernel.exports in
      let a = flat_map names_of (take j machine.entries) in
      let split : flat_map names_of machine.entries ≡ (a ++ names_of e) ++ after_it =
      ap (flat_map names_of) (around machine.entries j e at)
      ∙ flat_map-append names_of (take j machine.entries ++ e ∷ []) (drop (suc j) machine.entries)
      ∙ ap (λ l. l ++ after_it)
      (flat_map-append names_of (take j machine.entries) (e ∷ [])
      ∙ ap (λ l. a ++ l) (append-nil (names_of e))) in
      ap (λ l. k ++ l) split ∙ sym (append_assoc k (a ++ names_of e) after_it)
      ∙ ap (λ l. l ++ after_it) (sym (append_assoc k a (names_of e)))

  exports-cut : exported_names (without machine j) ≡ before_it ++ after_it
  exports-cut =
      let k = map (λ (x : KernelExport). x.name) machine.kernel.exports in
      ap (λ l. k ++ l)
      (flat_map-append names_of (take j machine.entries) (drop (suc j) machine.entries))
      ∙ sym (append_assoc k (flat_map names_of (take j machine.entries)) after_it)

  pub exports-without : IsDistinct bytes_eq (exported_names machine)
      → IsDistinct bytes_eq (exported_names (without machine j))
  exports-without distinct =
      subst (IsDistinct bytes_eq) (sym exports-cut)
      (distinct-cut before_it (names_of e) after_it
      (subst (IsDistinct bytes_eq) exports-around distinct))

  listed-export : (x : List ℕ) (p : PlacedExport) (xs : List PlacedExport)
      → export_named x xs ≡ Some p → listed x (map (λ (y : PlacedExport). y.name) xs)
  listed-export x p [] is = absurd (none≢some is)
  listed-export x p (y ∷ ys) is =
      elim (cases_Bool (bytes_eq y.name x)) [
        | inl here ↦ ap (λ b. b || list_any (bytes_eq x) (map (λ (z : PlacedExport). z.name) ys))
            (flip x y.name ∙ here)
        | inr other ↦ rw (flip x y.name, other) (listed-export x p ys (rw other at is))
      ]

  -- What the entry exports nobody else does.
  pub unlisted-without : IsDistinct bytes_eq (exported_names machine)
      → (x : List ℕ) (p : PlacedExport) → export_named x e.exports ≡ Some p
      → unlisted x (exported_names (without machine j))
  unlisted-without distinct x p is =
      subst (unlisted x) (sym exports-cut)
      (unlisted-cut x before_it (names_of e) after_it (listed-export x p e.exports is)
      (subst (IsDistinct bytes_eq) exports-around distinct))

pub none-named : (x : List ℕ) (es : List PlacedExport)
    → unlisted x (map (λ (y : PlacedExport). y.name) es) → export_named x es ≡ None
none-named x [] none = refl
none-named x (y ∷ ys) none =
    let h
    = or_parts (bytes_eq x y.name)
    (list_any (bytes_eq x) (map (λ (z : PlacedExport). z.name) ys)) none in
    rw (flip y.name x, h.0) (none-named x ys h.1)

pub parts : (x : List ℕ) (xs ys : List (List ℕ)) → unlisted x (xs ++ ys)
    → unlisted x xs × unlisted x ys
parts x xs ys none =
    or_parts (list_any (bytes_eq x) xs) (list_any (bytes_eq x) ys)
    (sym (list_any-append (bytes_eq x) xs ys) ∙ none)

pub names-without : (es : List Entry) (j : ℕ) (e : Entry) → slice_get es j ≡ Some e
    → IsDistinct bytes_eq (map (λ (x : Entry). x.loaded.name) es)
    → IsDistinct bytes_eq (map (λ (x : Entry). x.loaded.name) (remove es j))
names-without es j e at distinct =
    let name : Entry → List ℕ = λ x. x.loaded.name in
    let before = map name (take j es) in
    let after = map name (drop (suc j) es) in
    let split : map name es ≡ (before ++ e.loaded.name ∷ []) ++ after =
    ap (map name) (around es j e at)
    ∙ map-append name (take j es ++ e ∷ []) (drop (suc j) es)
    ∙ ap (λ l. l ++ after) (map-append name (take j es) (e ∷ [])) in
    subst (IsDistinct bytes_eq) (sym (map-append name (take j es) (drop (suc j) es)))
    (distinct-cut before (e.loaded.name ∷ []) after
    (subst (IsDistinct bytes_eq) split distinct))
