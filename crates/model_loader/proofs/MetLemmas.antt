-- Who exports what a module needs, by the tables of a machine.
use Rattle.std.proofs.Common.{◌≡◌, ◌<◌, ◌≤◌, ◌+◌, ◌∙◌, inl, inr, ℕ, zero, suc, Bool, true}
use Rattle.std.proofs.Common.{false, List, [], ◌∷◌, ◌++◌, Option, Some, None, refl, sym, ap, subst}
use Rattle.std.proofs.Common.{arith, length, map, get_or, take, drop, cond}
use Rattle.std.specs.Prelude.{option_map, option_and_then, ◌&&◌, ◌||◌, nat_eq, nat_lt, not}
use Rattle.std.specs.Prelude.{flat_map, remove, slice_get}
use Rattle.std.specs.List.{AllByRecursion, IsDistinct, list_any, position_or_len}
use Rattle.std.specs.Option.{option_map_or, option_or}
use Rattle.std.specs.Str.{bytes_eq}
use Rattle.std.proofs.lemmas.Bool.{cases_Bool, or_parts}
use Rattle.std.proofs.lemmas.Bool.Decides.{nat_tests}
use Rattle.std.proofs.lemmas.List.{map-append, take_more, length-map}
use Rattle.std.proofs.lemmas.List.Concat.{flat_map-append}
use Rattle.std.proofs.lemmas.List.Folds.{list_any-append}
use Rattle.std.proofs.lemmas.Slice.Eq.{bytes_eq-Decides}
use Rattle.km_names.specs.First.{first}
use Rattle.name_table.specs.NameTable.{IsTableOf, Table, place_of, states}
use Rattle.symbol_binding.specs.Needs.{is_seen}
use Rattle.kernel_exports.specs.declared.kernel.KernelExport.{KernelExport}
use Rattle.export_table.specs.declared.placed.PlacedExport.{PlacedExport}
use Rattle.model_loader.specs.declared.entry.BoundNeed.{BoundNeed}
use Rattle.model_loader.specs.declared.entry.Entry.{Entry}
use Rattle.export_table.specs.declared.standing.Standing.{Standing}
use Rattle.export_table.specs.declared.standing.ExportTable.{ExportTable}
use Rattle.model_loader.specs.Kept.{IsKept}
use Rattle.model_loader.specs.Machine.{Machine, table}
use Rattle.export_table.specs.Exports.{export_named, kernel_placed, standing}
use Rattle.model_loader.specs.Sound.{entry_names, exported_names}
use Rattle.export_table.specs.Standing.{standing_of}
use Rattle.model_loader.specs.Use.{AreUses, binds, is_met_by, uses_entry}
use Rattle.model_loader.specs.Uses.{AreBoundPlaces, below, bound_place, is_bound_at, is_met_named}
use Rattle.model_loader.specs.Uses.{is_owner, is_place, met_place, owner_place, stated_names}
use Rattle.model_loader.proofs.StepLemmas.{first-append}
use Rattle.model_loader.proofs.ListedLemmas.{around, flip, names_of, parts, unlisted, unlisted-cut}
use Rattle.model_loader.proofs.ListedLemmas.{unlisted-without, name_of, same-name}
use Rattle.model_loader.proofs.WithoutLemmas.{none-kernel, none-standing, slice-at, standing_by}
use Rattle.model_loader.proofs.WithoutLemmas.{stood-without}
use Rattle.model_loader.proofs.PlaceLemmas.{in-place, item, new-last, none≢some, old-stays, past}
use Rattle.model_loader.proofs.PlaceLemmas.{below-or-at}
use Rattle.std.proofs.Math.Bool.{and-false, and-true, or-false}

-- What an entry exports is under its name, as that entry's.
module _ (machine : Machine) (j : ℕ) (e : Entry) (at : slice_get machine.entries j ≡ Some e) where
  stands-after : (x : List ℕ) (p : PlacedExport) (es later : List Entry)
      → export_named x e.exports ≡ Some p → first (map (standing_by x) es) ≡ None
      → first (map (standing_by x) ((es ++ e ∷ []) ++ later))
      ≡ Some (standing (Some e.loaded.name) p)
  stands-after x p es later is none =
      ap first (map-append (standing_by x) (es ++ e ∷ []) later)
      ∙ first-append (map (standing_by x) (es ++ e ∷ [])) (map (standing_by x) later)
      ∙ ap (λ o. option_or o (first (map (standing_by x) later)))
      (ap first (map-append (standing_by x) es (e ∷ []))
      ∙ first-append (map (standing_by x) es) (standing_by x e ∷ [])
      ∙ ap (λ o. option_or o (first (standing_by x e ∷ []))) none
      ∙ ap (λ (o : Option PlacedExport). first (option_map (standing (Some e.loaded.name)) o ∷ []))
      is)

  stands : IsDistinct bytes_eq (exported_names machine) → (x : List ℕ) (p : PlacedExport)
      → export_named x e.exports ≡ Some p → table machine x ≡ Some (standing (Some e.loaded.name) p)
  unfolding table
  stands distinct x p is =
      let out
      = parts x (map (λ (k : KernelExport). k.name) machine.kernel.exports)
      (flat_map names_of (remove machine.entries j))
      (unlisted-without machine j e at distinct x p is) in
      let before : unlisted x (flat_map names_of (take j machine.entries)) =
      (parts x (flat_map names_of (take j machine.entries))
      (flat_map names_of (drop (suc j) machine.entries))
      (subst (unlisted x)
      (flat_map-append names_of (take j machine.entries) (drop (suc j) machine.entries))
      out.1)).0 in
      let entries : first (map (standing_by x) machine.entries)
      ≡ Some (standing (Some e.loaded.name) p)
      =
      ap (λ es. first (map (standing_by x) es)) (around machine.entries j e at)
      ∙ stands-after x p (take j machine.entries) (drop (suc j) machine.entries) is
      (none-standing x (take j machine.entries) before) in
      ap (λ (o : Option PlacedExport). first
      (option_map (standing None) o ∷ first (map (standing_by x) machine.entries) ∷ []))
      (none-kernel x machine.kernel.exports out.0)
      ∙ ap (λ (o : Option Standing). first (o ∷ [])) entries

  -- What it doesn't export isn't its own.
  abbrev Other : Option Standing → Type 0
  Other o = option_map_or (is_owner e.loaded.name) o false ≡ false

  other-entries : (x : List ℕ) (es : List Entry) → unlisted e.loaded.name (map name_of es)
      → Other (first (map (standing_by x) es))
  other-entries x [] none = refl
  other-entries x (y ∷ ys) none =
      let h
      = or_parts (bytes_eq e.loaded.name y.loaded.name)
      (list_any (bytes_eq e.loaded.name) (map name_of ys)) none in
      by (export_named x y.exports) (flip y.loaded.name e.loaded.name ∙ h.0)
      (other-entries x ys h.1)
    where
      by : (o : Option PlacedExport) → bytes_eq y.loaded.name e.loaded.name ≡ false
          → Other (first (map (standing_by x) ys))
          → Other (first (option_map (standing (Some y.loaded.name)) o ∷ map (standing_by x) ys))
      by None differs later = later
      by (Some p) differs later = differs

  alone : IsDistinct bytes_eq (entry_names machine)
      → unlisted e.loaded.name (map name_of (remove machine.entries j))
  alone distinct =
      let before = map name_of (take j machine.entries) in
      let after = map name_of (drop (suc j) machine.entries) in
      let split : map name_of machine.entries ≡ (before ++ e.loaded.name ∷ []) ++ after =
      ap (map name_of) (around machine.entries j e at)
      ∙ map-append name_of (take j machine.entries ++ e ∷ []) (drop (suc j) machine.entries)
      ∙ ap (λ l. l ++ after) (map-append name_of (take j machine.entries) (e ∷ [])) in
      subst (unlisted e.loaded.name)
      (sym (map-append name_of (take j machine.entries) (drop (suc j) machine.entries)))
      (unlisted-cut e.loaded.name before (e.loaded.name ∷ []) after
      (ap (λ b. b || false) (same-name e.loaded.name))
      (subst (IsDistinct bytes_eq) split distinct))

  other : IsDistinct bytes_eq (entry_names machine) → (x : List ℕ) → export_named x e.exports ≡ None
      → Other (table machine x)
  unfolding table
  other distinct x none =
      subst Other (sym (stood-without machine j e at x none))
      (by (export_named x (map kernel_placed machine.kernel.exports))
      (first (map (standing_by x) (remove machine.entries j)))
      (other-entries x (remove machine.entries j) (alone distinct)))
    where
      by : (o : Option PlacedExport) (s : Option Standing) → Other s
          → Other (first (option_map (standing None) o ∷ s ∷ []))
      by (Some p) s is = refl
      by None None is = is
      by None (Some s) is = is

  abbrev met : Bool → Option Standing → Bool
  met free o = option_map_or (λ s. is_owner e.loaded.name s && is_seen free s.gpl) o false

  unmet : (free : Bool) (o : Option Standing) → Other o → met free o ≡ false
  unmet free None is = refl
  unmet free (Some s) is = ap (λ b. b && is_seen free s.gpl) is

  -- A need is met by the entry where the table says so.
  met-is : (t : ExportTable) → IsKept machine t → (free : Bool) (n : BoundNeed)
      → option_map_or (λ (x : PlacedExport). is_seen free x.gpl) (export_named n.name e.exports)
      false
      ≡ is_met_named t free e.loaded.name n
  met-is t kept free n
      = by (export_named n.name e.exports) refl ∙ sym (ap (met free) (kept.keeps.at n.name))
    where
      by : (o : Option PlacedExport) → export_named n.name e.exports ≡ o
          → option_map_or (λ (x : PlacedExport). is_seen free x.gpl) (export_named n.name e.exports)
          false
          ≡ met free (table machine n.name)
      by None is =
          ap (λ (o : Option PlacedExport). option_map_or (λ (x : PlacedExport). is_seen free x.gpl)
          o false) is
          ∙ sym (unmet free (table machine n.name) (other kept.names n.name is))
      by (Some p) is =
          ap (λ (o : Option PlacedExport). option_map_or (λ (x : PlacedExport). is_seen free x.gpl)
          o false) is
          ∙ sym (ap (met free) (stands kept.exports n.name p is)
          ∙ ap (λ b. b && is_seen free p.gpl)
          ((bytes_eq-Decides e.loaded.name e.loaded.name).1 refl))

  any-met : (t : ExportTable) → IsKept machine t → (user : Entry) (ns : List BoundNeed)
      → list_any (is_met_by user e) ns ≡ list_any (is_met_named t user.free e.loaded.name) ns
  any-met t kept user [] = refl
  any-met t kept user (n ∷ ns) =
      ap (λ b. b || list_any (is_met_by user e) ns) (met-is t kept user.free n)
      ∙ ap (λ b. is_met_named t user.free e.loaded.name n || b) (any-met t kept user ns)

-- Whether an entry binds to another, by the table.
pub binds-is : (machine : Machine) (t : ExportTable) → IsKept machine t
    → (k j : ℕ) (user other : Entry) → slice_get machine.entries k ≡ Some user
    → slice_get machine.entries j ≡ Some other
    → (nat_lt j k && list_any (is_met_named t user.free other.loaded.name) user.needs)
    ≡ binds machine k j
binds-is machine t kept k j user other at_k at_j =
    ap (λ b. nat_lt j k && b) (sym (any-met machine j other at_j t kept user user.needs))
    ∙ ap (λ o. nat_lt j k && option_map_or (uses_entry user) o false) (sym at_j)
    ∙ ap (λ o. nat_lt j k
    && option_map_or (λ u. option_map_or (uses_entry u) (slice_get machine.entries j) false) o
    false) (sym at_k)

-- The place of a name, where no two entries have one name.
apart : (x : List ℕ) (es : List Entry) (i : ℕ) (e : Entry) → slice_get es i ≡ Some e
    → AllByRecursion (λ n. bytes_eq x n ≡ false) (map name_of es) → bytes_eq x e.loaded.name ≡ false
apart x [] i e at all = absurd (none≢some at)
apart x (y ∷ ys) zero e at all =
    let same : y ≡ e = ap (λ o. option_map_or (λ (z : Entry). z) o y) at in
    ap (λ (z : Entry). bytes_eq x z.loaded.name) (sym same) ∙ all.0
apart x (y ∷ ys) (suc i) e at all = apart x ys i e at all.1

first-zero : (b : Bool) (q : ℕ) → nat_eq 0 (cond (not b) (1 + q) 0) ≡ b
first-zero true q = refl
first-zero false q = grind (arith, nat_tests)

later-one : (j q : ℕ) → nat_eq (suc j) (1 + q) ≡ nat_eq j q
later-one j q = grind (arith, nat_tests)

first-at : (es : List Entry) (j : ℕ) (e : Entry) (x : List ℕ) → slice_get es j ≡ Some e
    → IsDistinct bytes_eq (map name_of es)
    → nat_eq j (position_or_len (states x) (stated_names es)) ≡ bytes_eq x e.loaded.name
unfolding IsDistinct
first-at [] j e x at distinct = absurd (none≢some at)
first-at (y ∷ ys) zero e x at distinct =
    let same : y ≡ e = ap (λ o. option_map_or (λ (z : Entry). z) o y) at in
    first-zero (bytes_eq y.loaded.name x) (position_or_len (states x) (stated_names ys))
    ∙ flip y.loaded.name x
    ∙ ap (λ (z : Entry). bytes_eq x z.loaded.name) same
first-at (y ∷ ys) (suc j) e x at distinct =
    let q = position_or_len (states x) (stated_names ys) in
    elim (cases_Bool (bytes_eq y.loaded.name x)) [
      | inl is ↦
          let name : y.loaded.name ≡ x = (bytes_eq-Decides y.loaded.name x).0 is in
          let none : nat_eq (suc j) 0 ≡ false = grind (arith, nat_tests) in
          ap (λ b. nat_eq (suc j) (cond (not b) (1 + q) 0)) is
          ∙ none
          ∙ sym (ap (λ z. bytes_eq z e.loaded.name) (sym name)
          ∙ apart y.loaded.name ys j e at distinct.0)
      | inr other ↦
          ap (λ b. nat_eq (suc j) (cond (not b) (1 + q) 0)) other
          ∙ later-one j q
          ∙ first-at ys j e x at distinct.1
    ]

over-apart : (j q n : ℕ) → j < n → nat_lt q n ≡ false → nat_eq j q ≡ false
over-apart j q n less over = grind (arith, nat_tests)

in-range : (j q n : ℕ) → j < n → is_place j (cond (nat_lt q n) (Some q) None) ≡ nat_eq j q
in-range j q n less =
    elim (cases_Bool (nat_lt q n)) [
      | inl inside ↦ ap (λ b. is_place j (cond b (Some q) None)) inside
      | inr outside ↦ ap (λ b. is_place j (cond b (Some q) None)) outside
          ∙ sym (over-apart j q n less outside)
    ]

-- A place below a number.
under-apart : (i j k : ℕ) → nat_lt i k ≡ true → nat_lt j k ≡ false → nat_eq j i ≡ false
under-apart i j k less over = grind (arith, nat_tests)

above-apart : (i j k : ℕ) → nat_lt i k ≡ false → nat_lt j k ≡ true → nat_eq j i ≡ false
above-apart i j k over less = grind (arith, nat_tests)

below-is : (j k : ℕ) (o : Option ℕ) → nat_lt j k ≡ true
    → is_place j (option_and_then (below k) o) ≡ is_place j o
below-is j k None less = refl
below-is j k (Some i) less =
    elim (cases_Bool (nat_lt i k)) [
      | inl here ↦ ap (λ b. is_place j (cond b (Some i) None)) here
      | inr other ↦ ap (λ b. is_place j (cond b (Some i) None)) other
          ∙ sym (above-apart i j k other less)
    ]

not-below : (j k : ℕ) (o : Option ℕ) → nat_lt j k ≡ false
    → is_place j (option_and_then (below k) o) ≡ false
not-below j k None over = refl
not-below j k (Some i) over =
    elim (cases_Bool (nat_lt i k)) [
      | inl here ↦ ap (λ b. is_place j (cond b (Some i) None)) here ∙ under-apart i j k here over
      | inr other ↦ ap (λ b. is_place j (cond b (Some i) None)) other
    ]

module _ (t : ExportTable) (places : Table) (entries : List Entry)
    (is : IsTableOf places (stated_names entries))
    (distinct : IsDistinct bytes_eq (map name_of entries)) where
  place-name : (j : ℕ) (e : Entry) (x : List ℕ) → slice_get entries j ≡ Some e
      → is_place j (place_of places x) ≡ bytes_eq x e.loaded.name
  place-name j e x at =
      let less : j < length (stated_names entries)
      = omega (
        arith,
        in-place entries j e at,
        length-map entries (λ (n : Entry). Some n.loaded.name),
      ) in
      ap (is_place j) (is.places x)
      ∙ in-range j (position_or_len (states x) (stated_names entries))
      (length (stated_names entries)) less
      ∙ first-at entries j e x at distinct

  owner-met : (j : ℕ) (e : Entry) → slice_get entries j ≡ Some e → (b : Bool) (o : Option (List ℕ))
      → is_place j (cond b (option_and_then (place_of places) o) None)
      ≡ (option_map_or (λ owner. bytes_eq owner e.loaded.name) o false && b)
  owner-met j e at true None = refl
  owner-met j e at false None = refl
  owner-met j e at true (Some x) = place-name j e x at ∙ sym (and-true (bytes_eq x e.loaded.name))
  owner-met j e at false (Some x) = sym (and-false (bytes_eq x e.loaded.name))

  place-met : (j : ℕ) (e : Entry) → slice_get entries j ≡ Some e
      → (free : Bool) (o : Option Standing)
      → is_place j (option_and_then (owner_place places free) o)
      ≡ option_map_or (λ s. is_owner e.loaded.name s && is_seen free s.gpl) o false
  place-met j e at free None = refl
  place-met j e at free (Some s) = owner-met j e at (is_seen free s.gpl) s.owner

  bound-as : (free : Bool) (k j : ℕ) (e : Entry) → slice_get entries j ≡ Some e → nat_lt j k ≡ true
      → (ns : List BoundNeed)
      → list_any (is_bound_at t places free k j) ns
      ≡ list_any (is_met_named t free e.loaded.name) ns
  bound-as free k j e at less [] = refl
  bound-as free k j e at less (n ∷ ns) =
      ap (λ b. b || list_any (is_bound_at t places free k j) ns)
      (below-is j k (met_place t places free n) less ∙ place-met j e at free (standing_of t n.name))
      ∙ ap (λ b. is_met_named t free e.loaded.name n || b) (bound-as free k j e at less ns)

  bound-never : (free : Bool) (k j : ℕ) → nat_lt j k ≡ false → (ns : List BoundNeed)
      → list_any (is_bound_at t places free k j) ns ≡ false
  bound-never free k j over [] = refl
  bound-never free k j over (n ∷ ns) =
      ap (λ b. b || list_any (is_bound_at t places free k j) ns)
      (not-below j k (met_place t places free n) over)
      ∙ bound-never free k j over ns

-- What the tables have for all entries is whom they bind to.
outside : {X : Type 0} (xs : List X) (i : ℕ) → slice_get xs i ≡ None → length xs ≤ i
outside [] i none = omega arith
outside (x ∷ xs) zero none = absurd (none≢some (sym none))
outside (x ∷ xs) (suc i) none = omega (arith, outside xs i none)

module _ (machine : Machine) (t : ExportTable) (kept : IsKept machine t) (places : Table)
    (is : IsTableOf places (stated_names machine.entries)) (all : List (List ℕ))
    (are : AreBoundPlaces t places machine.entries all) where
  nothing : (k : ℕ) → slice_get machine.entries k ≡ None → slice_get all k ≡ None
  nothing k none = past all k (omega (arith, are.counted, outside machine.entries k none))

  none-bound : (k j : ℕ) → slice_get machine.entries k ≡ None → binds machine k j ≡ false
  none-bound k j none =
      ap (λ o. nat_lt j k
      && option_map_or
      (λ user. option_map_or (uses_entry user) (slice_get machine.entries j) false)
      o false) none
      ∙ and-false (nat_lt j k)

  at-user : (k j : ℕ) (user : Entry) → slice_get machine.entries k ≡ Some user
      → list_any (is_bound_at t places user.free k j) user.needs ≡ binds machine k j
  at-user k j user at =
      elim (cases_Bool (nat_lt j k)) [
        | inl less ↦
            let low : j < k = grind (arith, nat_tests) in
            let other
            = item machine.entries j (omega (arith, low, in-place machine.entries k user at)) in
            bound-as t places machine.entries is kept.names user.free k j other.0 other.1 less
            user.needs
            ∙ sym (ap (λ b. b && list_any (is_met_named t user.free other.0.loaded.name) user.needs)
            less)
            ∙ binds-is machine t kept k j user other.0 at other.1
        | inr over ↦
            bound-never t places machine.entries is kept.names user.free k j over user.needs
            ∙ sym (ap (λ b. b
            && option_map_or
            (λ u. option_map_or (uses_entry u) (slice_get machine.entries j) false)
            (slice_get machine.entries k) false) over)
      ]

  at-place : (k j : ℕ) (o : Option Entry) → slice_get machine.entries k ≡ o
      → option_map_or (list_any (nat_eq j)) (slice_get all k) false ≡ binds machine k j
  at-place k j None none
      = ap (λ o. option_map_or (list_any (nat_eq j)) o false) (nothing k none)
      ∙ sym (none-bound k j none)
  at-place k j (Some user) at = are.at k j user at ∙ at-user k j user at

  pub uses-are : AreUses machine all
  uses-are
      = record
      { counted = are.counted; at = λ k j. at-place k j (slice_get machine.entries k) refl }

-- One need more of those that are bound.
pub bound-more : (t : ExportTable) (places : Table) (free : Bool) (k : ℕ) (ns : List BoundNeed)
    (i : ℕ) (n : BoundNeed) (bound next : List ℕ)
    → i < length ns → n ≡ get_or ns i n
    → ((j : ℕ)
    → list_any (nat_eq j) next
    ≡ (list_any (nat_eq j) bound || is_place j (bound_place t places free k n)))
    → ((j : ℕ) → list_any (nat_eq j) bound ≡ list_any (is_bound_at t places free k j) (take i ns))
    → (j : ℕ)
    → list_any (nat_eq j) next ≡ list_any (is_bound_at t places free k j) (take (i + 1) ns)
bound-more t places free k ns i n bound next less is more same j =
    more j
    ∙ ap (λ b. b || is_place j (bound_place t places free k n)) (same j)
    ∙ ap (λ b. list_any (is_bound_at t places free k j) (take i ns) || b)
    (sym (or-false (is_place j (bound_place t places free k n))))
    ∙ sym (ap (list_any (is_bound_at t places free k j))
    (take_more ns i n less ∙ ap (λ m. take i ns ++ m ∷ []) (sym is))
    ∙ list_any-append (is_bound_at t places free k j) (take i ns) (n ∷ []))

pub place-push : (bound next : List ℕ) (o : Option ℕ) (p : ℕ) → o ≡ Some p → next ≡ bound ++ p ∷ []
    → (j : ℕ) → list_any (nat_eq j) next ≡ (list_any (nat_eq j) bound || is_place j o)
place-push bound next o p some is j =
    ap (list_any (nat_eq j)) is ∙ list_any-append (nat_eq j) bound (p ∷ [])
    ∙ ap (λ b. list_any (nat_eq j) bound || b) (or-false (nat_eq j p))
    ∙ ap (λ q. list_any (nat_eq j) bound || is_place j q) (sym some)

pub place-none : (bound next : List ℕ) (o : Option ℕ) → o ≡ None → next ≡ bound → (j : ℕ)
    → list_any (nat_eq j) next ≡ (list_any (nat_eq j) bound || is_place j o)
place-none bound next o none is j =
    ap (list_any (nat_eq j)) is
    ∙ sym (ap (λ q. list_any (nat_eq j) bound || is_place j q) none
    ∙ or-false (list_any (nat_eq j) bound))

-- One entry more whose places are listed.
abbrev Listed : ExportTable → Table → List Entry → List (List ℕ) → ℕ → ℕ → Entry → Type 0
Listed t places entries all i j e =
    option_map_or (list_any (nat_eq j)) (slice_get all i) false
    ≡ list_any (is_bound_at t places e.free i j) e.needs

pub listed-more : (t : ExportTable) (places : Table) (entries : List Entry) (k : ℕ)
    (all next : List (List ℕ)) (v : List ℕ) (user : Entry)
    → length all ≡ k → next ≡ all ++ v ∷ [] → k < length entries → user ≡ get_or entries k user
    → ((j : ℕ) → list_any (nat_eq j) v ≡ list_any (is_bound_at t places user.free k j) user.needs)
    → ((i j : ℕ) (e : Entry) → i < k → slice_get entries i ≡ Some e
    → Listed t places entries all i j e)
    → (i j : ℕ) (e : Entry) → i < k + 1 → slice_get entries i ≡ Some e
    → Listed t places entries next i j e
listed-more t places entries k all next v user counted is inside at_k mine old i j e less at =
    elim (below-or-at i k less) [
      | inl below ↦
          ap (λ l. option_map_or (list_any (nat_eq j)) (slice_get l i) false) is
          ∙ ap (λ o. option_map_or (list_any (nat_eq j)) o false)
          (old-stays all v i (omega (arith, below, counted)))
          ∙ old i j e below at
      | inr same ↦
          let here : i ≡ length all = omega (arith, same, counted) in
          let it : user ≡ e
          = ap (λ o. option_map_or (λ (x : Entry). x) o user)
          (sym (slice-at entries k user inside at_k) ∙ sym (ap (slice_get entries) same)
          ∙ at) in
          ap (λ l. option_map_or (list_any (nat_eq j)) (slice_get l i) false) is
          ∙ ap (λ m. option_map_or (list_any (nat_eq j)) (slice_get (all ++ v ∷ []) m) false) here
          ∙ ap (λ o. option_map_or (list_any (nat_eq j)) o false) (new-last all v)
          ∙ mine j
          ∙ ap (λ (x : Entry). list_any (is_bound_at t places x.free k j) x.needs) it
          ∙ ap (λ m. list_any (is_bound_at t places e.free m j) e.needs) (sym same)
    ]
