-- A machine without an entry that no other uses: all others stay bound as they were.
use Rattle.std.proofs.Common.{◌≡◌, ◌<◌, ◌∙◌, ◌⊎◌, inl, inr, ℕ, zero, suc, true, false, List, []}
use Rattle.std.proofs.Common.{◌∷◌, ◌++◌, Option, Some, None, refl, sym, ap, subst, arith, length}
use Rattle.std.proofs.Common.{map, get_or, take, drop, append_assoc, append-nil, cond}
use Rattle.std.specs.Prelude.{find, option_map, All, ◌&&◌, ◌==◌, nat_lt, flat_map, remove}
use Rattle.std.specs.Prelude.{slice_get}
use Rattle.std.specs.List.{IsDistinct, list_any, range_with_len}
use Rattle.std.specs.Option.{option_map_or, option_or}
use Rattle.std.specs.Str.{bytes_eq}
use Rattle.std.proofs.lemmas.Bool.{false≢true, or_parts}
use Rattle.std.proofs.lemmas.Bool.Decides.{nat_tests}
use Rattle.std.proofs.lemmas.List.{map-append}
use Rattle.std.proofs.lemmas.List.Concat.{flat_map-append}
use Rattle.std.proofs.lemmas.List.Quantifiers.{all_pairs_remove}
use Rattle.km_names.specs.First.{first}
use Rattle.module_symbols.specs.declared.needs.Need.{Need as FactsNeed}
use Rattle.module_facts.specs.declared.module.Module.{Module}
use Rattle.symbol_binding.specs.Symbols.{Export, Need}
use Rattle.kernel_exports.specs.declared.kernel.KernelExport.{KernelExport}
use Rattle.symbol_binding.specs.Needs.{is_seen}
use Rattle.image_layout.specs.Symbols.{address, addresses}
use Rattle.image_layout.specs.Laid.{laid}
use Rattle.export_table.specs.declared.placed.PlacedExport.{PlacedExport}
use Rattle.model_loader.specs.declared.entry.BoundNeed.{BoundNeed}
use Rattle.model_loader.specs.declared.entry.Entry.{Entry}
use Rattle.export_table.specs.declared.standing.Standing.{Standing}
use Rattle.export_table.specs.Exports.{export_named, kernel_placed, standing, standing_export}
use Rattle.model_loader.specs.Machine.{Machine, bound_export, entry_face, need_face, table}
use Rattle.model_loader.specs.Sound.{AreApart, AreBoundAfter, IsEntryOf, IsSound, exported_names}
use Rattle.model_loader.specs.Step.{bound_need, entry_at, given_address, given_addresses}
use Rattle.model_loader.specs.Step.{module_size, need_address}
use Rattle.model_loader.specs.Use.{IsUnused, is_met_by, uses_entry, without}
use Rattle.model_loader.proofs.StepLemmas.{first-append}
use Rattle.model_loader.proofs.ListedLemmas.{after_it, exports-without, names-without, names_of}
use Rattle.model_loader.proofs.ListedLemmas.{parts, unlisted, unlisted-without}
use Rattle.model_loader.proofs.WithoutLemmas.{none-standing, placed-without, standing_by}
use Rattle.model_loader.proofs.PlaceLemmas.{item, none≢some}
use Rattle.model_loader.proofs.EntryLemmas.{map-same}

-- Each item of a list.
abbrev pub Each : {X : Type 0} → (X → Type 0) → List X → Type 0
Each P [] = Unit {0}
Each P (x ∷ xs) = P x × Each P xs

-- What is under a name, by a list of entries.
abbrev pub named_in : List ℕ → List Entry → Option Standing
named_in x es = first (map (standing_by x) es)

-- No entry of a list exports what this one exports.
abbrev pub Alone : Entry → List Entry → Type 0
Alone e es =
    (x : List ℕ) (p : PlacedExport) → export_named x e.exports ≡ Some p → named_in x es ≡ None

-- What was under a name and what is there without an entry: the same; or the export of that entry,
-- and nothing.
abbrev Cut : Entry → List ℕ → Option Standing → Option Standing → Type 0
Cut e x old new =
    (new ≡ old)
    ⊎ ((p : PlacedExport) × (export_named x e.exports ≡ Some p)
    × (old ≡ Some (standing (Some e.loaded.name) p)) × (new ≡ None))

cut-cons : (e : Entry) (x : List ℕ) (o : Option Standing) (xs ys : List (Option Standing))
    → Cut e x (first xs) (first ys) → Cut e x (first (o ∷ xs)) (first (o ∷ ys))
cut-cons e x None xs ys cut = cut
cut-cons e x (Some p) xs ys cut = inl refl

cut-in : (e : Entry) (x : List ℕ) (before mid : List Entry) → Alone e mid
    → Cut e x (named_in x (before ++ e ∷ mid)) (named_in x (before ++ mid))
cut-in e x (a ∷ before) mid alone =
    cut-cons e x (standing_by x a) (map (standing_by x) (before ++ e ∷ mid))
    (map (standing_by x) (before ++ mid)) (cut-in e x before mid alone)
cut-in e x [] mid alone = by (export_named x e.exports) refl
  where
    by : (o : Option PlacedExport) → export_named x e.exports ≡ o
        → Cut e x (first (standing_by x e ∷ map (standing_by x) mid)) (named_in x mid)
    by None is
        = inl (sym (ap
        (λ (o : Option PlacedExport). first
        (option_map (standing (Some e.loaded.name)) o ∷ map (standing_by x) mid)) is))
    by (Some p) is =
        inr (
          p,
          is,
          ap (λ (o : Option PlacedExport). first
              (option_map (standing (Some e.loaded.name)) o ∷ map (standing_by x) mid))
              is,
          alone x p is,
        )

-- The entry of a module, by what its undefined symbols stand for.
abbrev entry_given : Module → ℕ → List ℕ → Entry
entry_given m base given = record {
  loaded = record { name = m.facts.name; base = base; size = module_size m };
  image = laid m.object base (addresses m.object base given);
  free = m.facts.free;
  imports = m.facts.imports;
  exports
      = map (λ e. record {
        name = e.name;
        crc = e.crc;
        gpl = e.gpl;
        space = e.space;
        address = address m.object base given e.symbol;
      }) m.facts.exports;
  needs = map bound_need m.facts.needs;
}

entry_at-given : (machine : Machine) (m : Module) (base : ℕ)
    → entry_at machine m base ≡ entry_given m base (given_addresses machine m)
unfolding entry_at
entry_at-given machine m base = refl

module _ (machine : Machine) (before mid : List Entry) (e : Entry) (alone : Alone e mid) where
  abbrev old : Machine
  old = record machine { entries = before ++ e ∷ mid }

  abbrev new : Machine
  new = record machine { entries = before ++ mid }

  under : (x : List ℕ) → Cut e x (table old x) (table new x)
  unfolding table
  under x =
      cut-cons e x
      (option_map (standing None) (export_named x (map kernel_placed machine.kernel.exports)))
      (named_in x (before ++ e ∷ mid) ∷ []) (named_in x (before ++ mid) ∷ [])
      (one (named_in x (before ++ e ∷ mid)) (named_in x (before ++ mid))
      (cut-in e x before mid alone))
    where
      one : (a b : Option Standing) → Cut e x a b → Cut e x (first (a ∷ [])) (first (b ∷ []))
      one None None cut = cut
      one (Some p) None cut = cut
      one None (Some p) cut = cut
      one (Some p) (Some q) cut = cut

  module _ (m : Module) (u : Entry) (is : IsEntryOf old m u) (unused : uses_entry u e ≡ false) where
    -- An export of the entry under this name isn't seen.
    abbrev Unseen : List ℕ → Type 0
    Unseen x = (p : PlacedExport) → export_named x e.exports ≡ Some p → is_seen u.free p.gpl ≡ false

    free-is : u.free ≡ m.facts.free
    unfolding entry_at
    free-is = ap (λ (n : Entry). n.free) is.entry

    needs-are : u.needs ≡ map bound_need m.facts.needs
    unfolding entry_at
    needs-are = ap (λ (n : Entry). n.needs) is.entry

    unmet : (n : BoundNeed) → is_met_by u e n ≡ false → Unseen n.name
    unmet n none p at
        = ap (λ o. option_map_or (λ (x : PlacedExport). is_seen u.free x.gpl) o false) (sym at)
        ∙ none

    unseen_facts : (ns : List FactsNeed) → list_any (is_met_by u e) (map bound_need ns) ≡ false
        → Each (λ (n : FactsNeed). Unseen n.name) ns
    unseen_facts [] none = tt
    unseen_facts (n ∷ ns) none =
        let h
        = or_parts (is_met_by u e (bound_need n)) (list_any (is_met_by u e) (map bound_need ns))
        none in
        (unmet (bound_need n) h.0, unseen_facts ns h.1)

    unseen_faces : (ns : List BoundNeed) → list_any (is_met_by u e) ns ≡ false
        → All (λ (n : Need). Unseen n.name) (map need_face ns)
    unseen_faces [] none k d less = absurd (omega arith)
    unseen_faces (n ∷ ns) none zero d less
        = unmet n (or_parts (is_met_by u e n) (list_any (is_met_by u e) ns) none).0
    unseen_faces (n ∷ ns) none (suc k) d less
        = unseen_faces ns (or_parts (is_met_by u e n) (list_any (is_met_by u e) ns) none).1 k d
        (omega arith)

    abbrev seen_address : Option Standing → ℕ
    seen_address o = option_map_or (λ s. cond (is_seen m.facts.free s.gpl) s.address 0) o 0

    -- The address of each need is as it was.
    address-same : (n : FactsNeed) → Unseen n.name
        → need_address old m.facts n ≡ need_address new m.facts n
    address-same n unseen = by (table old n.name) (table new n.name) (under n.name)
      where
        by : (a b : Option Standing) → Cut e n.name a b → seen_address a ≡ seen_address b
        by a b (inl same) = ap seen_address (sym same)
        by a b (inr gone) =
            ap seen_address gone.2
            ∙ ap (λ c. cond c gone.0.address 0)
            (ap (λ f. is_seen f gone.0.gpl) (sym free-is) ∙ unseen gone.0 gone.1)
            ∙ sym (ap seen_address gone.3)

    found-same : (k : ℕ) (ns : List FactsNeed) → Each (λ (n : FactsNeed). Unseen n.name) ns
        → option_map_or (need_address old m.facts) (find (λ n. n.symbol == k) ns) 0
        ≡ option_map_or (need_address new m.facts) (find (λ n. n.symbol == k) ns) 0
    found-same k [] all = refl
    found-same k (n ∷ ns) all =
        elim (n.symbol == k) as
        (λ b. option_map_or (need_address old m.facts)
        (cond b (Some n) (find (λ n. n.symbol == k) ns)) 0
        ≡ option_map_or (need_address new m.facts)
        (cond b (Some n) (find (λ n. n.symbol == k) ns)) 0) [
          | true ↦ address-same n all.0
          | false ↦ found-same k ns all.1
        ]

    given-same : given_addresses old m ≡ given_addresses new m
    unfolding given_addresses
    given-same =
        map-same (given_address old m.facts) (given_address new m.facts)
        (λ k. found-same k m.facts.needs
        (unseen_facts m.facts.needs
        (ap (list_any (is_met_by u e)) (sym needs-are) ∙ unused)))
        (range_with_len 0 (length m.object.symbols))

    -- An export that is seen is there without the entry too.
    stays : (x : List ℕ) → Unseen x → (f : Export) → bound_export old x ≡ Some f
        → is_seen u.free f.gpl ≡ true → bound_export new x ≡ Some f
    stays x unseen f found seen = by (under x)
      where
        by : Cut e x (table old x) (table new x) → bound_export new x ≡ Some f
        by (inl same) = ap (option_map (standing_export x)) same ∙ found
        by (inr gone) =
            let is_it : ◌≡◌ {A = Option Export}
            (Some (standing_export x (standing (Some e.loaded.name) gone.0))) (Some f)
            = sym (ap (option_map (standing_export x)) gone.2) ∙ found in
            let gpl : gone.0.gpl ≡ f.gpl
            = ap (λ (o : Option Export). option_map_or (λ (y : Export). y.gpl) o true) is_it in
            absurd (false≢true (sym (unseen gone.0 gone.1) ∙ ap (is_seen u.free) gpl ∙ seen))

    -- What is there without the entry was there before.
    stood : (x : List ℕ) (f : Export) → bound_export new x ≡ Some f → bound_export old x ≡ Some f
    stood x f found = by (under x)
      where
        by : Cut e x (table old x) (table new x) → bound_export old x ≡ Some f
        by (inl same) = ap (option_map (standing_export x)) (sym same) ∙ found
        by (inr gone)
            = absurd (none≢some (sym (ap (option_map (standing_export x)) gone.3) ∙ found))

    pub entry-stays : IsEntryOf new m u
    entry-stays =
        let unseen = unseen_faces u.needs unused in
        record {
          entry
              = is.entry ∙ entry_at-given old m u.loaded.base
              ∙ ap (entry_given m u.loaded.base) given-same
              ∙ sym (entry_at-given new m u.loaded.base);
          strong = λ k d less strong.
              let bound = is.strong k d less strong in
              record {
                export = bound.export;
                found
                    = stays (get_or (entry_face u).needs k d).name (unseen k d less) bound.export
                    bound.found bound.seen;
                seen = bound.seen;
                agreeing = bound.agreeing;
                allowed = bound.allowed;
              };
          agreeing
              = λ k d less f found seen. is.agreeing k d less f
              (stood (get_or (entry_face u).needs k d).name f found) seen;
        }

-- The entries after one stay bound without it.
bound-hole : (machine : Machine) (before mid : List Entry) (e : Entry) (ms : List Module)
    (rest : List Entry)
    → Alone e mid → Alone e rest → Each (λ (u : Entry). uses_entry u e ≡ false) rest
    → AreBoundAfter machine (before ++ e ∷ mid) ms rest
    → AreBoundAfter machine (before ++ mid) ms rest
bound-hole machine before mid e [] [] alone later unused all = tt
bound-hole machine before mid e [] (u ∷ rest) alone later unused all = absurd all
bound-hole machine before mid e (m ∷ ms) [] alone later unused all = absurd all
bound-hole machine before mid e (m ∷ ms) (u ∷ rest) alone later unused all =
    let more : Alone e (mid ++ u ∷ []) =
    λ x p at.
    ap first (map-append (standing_by x) mid (u ∷ []))
    ∙ first-append (map (standing_by x) mid) (standing_by x u ∷ [])
    ∙ ap (λ o. option_or o (first (standing_by x u ∷ []))) (alone x p at)
    ∙ ap (λ (o : Option Standing). first (o ∷ []))
    (head-none (standing_by x u) (map (standing_by x) rest) (later x p at)) in
    let rest_later : Alone e rest
    = λ x p at. tail-none (standing_by x u) (map (standing_by x) rest) (later x p at) in (
      entry-stays machine before mid e alone m u all.0 unused.0,
      subst (λ l. AreBoundAfter machine l ms rest) (sym (append_assoc before mid (u ∷ [])))
          (bound-hole machine before (mid ++ u ∷ []) e ms rest more rest_later unused.1
          (subst (λ l. AreBoundAfter machine l ms rest) (append_assoc before (e ∷ mid) (u ∷ []))
          all.1)),
    )
  where
    head-none : (o : Option Standing) (os : List (Option Standing)) → first (o ∷ os) ≡ None
        → o ≡ None
    head-none None os none = refl
    head-none (Some p) os none = none

    tail-none : (o : Option Standing) (os : List (Option Standing)) → first (o ∷ os) ≡ None
        → first os ≡ None
    tail-none None os none = none
    tail-none (Some p) os none = absurd (none≢some (sym none))

bound-drop : (machine : Machine) (before : List Entry) (ms : List Module) (es : List Entry) (j : ℕ)
    (e : Entry)
    → slice_get es j ≡ Some e → Alone e (drop (suc j) es)
    → Each (λ (u : Entry). uses_entry u e ≡ false) (drop (suc j) es)
    → AreBoundAfter machine before ms es → AreBoundAfter machine before (remove ms j) (remove es j)
bound-drop machine before ms [] j e at alone unused all = absurd (none≢some at)
bound-drop machine before [] (f ∷ es) j e at alone unused all = absurd all
bound-drop machine before (m ∷ ms) (f ∷ es) zero e at alone unused all =
    let same : f ≡ e = ap (λ o. option_map_or (λ (y : Entry). y) o f) at in
    subst (λ l. AreBoundAfter machine l ms es) (append-nil before)
    (bound-hole machine before [] e ms es (λ x p is. refl) alone unused
    (subst (λ (y : Entry). AreBoundAfter machine (before ++ y ∷ []) ms es) same all.1))
bound-drop machine before (m ∷ ms) (f ∷ es) (suc j) e at alone unused all =
    (all.0, bound-drop machine (before ++ f ∷ []) ms es j e at alone unused all.1)

bound-with : (machine : Machine) (l before : List Entry) (ms : List Module) (es : List Entry)
    → AreBoundAfter machine before ms es
    → AreBoundAfter (record machine { entries = l }) before ms es
bound-with machine l before [] [] all = all
bound-with machine l before [] (f ∷ es) all = absurd all
bound-with machine l before (n ∷ ms) [] all = absurd all
bound-with machine l before (n ∷ ms) (f ∷ es) all =
    (all.0, bound-with machine l (before ++ f ∷ []) ms es all.1)

-- No later entry uses one that is unused.
each-place : {X : Type 0} (P : X → Type 0) (xs : List X)
    → ((k : ℕ) (x : X) → slice_get xs k ≡ Some x → P x) → Each P xs
each-place P [] all = tt
each-place P (x ∷ xs) all = (all zero x refl, each-place P xs (λ k y at. all (suc k) y at))

each-after : {X : Type 0} (P : X → Type 0) (xs : List X) (j : ℕ)
    → ((k : ℕ) (x : X) → j < k → slice_get xs k ≡ Some x → P x) → Each P (drop (suc j) xs)
each-after P [] j all = tt
each-after P (x ∷ xs) zero all = each-place P xs (λ k y at. all (suc k) y (omega arith) at)
each-after P (x ∷ xs) (suc j) all =
    each-after P xs j (λ k y less at. all (suc k) y (omega (arith, less)) at)

unused-after : (machine : Machine) (j : ℕ) (e : Entry) → slice_get machine.entries j ≡ Some e
    → IsUnused machine j
    → Each (λ (u : Entry). uses_entry u e ≡ false) (drop (suc j) machine.entries)
unused-after machine j e at unused =
    each-after (λ (u : Entry). uses_entry u e ≡ false) machine.entries j
    (λ k u less is.
    let below : nat_lt j k ≡ true = grind (arith, nat_tests) in
    sym (ap (λ b. b && uses_entry u e) below)
    ∙ ap (λ o. nat_lt j k && option_map_or (uses_entry u) o false) (sym at)
    ∙ ap (λ o. nat_lt j k
    && option_map_or
    (λ user. option_map_or (uses_entry user) (slice_get machine.entries j) false) o false)
    (sym is)
    ∙ unused k)

alone-after : (machine : Machine) (j : ℕ) (e : Entry) → slice_get machine.entries j ≡ Some e
    → IsDistinct bytes_eq (exported_names machine) → Alone e (drop (suc j) machine.entries)
alone-after machine j e at distinct x p is =
    let none = unlisted-without machine j e at distinct x p is in
    none-standing x (drop (suc j) machine.entries)
    (parts x (flat_map names_of (take j machine.entries)) (after_it machine j e at)
    (subst (unlisted x)
    (flat_map-append names_of (take j machine.entries) (drop (suc j) machine.entries))
    (parts x (map (λ (y : KernelExport). y.name) machine.kernel.exports)
    (flat_map names_of (remove machine.entries j)) none).1)).1

-- A sound machine stays sound without an entry to which no other binds.
pub sound-without : (machine : Machine) (ms : List Module) (j : ℕ) → j < length machine.entries
    → IsUnused machine j → IsSound machine ms → IsSound (without machine j) (remove ms j)
sound-without machine ms j inside unused sound =
    let it = item machine.entries j inside in
    let e = it.0 in
    let at = it.1 in
    record {
      bound =
          bound-with machine (remove machine.entries j) [] (remove ms j) (remove machine.entries j)
          (bound-drop machine [] ms machine.entries j e at
          (alone-after machine j e at sound.exports) (unused-after machine j e at unused)
          sound.bound);
      names = names-without machine.entries j e at sound.names;
      exports = exports-without machine j e at sound.exports;
      placed = placed-without machine j sound.placed;
      apart = all_pairs_remove AreApart machine.entries j inside sound.apart;
    }
