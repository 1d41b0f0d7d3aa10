-- A machine with an entry more keeps what it is to keep.
use Rattle.std.proofs.Common.{◌≡◌, ◌≤◌, ◌<◌, ◌+◌, ◌*◌, ◌/◌, ◌%◌, ◌∙◌, ◌⊎◌, inl, inr, ℕ, zero, suc}
use Rattle.std.proofs.Common.{Bool, true, false, List, [], ◌∷◌, ◌++◌, Option, Some, None, refl, sym}
use Rattle.std.proofs.Common.{ap, subst, arith, length, map, get_or}
use Rattle.std.specs.Prelude.{find, option_map, All, unwrap_or, is_none, option_and_then}
use Rattle.elf_sections.specs.Shape.{fault_if}
use Rattle.load_fault.specs.declared.fault.LoadFault.TheVariants.{RegionFull}
use Rattle.std.specs.List.{IsDistinct, list_any}
use Rattle.std.specs.Option.{option_or}
use Rattle.std.specs.Str.{bytes_eq}
use Rattle.std.proofs.lemmas.Bool.{cases_Bool}
use Rattle.std.proofs.lemmas.Bool.Decides.{nat_tests}
use Rattle.std.proofs.lemmas.List.{length-map, map-append}
use Rattle.std.proofs.lemmas.List.FromFn.{get_or-map-range_with_len, length-map-range_with_len}
use Rattle.km_names.specs.First.{first}
use Rattle.module_facts.specs.declared.module.Module.{Module}
use Rattle.elf_object.specs.Object.{FileObject}
use Rattle.x86_relocate.specs.Patched.{patched, byte_at}
use Rattle.image_layout.specs.Offsets.{aligned, greater, image_size}
use Rattle.image_layout.specs.Plain.{filled, plain_byte, pieces, plain_image}
use Rattle.image_layout.specs.Laid.{laid, patches}
use Rattle.export_table.specs.declared.placed.PlacedExport.{PlacedExport}
use Rattle.model_loader.specs.declared.entry.Entry.{Entry}
use Rattle.module_region.specs.declared.region.Region.{Region}
use Rattle.export_table.specs.declared.standing.Standing.{Standing}
use Rattle.export_table.specs.declared.standing.Named.{Named}
use Rattle.export_table.specs.declared.standing.ExportTable.{ExportTable}
use Rattle.model_loader.specs.Machine.{Machine, table}
use Rattle.export_table.specs.Exports.{export_named, kernel_placed, standing}
use Rattle.model_loader.specs.Gap.{gap, gap_among, is_gap, meets_entry, pages}
use Rattle.model_loader.specs.Kept.{IsKept}
use Rattle.model_loader.specs.Parts.{HasParts}
use Rattle.model_loader.specs.Runs.{IsPaged, run_of}
use Rattle.model_loader.specs.Sound.{IsPlaced, entry_names, exported_names}
use Rattle.model_loader.specs.Standing.{Keeps}
use Rattle.export_table.specs.Standing.{export_pair, named_pair, standing_in, standing_of}
use Rattle.model_loader.specs.Step.{named_pages, overflow_fault, entry_at, module_base}
use Rattle.model_loader.specs.Step.{module_size, placed_export, placement_tests, symbol_addresses}
use Rattle.model_loader.specs.Step.{with_entry}
use Rattle.model_loader.proofs.StandingLemmas.{find-map}
use Rattle.model_loader.proofs.StepLemmas.{first-append}

-- What a list keeps of a name, if it was made for exports of an owner.
second-fused : {X Y : Type 0} (f : X → List ℕ × Y) (o : Option X)
    → option_map (λ (p : List ℕ × Y). p.1) (option_map f o) ≡ option_map (λ x. (f x).1) o
second-fused f None = refl
second-fused f (Some x) = refl

pub standing_in-is : (x : List ℕ) (owner : Option (List ℕ)) (named : List Named)
    (exports : List PlacedExport)
    → map named_pair named ≡ map (export_pair owner) exports
    → standing_in x named ≡ option_map (standing owner) (export_named x exports)
standing_in-is x owner named exports same =
    let test : List ℕ × Standing → Bool = λ p. bytes_eq p.0 x in
    sym (second-fused named_pair (find (λ (n : Named). bytes_eq n.name.items x) named))
    ∙ ap (option_map (λ (p : List ℕ × Standing). p.1))
    (sym (find-map test named_pair named) ∙ ap (find test) same
    ∙ find-map test (export_pair owner) exports)
    ∙ second-fused (export_pair owner) (export_named x exports)

-- What is under a name with one more entry.
module _ (machine : Machine) (e : Entry) (x : List ℕ) where
  abbrev of_entry : Entry → Option Standing
  of_entry n = option_map (standing (Some n.loaded.name)) (export_named x n.exports)

  or-first : (a b : Option Standing) → first (a ∷ b ∷ []) ≡ option_or a b
  or-first None None = refl
  or-first None (Some y) = refl
  or-first (Some y) b = refl

  one-first : (a : Option Standing) → first (a ∷ []) ≡ a
  one-first None = refl
  one-first (Some y) = refl

  or-assoc : (a b c : Option Standing) → option_or a (option_or b c) ≡ option_or (option_or a b) c
  or-assoc None b c = refl
  or-assoc (Some y) b c = refl

  pub under-next : table (with_entry machine e) x ≡ option_or (table machine x) (of_entry e)
  unfolding table
  under-next =
      let kernel
      = option_map (standing None) (export_named x (map kernel_placed machine.kernel.exports))
      in
      let old = first (map of_entry machine.entries) in
      let more : first (map of_entry (machine.entries ++ e ∷ [])) ≡ option_or old (of_entry e) =
      ap first (map-append of_entry machine.entries (e ∷ []))
      ∙ first-append (map of_entry machine.entries) (of_entry e ∷ [])
      ∙ ap (option_or old) (one-first (of_entry e)) in
      or-first kernel (first (map of_entry (machine.entries ++ e ∷ [])))
      ∙ ap (option_or kernel) more ∙ or-assoc kernel old (of_entry e)
      ∙ ap (λ o. option_or o (of_entry e)) (sym (or-first kernel old))

-- What is found passes the test, and is one of the list.
pub find-some : {X : Type 0} (p : X → Bool) (xs : List X) (y : X) → find p xs ≡ Some y
    → (p y ≡ true) × ((k : ℕ) × (k < length xs) × (get_or xs k y ≡ y))
find-some p [] y is = absurd cc
find-some p (x ∷ xs) y is =
    elim (cases_Bool (p x)) [
      | inl here ↦
          let same : x ≡ y = let e : Some x ≡ Some y = rw here at is in cc in
          (ap p (sym same) ∙ here, (0, omega arith, same))
      | inr other ↦
          let later = find-some p xs y (rw other at is) in
          (later.0, (suc later.1.0, omega (arith, later.1.1), later.1.2))
    ]

-- A gap.
pub record IsGapAt (region : Region) (entries : List Entry) (n at : ℕ) : Type 0 where
  pub page : at % 4096 ≡ 0
  pub low : region.base ≤ at
  pub high : at + n ≤ region.base + region.size
  pub free : list_any (meets_entry at n) entries ≡ false

gap_fits : (region : Region) (entries : List Entry) (n at : ℕ) → is_gap region entries n at ≡ true
    → at + n ≤ region.base + region.size
gap_fits region entries n at is = grind (arith, nat_tests)

gap_free : (region : Region) (entries : List Entry) (n at : ℕ) → is_gap region entries n at ≡ true
    → list_any (meets_entry at n) entries ≡ false
gap_free region entries n at is = grind (arith, nat_tests)

pub gap-at : (region : Region) (entries : List Entry) (n at : ℕ)
    → gap_among region entries n ≡ Some at → IsGapAt region entries n at
unfolding gap_among
gap-at region entries n at is =
    let found = find-some (is_gap region entries n) (pages region) at is in
    let k = found.1.0 in
    let inside : k < region.size / 4096
    = omega (
      arith,
      found.1.1,
      length-map-range_with_len (λ j. region.base + 4096 * j) 0 (region.size / 4096),
    ) in
    let place : region.base + 4096 * k ≡ at
    = sym (get_or-map-range_with_len (λ j. region.base + 4096 * j) 0 (region.size / 4096) k k at
    inside (omega arith))
    ∙ found.1.2 in
    record {
      page = omega (arith, place, region.pages.begins);
      low = omega (arith, place);
      high = gap_fits region entries n at found.0;
      free = gap_free region entries n at found.0;
    }

pub length-laid : (o : FileObject) (base : ℕ) (addresses : List ℕ)
    → length (laid o base addresses) ≡ image_size o.sections
unfolding laid patched filled
length-laid o base addresses =
    length-map-range_with_len (byte_at (plain_image o) (patches o base addresses)) 0
    (length (plain_image o))
    ∙ length-map-range_with_len (plain_byte (pieces o)) 0 (image_size o.sections)

greater_cases : (a b : ℕ) → (greater a b ≡ a) ⊎ (greater a b ≡ b)
greater_cases a b = grind (arith, nat_tests)

page_greater : (k : ℕ) → greater 4096 (4096 * k) % 4096 ≡ 0
page_greater k =
    elim (greater_cases 4096 (4096 * k)) [
      | inl is ↦ omega (arith, is)
      | inr is ↦ omega (arith, is)
    ]

pub size-pages : (m : Module) → module_size m % 4096 ≡ 0
unfolding image_size aligned
size-pages m = page_greater _

-- The gap of a module that isn't refused.
pub module-gap : (machine : Machine) (m : Module) → first (placement_tests machine m) ≡ None
    → gap machine (module_size m) ≡ Some (module_base machine m)
module-gap machine m none = by-gap (gap machine (module_size m)) none
  where
    by-gap : (o : Option ℕ)
        → first (fault_if (is_none o) (RegionFull (named_pages (module_size m / 4096)))
        ∷ option_and_then (overflow_fault machine m) o ∷ [])
        ≡ None
        → o ≡ Some (unwrap_or o 0)
    by-gap None none = absurd cc
    by-gap (Some at) none = refl

-- The entry of a module at a gap is placed.
pub placed-new : (machine : Machine) (m : Module) (base : ℕ)
    → gap machine (module_size m) ≡ Some base → IsPlaced machine (entry_at machine m base)
unfolding entry_at
placed-new machine m base is =
    let at = gap-at machine.region machine.entries (module_size m) base is in
    let long = length-laid m.object base (symbol_addresses machine m base) in
    record {
      size = sym long;
      begins = at.page;
      whole = ap (λ n. n % 4096) long ∙ size-pages m;
      low = at.low;
      high = omega (arith, long, at.high);
    }

-- Those that were there stay.
pub all-append : {X : Type 0} (P : X → Type 0) (xs : List X) (y : X) → All P xs → P y
    → All P (xs ++ y ∷ [])
all-append P [] y all here zero d less = here
all-append P [] y all here (suc k) d less = absurd (omega arith)
all-append P (x ∷ xs) y all here zero d less = all 0 d (omega arith)
all-append P (x ∷ xs) y all here (suc k) d less =
    all-append P xs y (λ j e inside. all (suc j) e (omega arith)) here k d (omega arith)

pub placed-next : (machine : Machine) (e : Entry) → All (IsPlaced machine) machine.entries
    → IsPlaced machine e → All (IsPlaced (with_entry machine e)) (with_entry machine e).entries
placed-next machine e all here =
    let again : (n : Entry) → IsPlaced machine n → IsPlaced (with_entry machine e) n
    = λ n is. record
    { size = is.size; begins = is.begins; whole = is.whole; low = is.low; high = is.high }
    in
    all-append (IsPlaced (with_entry machine e)) machine.entries e
    (λ k d less. again (get_or machine.entries k d) (all k d less)) (again e here)

pub kept-next : (machine : Machine) (t next : ExportTable) (m : Module) (e : Entry)
    (named : List Named)
    → IsKept machine t → first (placement_tests machine m) ≡ None
    → e ≡ entry_at machine m (module_base machine m)
    → map named_pair named ≡ map (export_pair (Some e.loaded.name)) e.exports
    → ((x : List ℕ) → standing_of next x ≡ option_or (standing_of t x) (standing_in x named))
    → IsDistinct bytes_eq (entry_names (with_entry machine e))
    → IsDistinct bytes_eq (exported_names (with_entry machine e))
    → IsKept (with_entry machine e) next
kept-next machine t next m e named kept passed is same entered names distinct = record {
  names = names;
  exports = distinct;
  keeps = record {
    at = λ x.
        entered x
        ∙ ap (λ o. option_or o (standing_in x named)) (kept.keeps.at x)
        ∙ ap (option_or (table machine x))
        (standing_in-is x (Some e.loaded.name) named e.exports same)
        ∙ sym (under-next machine e x);
  };
  placed
      = placed-next machine e kept.placed
      (subst (IsPlaced machine) (sym is)
      (placed-new machine m (module_base machine m) (module-gap machine m passed)));
}

-- The parts of a machine once its table has room for more names.
pub parts-with-room : (inside machine : Machine) (entries : List Entry) (t next : ExportTable)
    → inside ≡ machine → IsKept inside t → entries ≡ inside.entries
    → ((x : List ℕ) → standing_of next x ≡ standing_of t x)
    → HasParts machine inside.region entries next
parts-with-room inside machine entries t next is kept are same = record {
  region_is = ap (λ (m : Machine). m.region) (sym is);
  entries_are = ap (λ (m : Machine). m.entries) (sym is) ∙ sym are;
  keeps = subst (Keeps next) is (record { at = λ x. same x ∙ kept.keeps.at x });
}

pub paged-entries : (machine : Machine) (entries : List Entry)
    → All (IsPlaced machine) machine.entries → entries ≡ machine.entries
    → All (λ (e : Entry). IsPaged (run_of e)) entries
paged-entries machine entries placed are =
    subst (All (λ (e : Entry). IsPaged (run_of e))) (sym are)
    (λ k d less. record { begins = (placed k d less).begins; whole = (placed k d less).whole })

-- The table's entries for a module are as many as its exports.
pub named-length : (machine : Machine) (m : Module) (base : ℕ) (e : Entry) (named : List Named)
    (owner : Option (List ℕ))
    → e ≡ entry_at machine m base → map named_pair named ≡ map (export_pair owner) e.exports
    → length named ≡ length m.facts.exports
unfolding entry_at
named-length machine m base e named owner is same =
    sym (length-map named named_pair) ∙ ap length same ∙ length-map e.exports (export_pair owner)
    ∙ ap (λ (x : Entry). length x.exports) is
    ∙ length-map m.facts.exports (placed_export machine m base)
