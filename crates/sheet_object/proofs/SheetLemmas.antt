-- What the conditions of a sheet say to its writer.
use Rattle.std.proofs.Common.{◌≡◌, ℕ, ◌<◌, ◌≤◌, ◌^◌, Bool, true, false, ◌&&◌, nat_le, nat_lt, List}
use Rattle.std.proofs.Common.{[], ◌∷◌, length, map, All, sym, true≢false, refl, ◌∙◌, arith}
use Rattle.std.proofs.lemmas.Bool.{leb-true, ltb-true}
use Rattle.std.proofs.lemmas.List.{length-map}
use Rattle.std.proofs.lemmas.List.Elements.{All-nil, All-cons}
use Rattle.std.proofs.lemmas.List.Folds.{list_all-append, list_all-map}
use Rattle.std.specs.List.{list_all}
use Rattle.sheet_object.specs.declared.sheet.Sheet.{Sheet}
use Rattle.sheet_object.specs.declared.sheet.SheetExport.{SheetExport}
use Rattle.sheet_object.specs.declared.sheet.SheetMore.{SheetMore}
use Rattle.sheet_object.specs.declared.sheet.SheetNeed.{SheetNeed}
use Rattle.sheet_object.specs.declared.sheet.SheetSpace.{SheetSpace}
use Rattle.sheet_object.specs.declared.sheet.SheetVersion.{SheetVersion}
use Rattle.sheet_object.specs.Sheet.{has_no_nul, is_few, is_text, is_version, is_extended, is_space}
use Rattle.sheet_object.specs.Sheet.{are_few, are_texts, are_known, are_chosen, is_sheet}
use Rattle.sheet_object.specs.Sheet.{symbol_names, export_names, spaced_names}
use Rattle.sheet_object.proofs.DistinctLemmas.{chosen-few}

-- how long the lists, names and texts are at most
pub record Fits (s : Sheet) (m : SheetMore) : Type 0 where
  pub exports : length s.exports ≤ 65535
  pub needs : length s.needs ≤ 65535
  pub places : length s.places ≤ 65535
  pub gpl : length m.gpl ≤ 65535
  pub spaces : length m.spaces ≤ 65535
  pub versions : All (λ (v : SheetVersion). length v.name ≤ 55) s.versions
  pub export_names : All (λ (e : SheetExport). length e.name ≤ 4096) s.exports
  pub need_names : All (λ (n : SheetNeed). length n.name ≤ 4096) s.needs
  pub ext : All (λ (v : SheetVersion). v.crc < 2 ^ 32) m.ext

both : (a b : Bool) → (a && b) ≡ true → (a ≡ true) × (b ≡ true)
both true b h = (refl, h)
both false b h = absurd (true≢false (sym h))

-- a test that each item passes, by what it says
pub All-from_test : {X : Type 0} (p : X → Bool) (P : X → Type 0) (xs : List X)
    → ((x : X) → p x ≡ true → P x) → list_all p xs ≡ true → All P xs
All-from_test p P [] says h = All-nil P
All-from_test p P (x ∷ xs) says h =
    let w
    = both (p x) (list_all p xs) h in All-cons P x xs (says x w.0)
    (All-from_test p P xs says w.1)

short-text : (text : List ℕ) → is_text text ≡ true → length text ≤ 4096
unfolding is_text
short-text text h =
    leb-true (length text) 4096 (both (nat_le (length text) 4096) (has_no_nul text) h).0

-- how long the lists of a sheet are at most
pub record Few (s : Sheet) : Type 0 where
  pub exports : length s.exports ≤ 65535
  pub needs : length s.needs ≤ 65535
  pub places : length s.places ≤ 65535

pub few : (s : Sheet) → are_few s ≡ true → Few s
unfolding are_few
few s h =
    let few-4 = both _ (is_few s.places) h in
    let few-3 = both _ (is_few s.needs) few-4.0 in
    let few-2 = both _ (is_few s.exports) few-3.0 in
    record {
      exports = leb-true (length s.exports) 65535 few-2.1;
      needs = leb-true (length s.needs) 65535 few-3.1;
      places = leb-true (length s.places) 65535 few-4.1;
    }

-- how long the lists are at most whose names are exports, each once
record ChosenFew (s : Sheet) (m : SheetMore) : Type 0 where
  gpl : length m.gpl ≤ length s.exports
  spaces : length m.spaces ≤ length s.exports

chosen : (s : Sheet) (m : SheetMore) → are_known s m ≡ true → ChosenFew s m
unfolding are_known
chosen s m h =
    let known-2 = both _ (are_chosen (export_names s) (spaced_names m)) h in
    let known-1 = both _ (are_chosen (export_names s) m.gpl) known-2.0 in
    let exports = length-map s.exports (λ (e : SheetExport). e.name) in
    record {
      gpl = omega (arith, exports, chosen-few (export_names s) m.gpl known-1.1);
      spaces
          = omega (
            arith,
            exports,
            length-map m.spaces (λ (p : SheetSpace). p.name),
            chosen-few (export_names s) (spaced_names m) known-2.1,
          );
    }

pub fits : (s : Sheet) (m : SheetMore) → is_sheet s m ≡ true → Fits s m
unfolding is_sheet are_texts
fits s m h =
    let all = both (are_few s && are_texts s m) (are_known s m) h in
    let front = both (are_few s) (are_texts s m) all.0 in
    let short = few s front.0 in
    let among = chosen s m all.1 in
    let texts-4 = both _ (list_all is_space m.spaces) front.1 in
    let texts-3 = both _ (list_all is_extended m.ext) texts-4.0 in
    let texts-2 = both _ (list_all is_text (symbol_names s)) texts-3.0 in
    let texts-1 = both (list_all is_text s.texts) (list_all is_version s.versions) texts-2.0 in
    let names
    = both (list_all is_text (export_names s))
    (list_all is_text (map (λ (n : SheetNeed). n.name) s.needs))
    (sym (list_all-append is_text (export_names s) (map (λ (n : SheetNeed). n.name) s.needs))
    ∙ texts-2.1) in
    record {
      exports = short.exports;
      needs = short.needs;
      places = short.places;
      gpl = omega (arith, short.exports, among.gpl);
      spaces = omega (arith, short.exports, among.spaces);
      versions = All-from_test is_version (λ v. length v.name ≤ 55) s.versions
          (λ v e. leb-true (length v.name) 55
          (both (is_text v.name) (nat_le (length v.name) 55) e).1) texts-1.1;
      export_names
          = All-from_test (λ (e : SheetExport). is_text e.name) (λ e. length e.name ≤ 4096)
          s.exports (λ e h. short-text e.name h)
          (sym (list_all-map is_text (λ (e : SheetExport). e.name) s.exports) ∙ names.0);
      need_names
          = All-from_test (λ (n : SheetNeed). is_text n.name) (λ n. length n.name ≤ 4096) s.needs
          (λ n h. short-text n.name h)
          (sym (list_all-map is_text (λ (n : SheetNeed). n.name) s.needs) ∙ names.1);
      ext = All-from_test is_extended (λ v. v.crc < 2 ^ 32) m.ext
          (λ v e. ltb-true v.crc (2 ^ 32) (both (has_no_nul v.name) (nat_lt v.crc (2 ^ 32)) e).1)
          texts-3.1;
    }
