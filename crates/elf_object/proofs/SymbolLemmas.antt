-- What the tests of a symbol say.
use Rattle.std.proofs.Common.{◌≡◌, ℕ, ◌<◌, ◌≤◌, ◌==◌, false, List, [], None, refl, inl, inr, arith}
use Rattle.std.specs.Prelude.{unwrap_or, is_none}
use Rattle.std.proofs.lemmas.Bool.{cases_Bool}
use Rattle.std.proofs.lemmas.Bool.Decides.{nat_tests}
use Rattle.km_names.specs.Strings.{string_at}
use Rattle.elf_format.specs.declared.symbol.TheConstants.{SHN_LORESERVE, SHN_ABS, STB_WEAK}
use Rattle.elf_object.specs.declared.symbol.Symbol.{Symbol}
use Rattle.elf_object.specs.declared.symbol.SymbolEntry.{SymbolEntry}
use Rattle.elf_object.specs.declared.fault.ObjectFault.TheVariants.{Shape, ExtendedIndex}
use Rattle.elf_object.specs.declared.fault.ObjectFault.TheVariants.{CommonSymbol, BadSymbol}
use Rattle.elf_sections.specs.declared.fault.SectionFault.TheVariants.{BadString}
use Rattle.elf_sections.specs.Shape.{each, fault_if}
use Rattle.elf_sections.specs.Strings.{HasStrings}
use Rattle.elf_object.specs.Symbols.{binding, entries, is_bad_symbol, kind_test, symbol_entry}
use Rattle.elf_object.specs.Symbols.{symbol_in, symbol_test_in, symbols_in}
use Rattle.elf_object.proofs.TestLemmas.{fault_if-none, first-parts, map-range-same}

-- a symbol of a file with that many sections
pub record IsSymbolBelow (count : ℕ) (s : Symbol) : Type 0 where
  pub section : s.section < SHN_LORESERVE → s.section < count
  pub absolute : SHN_LORESERVE ≤ s.section → s.section ≡ SHN_ABS
  pub binding : s.binding ≤ STB_WEAK

-- what is said of an entry that isn't bad
record IsEntryBelow (count : ℕ) (e : SymbolEntry) : Type 0 where
  section : e.section < SHN_LORESERVE → e.section < count
  absolute : SHN_LORESERVE ≤ e.section → e.section ≡ SHN_ABS
  binding : binding e ≤ STB_WEAK

is_bad_symbol-below : (count : ℕ) (name : List ℕ) (e : SymbolEntry)
    → is_bad_symbol count name e ≡ false → e.section < SHN_LORESERVE → e.section < count
unfolding is_bad_symbol
is_bad_symbol-below count name e good ordinary = grind (arith, nat_tests)

is_bad_symbol-absolute : (count : ℕ) (name : List ℕ) (e : SymbolEntry)
    → is_bad_symbol count name e ≡ false → SHN_LORESERVE ≤ e.section → e.section ≡ SHN_ABS
unfolding is_bad_symbol
is_bad_symbol-absolute count name e good reserved = grind (arith, nat_tests)

is_bad_symbol-binding : (count : ℕ) (name : List ℕ) (e : SymbolEntry)
    → is_bad_symbol count name e ≡ false → binding e ≤ STB_WEAK
unfolding is_bad_symbol
is_bad_symbol-binding count name e good = grind (arith, nat_tests)

kind_test-below : (count : ℕ) (name : List ℕ) (j : ℕ) (e : SymbolEntry)
    → kind_test count name j e ≡ None → IsEntryBelow count e
unfolding kind_test
kind_test-below count name j e passed =
    let one = first-parts (fault_if (e.section == 0xffff) (ExtendedIndex j)) _ passed in
    let two = first-parts (fault_if (e.section == 0xfff2) (CommonSymbol j)) _ one.1 in
    let three = first-parts (fault_if (is_bad_symbol count name e) (BadSymbol j)) [] two.1 in
    let good = fault_if-none (is_bad_symbol count name e) (BadSymbol j) three.0 in
    record {
      section = is_bad_symbol-below count name e good;
      absolute = is_bad_symbol-absolute count name e good;
      binding = is_bad_symbol-binding count name e good;
    }

-- a symbol that passed its tests
pub symbol_in-below : (table names : List ℕ) (count j : ℕ) → 0 < count
    → symbol_test_in table names count j ≡ None → IsSymbolBelow count (symbol_in table names j)
unfolding symbol_test_in symbol_in
symbol_in-below table names count j some passed =
    let e = symbol_entry table j in
    let name = unwrap_or (string_at names e.name) [] in
    elim (cases_Bool (j == 0)) [
      | inl first_one ↦ rw first_one
          (record {
            section = λ _. some;
            absolute = λ reserved. absurd (omega arith);
            binding = omega arith;
          })
      | inr later ↦
          let tests = rw later at passed in
          let one
          = first-parts (fault_if (is_none (string_at names e.name)) (Shape (BadString e.name)))
          _ tests in
          let two = first-parts (kind_test count name j e) [] one.1 in
          let below = kind_test-below count name j e two.0 in
          rw later (record
          { section = below.section; absolute = below.absolute; binding = below.binding })
    ]

-- symbols and their tests under a table with the same strings
symbol_test_in-same : (table strings names : List ℕ) (count j : ℕ) → HasStrings strings names
    → symbol_test_in table names count j ≡ symbol_test_in table strings count j
unfolding symbol_test_in
symbol_test_in-same table strings names count j same =
    rw (same.strings (symbol_entry table j).name) refl

symbol_in-same : (table strings names : List ℕ) (j : ℕ) → HasStrings strings names
    → symbol_in table names j ≡ symbol_in table strings j
unfolding symbol_in
symbol_in-same table strings names j same = rw (same.strings (symbol_entry table j).name) refl

pub symbol_tests-same : (table strings names : List ℕ) (count : ℕ) → HasStrings strings names
    → each (entries table) (symbol_test_in table names count)
    ≡ each (entries table) (symbol_test_in table strings count)
symbol_tests-same table strings names count same =
    map-range-same (symbol_test_in table names count) (symbol_test_in table strings count)
    (entries table) (λ j. symbol_test_in-same table strings names count j same)

pub symbols_in-same : (table strings names : List ℕ) → HasStrings strings names
    → symbols_in table names ≡ symbols_in table strings
unfolding symbols_in
symbols_in-same table strings names same =
    map-range-same (symbol_in table names) (symbol_in table strings) (entries table)
    (λ j. symbol_in-same table strings names j same)
