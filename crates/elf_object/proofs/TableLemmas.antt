-- What the tests of tables say.
use Rattle.std.proofs.Common.{◌≡◌, ℕ, ◌<◌, ◌==◌, ◌&&◌, nat_lt, Bool, true, false, List, [], Some}
use Rattle.std.proofs.Common.{None, refl, arith}
use Rattle.std.proofs.Math.Nat.{zero-add}
use Rattle.std.proofs.lemmas.List.Quantifiers.{position-Some}
use Rattle.std.proofs.lemmas.Bool.{and_parts, eq-eqb, eqb-true, ltb-true}
use Rattle.std.proofs.lemmas.List.FromFn.{get_or-range_with_len, length-range_with_len}
use Rattle.std.specs.List.{position, range_with_len}
use Rattle.elf_format.specs.declared.section.TheConstants.{SHT_REL, SHT_STRTAB, SHT_SYMTAB}
use Rattle.elf_format.specs.declared.section.TheConstants.{SHT_RELA}
use Rattle.elf_object.specs.declared.fault.ObjectFault.TheVariants.{RelSection, BadTable}
use Rattle.elf_sections.specs.Shape.{contents, section_count}
use Rattle.elf_sections.specs.Sections.{section_of}
use Rattle.elf_object.specs.Symbols.{has_entries, is_good_table, is_string_table, is_symbol_table}
use Rattle.elf_object.specs.Symbols.{rel_test, symbol_bytes, symbol_names, symbol_table, table_test}
use Rattle.elf_object.specs.Inner.{TablesFit}
use Rattle.km_names.proofs.Positions.{position-found, position-none}

-- the first number below n that passes
pub position-number : (p : ℕ → Bool) (n i : ℕ) → i < n → ((k : ℕ) → k < i → p k ≡ false)
    → p i ≡ true → position p (range_with_len 0 n) ≡ Some i
position-number p n i less before here =
    let length_is = length-range_with_len 0 n in
    position-found p (range_with_len 0 n) i 0 (omega arith)
    (λ k below. rw (get_or-range_with_len 0 n k 0 (omega arith), zero-add k) (before k below))
    (rw (get_or-range_with_len 0 n i 0 less, zero-add i) here)

-- no number below n passes
pub position-no_number : (p : ℕ → Bool) (n : ℕ) → ((k : ℕ) → k < n → p k ≡ false)
    → position p (range_with_len 0 n) ≡ None
position-no_number p n before =
    let length_is = length-range_with_len 0 n in
    position-none p (range_with_len 0 n) 0
    (λ k below. let less : k < n
    = omega arith in rw (get_or-range_with_len 0 n k 0 less, zero-add k) (before k less))

-- the test of a section of relocations without addends
pub rel_test-failed : (b : List ℕ) (i : ℕ) → (section_of b i).kind ≡ SHT_REL
    → rel_test b i ≡ Some (RelSection i)
unfolding rel_test
rel_test-failed b i is = rw is refl

-- the symbol table by its number
pub symbol_table-found : (b : List ℕ) (i : ℕ) → i < section_count b
    → ((k : ℕ) → k < i → ((section_of b k).kind == SHT_SYMTAB) ≡ false)
    → (section_of b i).kind ≡ SHT_SYMTAB → symbol_table b ≡ Some i
unfolding symbol_table
symbol_table-found b i less before is =
    position-number (λ k. (section_of b k).kind == SHT_SYMTAB) (section_count b) i less before
    (eq-eqb (section_of b i).kind SHT_SYMTAB is)

pub symbol_table-none : (b : List ℕ)
    → ((k : ℕ) → k < section_count b → ((section_of b k).kind == SHT_SYMTAB) ≡ false)
    → symbol_table b ≡ None
unfolding symbol_table
symbol_table-none b before =
    position-no_number (λ k. (section_of b k).kind == SHT_SYMTAB) (section_count b) before

-- the test of a table
pub table_test-failed : (b : List ℕ) (i : ℕ) → is_good_table b i ≡ false
    → table_test b i ≡ Some (BadTable i)
unfolding table_test
table_test-failed b i bad = rw bad refl

pub table_test-passed : (b : List ℕ) (i : ℕ) → is_good_table b i ≡ true → table_test b i ≡ None
unfolding table_test
table_test-passed b i good = rw good refl

-- the bytes of the symbol table, and its names
pub symbol_bytes-at : (b : List ℕ) (t : ℕ) → symbol_table b ≡ Some t → symbol_bytes b ≡ contents b t
unfolding symbol_bytes
symbol_bytes-at b t is = rw is refl

pub symbol_names-at : (b : List ℕ) (t : ℕ) → symbol_table b ≡ Some t
    → symbol_names b ≡ contents b (section_of b t).link
unfolding symbol_names
symbol_names-at b t is = rw is refl

pub symbol_bytes-none : (b : List ℕ) → symbol_table b ≡ None → symbol_bytes b ≡ []
unfolding symbol_bytes
symbol_bytes-none b is = rw is refl

pub symbol_names-none : (b : List ℕ) → symbol_table b ≡ None → symbol_names b ≡ []
unfolding symbol_names
symbol_names-none b is = rw is refl

-- a good table of symbols has its names in a string table
pub is_good_table-symbols : (b : List ℕ) (t : ℕ) → (section_of b t).kind ≡ SHT_SYMTAB
    → is_good_table b t ≡ true → (section_of b t).link < section_count b
unfolding is_good_table is_string_table
is_good_table-symbols b t is good =
    let link = (section_of b t).link in
    let parts
    = and_parts (is_symbol_table b t && has_entries b t) (is_string_table b link)
    (rw is at good) in
    ltb-true link (section_count b)
    (and_parts (nat_lt link (section_count b)) ((section_of b link).kind == SHT_STRTAB)
    parts.1).0

-- a good table of relocations changes a section of the file
pub is_good_table-relocations : (b : List ℕ) (i : ℕ) → (section_of b i).kind ≡ SHT_RELA
    → is_good_table b i ≡ true → (section_of b i).info < section_count b
unfolding is_good_table
is_good_table-relocations b i is good =
    let s = section_of b i in
    let parts
    = and_parts (has_entries b i && is_symbol_table b s.link && nat_lt 0 s.info)
    (nat_lt s.info (section_count b)) (rw is at good) in
    ltb-true s.info (section_count b) parts.1

-- the symbol table is a section of that type
pub symbol_table-is : (b : List ℕ) (t : ℕ) → symbol_table b ≡ Some t
    → (t < section_count b) × ((section_of b t).kind ≡ SHT_SYMTAB)
unfolding symbol_table
symbol_table-is b t is =
    let found
    = position-Some (λ k. (section_of b k).kind == SHT_SYMTAB)
    (range_with_len 0 (section_count b)) t 0 is in
    let length_is = length-range_with_len 0 (section_count b) in
    let less : t < section_count b = omega (arith, found.0) in (
      less,
      eqb-true (section_of b t).kind SHT_SYMTAB
          (rw (get_or-range_with_len 0 (section_count b) t 0 less, zero-add t) at found.1),
    )

-- what good tables name is there
pub TablesFit-good : (b : List ℕ) → ((i : ℕ) → i < section_count b → is_good_table b i ≡ true)
    → TablesFit b
TablesFit-good b good = record {
  table = λ t is. (symbol_table-is b t is).0;
  names = λ t is. let at = symbol_table-is b t is in is_good_table-symbols b t at.1 (good t at.0);
  targets = λ i less is. is_good_table-relocations b i is (good i less);
}
