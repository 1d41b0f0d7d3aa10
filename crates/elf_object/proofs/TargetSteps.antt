-- The tables of each section, from one to the next.
use Rattle.std.proofs.Common.{◌≡◌, ℕ, ◌+◌, ◌<◌, true, false, List, get_or, set}
use Rattle.std.proofs.Common.{sym, ◌∙◌, inl, inr, arith}
use Rattle.std.proofs.lemmas.Bool.{cases_eq, true≢false}
use Rattle.std.proofs.lemmas.List.{get_or-set_other, get_or-set_same, length-set}
use Rattle.elf_sections.specs.Shape.{section_count}
use Rattle.elf_sections.specs.Sections.{section_of}
use Rattle.elf_object.specs.Inner.{AreTargetTables, HoldsPlacesOf, IsNextTable}
use Rattle.elf_object.specs.Places.{is_applied}

-- the next table from itself on
pub IsNextTable-at : (b : List ℕ) (t from k : ℕ) → IsNextTable b t from k → IsNextTable b t k k
IsNextTable-at b t from k next = record {
  low = omega arith;
  high = next.high;
  between = λ j low high. absurd (omega arith);
  here = next.here;
}

-- the same from one section earlier on, which isn't one of the tables
IsNextTable-back : (b : List ℕ) (t n k : ℕ) → IsNextTable b t (n + 1) k → (HoldsPlacesOf b t n → ⊥)
    → IsNextTable b t n k
IsNextTable-back b t n k next other = record {
  low = let low = next.low in omega arith;
  high = next.high;
  between = λ j low high holds. elim (cases_eq j n) [
    | inl at ↦ other (rw at at holds)
    | inr off ↦ next.between j (omega (arith, off, low)) high holds
  ];
  here = next.here;
}

-- one section earlier, which isn't one of the tables
pub AreTargetTables-other : (b first next : List ℕ) (n : ℕ) → is_applied b n ≡ false
    → AreTargetTables b first next (n + 1) → AreTargetTables b first next n
AreTargetTables-other b first next n unapplied tables = record {
  first_length = tables.first_length;
  next_length = tables.next_length;
  firsts = λ t less. IsNextTable-back b t n (get_or first t 0) (tables.firsts t less)
      (λ holds. true≢false (sym holds.applied ∙ unapplied));
  nexts = λ i low less applied. elim (cases_eq i n) [
    | inl at ↦ absurd (true≢false (sym (rw at at applied) ∙ unapplied))
    | inr off ↦ tables.nexts i (omega (arith, off, low)) less applied
  ];
}

-- one section earlier, which is one of the tables
pub AreTargetTables-more : (b first next : List ℕ) (n t : ℕ) → n < section_count b
    → is_applied b n ≡ true → (section_of b n).info ≡ t → t < section_count b
    → AreTargetTables b first next (n + 1)
    → AreTargetTables b (set first t n) (set next n (get_or first t 0)) n
AreTargetTables-more b first next n t within applied target inside tables = record {
  first_length = length-set first t n ∙ tables.first_length;
  next_length = length-set next n (get_or first t 0) ∙ tables.next_length;
  firsts = λ s less. elim (cases_eq s t) [
    | inl at ↦
        let size = tables.first_length in
        rw (at, get_or-set_same first t n 0 (omega arith)) (record {
          low = omega arith;
          high = omega arith;
          between = λ j low high. absurd (omega arith);
          here = λ below. record { applied = applied; target = target };
        })
    | inr off ↦
        rw (get_or-set_other first t s n 0 off)
        (IsNextTable-back b s n (get_or first s 0) (tables.firsts s less)
        (λ holds. off (sym holds.target ∙ target)))
  ];
  nexts = λ i low less is. elim (cases_eq i n) [
    | inl at ↦
        let size = tables.next_length in
        rw (at, target, get_or-set_same next n (get_or first t 0) 0 (omega arith))
        (tables.firsts t inside)
    | inr off ↦
        rw (get_or-set_other next n i (get_or first t 0) 0 off)
        (tables.nexts i (omega (arith, off, low)) less is)
  ];
}
