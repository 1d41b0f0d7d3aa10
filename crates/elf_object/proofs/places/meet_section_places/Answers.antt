use Rattle.std.proofs.Common.{◌≡◌, ℕ, List, length, get_or, false, refl, sym, ap, ◌∙◌, inr}
use Rattle.std.proofs.Common.{append_assoc, append-nil, below_more, arith}
use Rattle.std.proofs.lemmas.List.{length-map}
use Rattle.std.proofs.lemmas.List.FromFn.{map-range_with_len_more}
use Rattle.std.proofs.lemmas.Result.{err_from_is_err_and}
use Rattle.std.specs.Prelude.{Bool}
use Rattle.elf_object.specs.declared.place.RelaPlace.{RelaPlace}
use Rattle.elf_sections.specs.declared.section.Section.{Section}
use Rattle.elf_sections.specs.Shape.{contents}
use Rattle.elf_sections.specs.Sections.{section_of, sections_of}
use Rattle.elf_object.specs.Symbols.{entries, symbols_of}
use Rattle.elf_object.specs.Inner.{unkept_flags}
use Rattle.elf_object.specs.Places.{entry_test, lies_unkept, place_of, place_test, room_in}
use Rattle.elf_object.proofs.OverlapLemmas.{IsNear-inside}
use Rattle.elf_sections.proofs.TestLemmas.{each-failed, each-passed}
use Rattle.elf_object.proofs.PlaceLemmas.{IsInSection-place, is_applied-kind, is_unkept-flag}
use Rattle.elf_object.proofs.PlaceLemmas.{rela_test-none, rela_test-some, section_places-none}
use Rattle.elf_object.proofs.PlaceLemmas.{section_places-some}
use Rattle.elf_object.proofs.places.meet_section_places.Goals as goal

-- the tests of an entry, by what is known of the symbols
entry_test-by : (b : List ℕ) (i j : ℕ) (unkept : List Bool) (room : ℕ) (p : RelaPlace)
    → unkept ≡ unkept_flags (sections_of b) (symbols_of b)
    → room ≡ room_in (section_of b (section_of b i).info) → p ≡ place_of b i j
    → place_test (length unkept) (get_or unkept p.symbol false) room p ≡ entry_test b i j
entry_test-by b i j unkept room p flags is_room is_place =
    rw (
      flags,
      is_room,
      is_place,
      length-map (symbols_of b) (lies_unkept (sections_of b)),
      is_unkept-flag (sections_of b) (symbols_of b) (place_of b i j).symbol,
    ) refl

pub returns-then-not-is_applied-clause-met : goal.returns-then-not-is_applied-clause-met
returns-then-not-is_applied-clause-met g c = λ before has_met.
    let none
    = section_places-none c.args.sections.now.file c.args.index
    (sym c.is_applied.ensures ∙ c.if-not-is_applied.true) in
    rw (none, append-nil before) has_met

pub returns-then-not-is_applied-clause-passed : goal.returns-then-not-is_applied-clause-passed
returns-then-not-is_applied-clause-passed g c =
    rela_test-none c.args.sections.now.file c.args.index
    (sym c.is_applied.ensures ∙ c.if-not-is_applied.true)

pub section-requires : goal.section-requires
section-requires g c =
    let b = c.args.sections.now.file in
    let applied = sym c.is_applied.ensures ∙ c.if-not-is_applied.false in
    let count = c.section-number.ensures.count in
    let index = c.requires.index in
    rw (← count, ap (λ (s : Section). s.info) c.section-number.ensures.header)
    (c.requires.fit.targets c.args.index (omega arith) (is_applied-kind b c.args.index applied))

pub returns-in_err-width-clause-fault : goal.returns-in_err-width-clause-fault
returns-in_err-width-clause-fault g c =
    let b = c.args.sections.now.file in
    let i = c.args.index in
    let n = c.loop-entry.entry in
    let applied = sym c.is_applied.ensures ∙ c.if-not-is_applied.false in
    let target
    = c.room_in-room.ensures
    ∙ ap room_in (c.section.ensures.header
    ∙ ap (λ (s : Section). section_of b s.info) c.section-number.ensures.header) in
    let place
    = rw (
      c.section_bytes-table.ensures.header,
      ap (λ (s : Section). s.info) c.section-number.ensures.header,
    ) at
    c.place_at-place.ensures in
    let same
    = entry_test-by b i n c.args.unkept.now c.room_in-room.result c.place_at-place.result
    c.requires.unkept target place in
    let failed = sym same ∙ sym c.in_err-width.ensures.fault in
    let table = ap length c.section_bytes-table.ensures.header in
    let p = err_from_is_err_and c.from_residual.result c.from_residual.ensures.1 in
    rw (p.1, p.2)
    (inr (rela_test-some b i applied
    ∙ each-failed (entries (contents b i)) (entry_test b i) n _ (omega arith)
    c.loop-entry.invariant.tests failed))

pub loop-entry-preserved : goal.loop-entry-preserved
loop-entry-preserved g c =
    let b = c.args.sections.now.file in
    let i = c.args.index in
    let n = c.loop-entry.entry in
    let target
    = c.room_in-room.ensures
    ∙ ap room_in (c.section.ensures.header
    ∙ ap (λ (s : Section). section_of b s.info) c.section-number.ensures.header) in
    let place
    = rw (
      c.section_bytes-table.ensures.header,
      ap (λ (s : Section). s.info) c.section-number.ensures.header,
    ) at
    c.place_at-place.ensures in
    let same
    = entry_test-by b i n c.args.unkept.now c.room_in-room.result c.place_at-place.result
    c.requires.unkept target place in
    let passed = sym same ∙ sym c.in_ok-width.ensures.fault in
    record {
      tests = below_more _ _ c.loop-entry.invariant.tests passed;
      has_met = λ before has_met.
          let more = c.in_ok-meet.ensures _ (c.loop-entry.invariant.has_met before has_met) in
          rw (
            place,
            append_assoc before,
            ← map-range_with_len_more (place_of b i) 0 n n (omega arith),
          ) at more;
    }

pub meet-requires-clause-near : goal.meet-requires-clause-near
meet-requires-clause-near g c =
    let b = c.args.sections.now.file in
    let i = c.args.index in
    let n = c.loop-entry.entry in
    let section
    = c.room_in-room.ensures
    ∙ ap room_in (c.section.ensures.header
    ∙ ap (λ (s : Section). section_of b s.info) c.section-number.ensures.header) in
    let place
    = rw (
      c.section_bytes-table.ensures.header,
      ap (λ (s : Section). s.info) c.section-number.ensures.header,
    ) at
    c.place_at-place.ensures in
    let same
    = entry_test-by b i n c.args.unkept.now c.room_in-room.result c.place_at-place.result
    c.requires.unkept section place in
    let passed = sym same ∙ sym c.in_ok-width.ensures.fault in
    let applied = sym c.is_applied.ensures ∙ c.if-not-is_applied.false in
    let count = c.section-number.ensures.count in
    let index = c.requires.index in
    let target = c.requires.fit.targets i (omega arith) (is_applied-kind b i applied) in
    rw place (IsNear-inside b (place_of b i n) c.requires.small
    (IsInSection-place b i n c.requires.read.table c.requires.read.within applied target passed))

pub returns-clause-met : goal.returns-clause-met
returns-clause-met g c = λ before has_met.
    let b = c.args.sections.now.file in
    let i = c.args.index in
    let applied = sym c.is_applied.ensures ∙ c.if-not-is_applied.false in
    let table = ap length c.section_bytes-table.ensures.header in
    let end : c.loop-entry.entry ≡ entries (contents b i) = omega arith in
    rw (section_places-some b i applied) (rw end at (c.loop-entry.invariant.has_met before has_met))

pub returns-clause-passed : goal.returns-clause-passed
returns-clause-passed g c =
    let b = c.args.sections.now.file in
    let i = c.args.index in
    let applied = sym c.is_applied.ensures ∙ c.if-not-is_applied.false in
    let table = ap length c.section_bytes-table.ensures.header in
    rela_test-some b i applied
    ∙ each-passed (entries (contents b i)) (entry_test b i)
    (λ k less. c.loop-entry.invariant.tests k (omega arith))
