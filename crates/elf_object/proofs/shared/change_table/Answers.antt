use Rattle.std.proofs.Common.{◌≡◌, ◌+◌, ◌<◌, [], ◌∷◌, ◌++◌, length, map, refl, sym, ap, ◌∙◌, arith}
use Rattle.std.proofs.Common.{append_assoc, append-nil}
use Rattle.std.proofs.lemmas.List.FromFn.{map-range_with_len_more}
use Rattle.std.specs.List.{range_with_len}
use Rattle.elf_object.specs.declared.place.RelaPlace.{RelaPlace}
use Rattle.elf_sections.specs.declared.section.Section.{Section}
use Rattle.elf_sections.specs.Shape.{contents}
use Rattle.elf_sections.specs.Sections.{section_of}
use Rattle.elf_object.specs.Symbols.{entries}
use Rattle.elf_object.specs.Overlap.{changes_at, count_between}
use Rattle.elf_object.specs.Places.{entry_test, place_of, place_width}
use Rattle.elf_object.proofs.ChangedLemmas.{HasChanged-same}
use Rattle.elf_object.proofs.PlaceLemmas.{entry_test-room, rela_test-some, section_places-some}
use Rattle.elf_object.proofs.TargetLemmas.{changes_at-push, place_of-target}
use Rattle.elf_object.proofs.TestLemmas.{each-none}
use Rattle.elf_object.proofs.shared.change_table.Goals as goal

pub loop-entry-init : goal.loop-entry-init
loop-entry-init c = record {
  changed = λ before has. rw (append-nil before) has;
  mark = refl;
  size = refl;
}

pub change-requires : goal.change-requires
change-requires c = λ some.
    let b = c.args.sections.now.file in
    let i = c.args.index in
    let n = c.loop-entry.entry in
    let place
    = rw (
      c.section_bytes-table.ensures.header,
      ap (λ (s : Section). s.info) c.section-target.ensures.header,
    ) at
    c.place_at-place.ensures in
    let table = ap length c.section_bytes-table.ensures.header in
    let less : n < entries (contents b i) = omega (arith, c.loop-entry-test.true, table) in
    let passed
    = each-none (entries (contents b i)) (entry_test b i)
    (sym (rela_test-some b i c.requires.applied) ∙ c.requires.passed) n less in
    let width = rw place at c.place_width.ensures in
    let room = entry_test-room b i n passed (omega (arith, width, some)) in
    let offset = ap (λ (p : RelaPlace). p.offset) place in
    let size = c.loop-entry.invariant.size in
    omega (arith, width, offset, room, size, c.requires.room)

pub loop-entry-preserved : goal.loop-entry-preserved
loop-entry-preserved c =
    let b = c.args.sections.now.file in
    let i = c.args.index in
    let n = c.loop-entry.entry in
    let t = (section_of b i).info in
    let place
    = rw (
      c.section_bytes-table.ensures.header,
      ap (λ (s : Section). s.info) c.section-target.ensures.header,
    ) at
    c.place_at-place.ensures in
    record {
      changed = λ before has.
          let met = before ++ map (place_of b i) (range_with_len 0 n) in
          let more
          = rw (c.place_width.ensures, place) at
          (c.change.ensures.changed (changes_at t met) (c.loop-entry.invariant.changed before has))
          in
          rw (map-range_with_len_more (place_of b i) 0 n n (omega arith), ← append_assoc before)
          (HasChanged-same c.change.new.self
          (λ x. changes_at t met x
          + count_between (place_of b i n).offset
          ((place_of b i n).offset + place_width (place_of b i n)) x)
          (changes_at t (met ++ place_of b i n ∷ []))
          (λ x. sym (changes_at-push t x met (place_of b i n) (place_of-target b i n))) more);
      mark = c.change.ensures.mark ∙ c.loop-entry.invariant.mark;
      size = c.change.ensures.size ∙ c.loop-entry.invariant.size;
    }

pub returns-clause-changed : goal.returns-clause-changed
returns-clause-changed c = λ before has.
    let b = c.args.sections.now.file in
    let i = c.args.index in
    let table = ap length c.section_bytes-table.ensures.header in
    let end : c.loop-entry.entry ≡ entries (contents b i)
    = omega (arith, c.loop-entry-test.false, c.loop-entry.auto.entry-end, table) in
    rw (section_places-some b i c.requires.applied)
    (rw end at (c.loop-entry.invariant.changed before has))
