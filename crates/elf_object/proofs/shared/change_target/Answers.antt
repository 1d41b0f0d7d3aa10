use Rattle.std.proofs.Common.{◌≡◌, ◌+◌, ◌<◌, ◌++◌, get_or, refl, ap, ◌∙◌, arith}
use Rattle.std.proofs.lemmas.List.{get_or_read}
use Rattle.elf_sections.specs.Shape.{section_count}
use Rattle.elf_object.specs.Inner.{IsNextTable}
use Rattle.elf_object.specs.Overlap.{HasChanged, changes_at}
use Rattle.elf_object.specs.Places.{places_of, rela_test, section_places}
use Rattle.elf_object.proofs.ChangedLemmas.{HasChanged-same}
use Rattle.elf_object.proofs.PlaceLemmas.{places-more}
use Rattle.elf_object.proofs.TargetLemmas.{places_up_to, up_to-same}
use Rattle.elf_object.proofs.TargetSteps.{IsNextTable-at}
use Rattle.elf_object.proofs.TestLemmas.{each-none}
use Rattle.elf_object.proofs.shared.change_target.Goals as goal

pub loop-table-init : goal.loop-table-init
loop-table-init c =
    let b = c.args.sections.now.file in
    let t = c.args.target in
    let k = c.index-table.result.now in
    let first = c.args.tables.now.first.items in
    let long = c.requires.tables.first_length in
    let read : k ≡ get_or first t 0
    = get_or_read first _ _ (omega (arith, long, c.requires.target)) c.index-table.ensures 0 in
    let next : IsNextTable b t 0 k = rw read (c.requires.tables.firsts t c.requires.target) in
    record {
      next = IsNextTable-at b t 0 k next;
      changed
          = HasChanged-same c.begin.new.self (λ x. 0) (changes_at t (places_up_to b k))
          (up_to-same b t 0 k next.low next.between) (c.begin.ensures.none c.requires.marks);
      mark = c.begin.ensures.mark ∙ ap (λ n. n + 1) c.requires.mark;
      size = refl;
    }

pub change_table-requires-clause-passed : goal.change_table-requires-clause-passed
change_table-requires-clause-passed c =
    let b = c.args.sections.now.file in
    each-none (section_count b) (rela_test b) c.requires.passed c.loop-table.table
    (omega (arith, c.loop-table-test.true, c.section_count.ensures.header))

pub loop-table-preserved : goal.loop-table-preserved
loop-table-preserved c =
    let b = c.args.sections.now.file in
    let t = c.args.target in
    let n = c.loop-table.table in
    let k = c.index-table-in-loop-table.result.now in
    let list = c.args.tables.now.next.items in
    let old = c.loop-table.invariant in
    let less : n < section_count b
    = omega (arith, c.loop-table-test.true, c.section_count.ensures.header) in
    let holds = old.next.here less in
    let long = c.requires.tables.next_length in
    let read : k ≡ get_or list n 0
    = get_or_read list _ _ (omega (arith, long, less)) c.index-table-in-loop-table.ensures 0 in
    let next : IsNextTable b t (n + 1) k
    = rw (read, ← holds.target)
    (c.requires.tables.nexts n (omega arith) less holds.applied) in
    let met : HasChanged c.change_table.new.changed
    (changes_at t (places_up_to b n ++ section_places b n))
    = rw holds.target at c.change_table.ensures.changed (places_up_to b n) old.changed in
    record {
      next = IsNextTable-at b t (n + 1) k next;
      changed
          = HasChanged-same c.change_table.new.changed (changes_at t (places_up_to b (n + 1)))
          (changes_at t (places_up_to b k)) (up_to-same b t (n + 1) k next.low next.between)
          (rw (places-more b n) met);
      mark = c.change_table.ensures.mark ∙ old.mark;
      size = c.change_table.ensures.size ∙ old.size;
    }

pub returns-clause-changed : goal.returns-clause-changed
unfolding places_of
returns-clause-changed c =
    let b = c.args.sections.now.file in
    let end : c.loop-table.table ≡ section_count b
    = omega (
      arith,
      c.loop-table-test.false,
      c.section_count.ensures.header,
      c.loop-table.invariant.next.high,
    ) in
    rw end at c.loop-table.invariant.changed
