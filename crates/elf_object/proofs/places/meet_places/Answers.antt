use Rattle.std.proofs.Common.{◌≡◌, inl, inr, below_more, arith}
use Rattle.std.proofs.lemmas.Result.{err_from_is_err_and}
use Rattle.std.specs.List.{flat_map, range_with_len}
use Rattle.elf_sections.specs.Shape.{section_count}
use Rattle.elf_object.specs.Places.{places_of, rela_test, section_places}
use Rattle.elf_sections.proofs.TestLemmas.{each-failed, each-passed}
use Rattle.elf_object.proofs.PlaceLemmas.{places-more}
use Rattle.elf_object.proofs.places.meet_places.Goals as goal

pub returns-in_err-meet_section_places-clause-fault :
    goal.returns-in_err-meet_section_places-clause-fault
returns-in_err-meet_section_places-clause-fault g c =
    let b = c.args.sections.now.file in
    let p = err_from_is_err_and c.from_residual.result c.from_residual.ensures.1 in
    rw (p.1, p.2)
    (elim c.in_err-meet_section_places.ensures.fault [
      | inl memory ↦ inl memory
      | inr failed ↦ inr
          (each-failed (section_count b) (rela_test b) c.loop-index.index _ (omega arith)
          c.loop-index.invariant.tests failed)
    ])

pub loop-index-preserved : goal.loop-index-preserved
loop-index-preserved g c =
    let b = c.args.sections.now.file in
    let i = c.loop-index.index in
    record {
      tests
          = below_more _ _ c.loop-index.invariant.tests c.in_ok-meet_section_places.ensures.passed;
      has_met
          = rw (places-more b i)
          (c.in_ok-meet_section_places.ensures.met
          (flat_map (section_places b) (range_with_len 0 i))
          c.loop-index.invariant.has_met);
    }

pub returns-clause-met : goal.returns-clause-met
unfolding places_of
returns-clause-met g c =
    let end : c.loop-index.index ≡ section_count c.args.sections.now.file = omega arith in
    rw end at c.loop-index.invariant.has_met

pub returns-clause-passed : goal.returns-clause-passed
returns-clause-passed g c =
    let b = c.args.sections.now.file in
    each-passed (section_count b) (rela_test b)
    (λ k less. c.loop-index.invariant.tests k (omega arith))
