use Rattle.std.proofs.Common.{sym, inl, inr}
use Rattle.std.proofs.lemmas.Result.{err_from_is_err_and}
use Rattle.elf_object.proofs.ObjectLemmas.{place_tests-align, place_tests-overlaps}
use Rattle.elf_object.proofs.ObjectLemmas.{place_tests-rela}
use Rattle.elf_object.proofs.places.check_places.Goals as goal

pub returns-in_err-check_alignments-clause-fault :
    goal.returns-in_err-check_alignments-clause-fault
returns-in_err-check_alignments-clause-fault c =
    let p = err_from_is_err_and c.from_residual.result c.from_residual.ensures.1 in
    rw (p.1, p.2)
    (inr (place_tests-align c.args.sections.now.file _ (sym c.in_err-check_alignments.ensures)))

pub returns-in_err-meet_places-clause-fault : goal.returns-in_err-meet_places-clause-fault
returns-in_err-meet_places-clause-fault c =
    let p
    = err_from_is_err_and c.from_residual-in_err-meet_places.result
    c.from_residual-in_err-meet_places.ensures.1 in
    rw (p.1, p.2)
    (elim c.in_err-meet_places.ensures.fault [
      | inl memory ↦ inl memory
      | inr failed ↦ inr
          (place_tests-rela c.args.sections.now.file _ (sym c.in_ok-check_alignments.ensures)
          failed)
    ])

pub returns-clause-passed : goal.returns-clause-passed
returns-clause-passed c =
    rw (place_tests-overlaps c.args.sections.now.file (sym c.in_ok-check_alignments.ensures)
    c.in_ok-meet_places.ensures.passed) c.check_overlaps.ensures.passed

pub returns-clause-fault : goal.returns-clause-fault
returns-clause-fault c =
    rw (place_tests-overlaps c.args.sections.now.file (sym c.in_ok-check_alignments.ensures)
    c.in_ok-meet_places.ensures.passed) c.check_overlaps.ensures.fault
