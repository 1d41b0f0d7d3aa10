use Rattle.std.proofs.Common.{sym, subst, arith}
use Rattle.std.specs.Prelude.{Err}
use Rattle.elf_sections.specs.Sections.{FileSections}
use Rattle.elf_sections.specs.Shape.{shape_fault}
use Rattle.km_course.specs.Follows.{Answers}
use Rattle.stages_files.specs.ModuleFile.{sections_outcome}
use Rattle.stages_files.proofs.FileSteps.{checked_ok, checked_fault}
use Rattle.stages_files.proofs.module_file.check_sections.Goals as goal

pub returns-in-Ok : goal.returns-in-Ok
returns-in-Ok c =
    checked_ok c.args.path c.args.bytes c.in-Ok.sections c.in-Ok.ensures.sections
    c.in-Ok.ensures.passed

pub returns-in_ok-text-in-NotElf : goal.returns-in_ok-text-in-NotElf
returns-in_ok-text-in-NotElf c =
    subst (λ stop. Answers (λ (x : FileSections). x)
    (sections_outcome c.args.path c.args.bytes (shape_fault c.args.bytes)) (Err stop))
    (sym c.from.ensures)
    (checked_fault c.args.path c.args.bytes c.in_ok-text-in-NotElf.text c.in-Err.fault
    c.in-Err.ensures.fault (λ ran_out. let is = c.in-NotElf.is in grind arith)
    c.in_ok-text-in-NotElf.ensures)
