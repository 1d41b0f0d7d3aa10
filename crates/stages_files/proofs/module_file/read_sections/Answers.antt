use Rattle.std.proofs.Common.{refl, subst, sym}
use Rattle.std.specs.Prelude.{Err}
use Rattle.std.proofs.lemmas.Result.{err_from_is_err_and}
use Rattle.km_names.specs.Path.{is_compressed}
use Rattle.elf_sections.specs.Sections.{FileSections}
use Rattle.elf_sections.specs.Shape.{shape_fault}
use Rattle.km_course.specs.Course.{◌>>=◌, ends, reads}
use Rattle.km_course.specs.Course.Outcome.{end}
use Rattle.km_course.specs.Follows.{Answers}
use Rattle.km_course.specs.declared.end.End.TheVariants.{Refused}
use Rattle.km_course.specs.declared.refusal.Refusal.TheVariants.{Compressed}
use Rattle.stages_files.specs.ModuleFile.{sections_outcome}
use Rattle.km_course.proofs.Steps.{next, exits, answered, chosen, passed_over}
use Rattle.stages_files.proofs.FileSteps.{checked}
use Rattle.stages_files.proofs.module_file.read_sections.Goals as goal

pub returns-then-is_compressed : goal.returns-then-is_compressed
returns-then-is_compressed g c = λ out err.
    chosen (λ (x : FileSections). x) (is_compressed c.args.path)
    (ends (Refused (Compressed c.args.path))) (reads c.args.path >>= checked c.args.path) _ _ _
    c.if-is_compressed.ensures
    (answered (λ (x : FileSections). x) (end (Refused (Compressed c.args.path))) _
    (Err c.from.result)
    (subst (λ stop. Answers (λ (x : FileSections). x) (end (Refused (Compressed c.args.path)))
    (Err stop)) (sym c.from.ensures) refl))

pub returns-in_err-bytes : goal.returns-in_err-bytes
returns-in_err-bytes g c = λ out err.
    let p = err_from_is_err_and c.from_residual.result c.from_residual.ensures.1 in
    passed_over _ _ _ _ _ _ _ c.if-is_compressed.ensures
    (exits _ _ (checked c.args.path) p.1 p.2 (c.in_err-bytes.ensures.follows out err))

pub returns : goal.returns
returns g c = λ out err.
    passed_over _ _ _ _ _ _ _ c.if-is_compressed.ensures
    (next (checked c.args.path) (c.in_ok-bytes.ensures.follows out err)
    (answered (λ (x : FileSections). x)
    (sections_outcome c.args.path c.in_ok-bytes.bytes (shape_fault c.in_ok-bytes.bytes)) _
    c.check_sections.result c.check_sections.ensures))
