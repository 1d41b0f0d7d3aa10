use Rattle.std.proofs.Common.{sym, subst}
use Rattle.std.specs.Prelude.{Ok}
use Rattle.std.proofs.lemmas.Result.{err_from_is_err_and}
use Rattle.km_course.specs.World.{world}
use Rattle.km_course.specs.Follows.{Follows}
use Rattle.km_course.proofs.Steps.{next, exits, wants, gave}
use Rattle.command_modinfo.specs.declared.course.Source.{Source}
use Rattle.command_modinfo.specs.declared.course.Source.TheVariants.{Paths, Names}
use Rattle.command_modinfo.specs.Modinfo.{reads_source}
use Rattle.command_modinfo.proofs.SourceSteps.{by_version, named}
use Rattle.command_modinfo.proofs.course.read_source.Goals as goal

pub returns-in_err-folder-in-Some : goal.returns-in_err-folder-in-Some
returns-in_err-folder-in-Some g c = λ out err.
    let p = err_from_is_err_and c.from_residual.result c.from_residual.ensures.1 in
    wants _ _ _ _ p.1 p.2

pub returns-in_err-read_modules-in-Some : goal.returns-in_err-read_modules-in-Some
returns-in_err-read_modules-in-Some g c = λ out err.
    let p
    = err_from_is_err_and c.from_residual-in_err-read_modules-in-Some.result
    c.from_residual-in_err-read_modules-in-Some.ensures.1 in
    by_version _ _ _ _ _ _ _ c.in-Some.is c.in_ok-folder-in-Some.ensures
    (exits _ _ named p.1 p.2 (c.in_err-read_modules-in-Some.ensures out err))

pub returns-in-None : goal.returns-in-None
returns-in-None g c = λ out err.
    subst (λ version. Follows (λ (x : Source). x) (reads_source version c.args.root.now)
    (world (g.F.Reads.seen c.args.files.now) out err)
    (world (g.F.Reads.seen c.args.files.now) out err) (Ok Paths))
    (sym c.in-None.is)
    (gave (λ (x : Source). x) _ Paths)

pub returns-in_ok-read_modules-in-Some : goal.returns-in_ok-read_modules-in-Some
returns-in_ok-read_modules-in-Some g c = λ out err.
    by_version _ _ _ _ _ _ _ c.in-Some.is c.in_ok-folder-in-Some.ensures
    (next named (c.in_ok-read_modules-in-Some.ensures out err)
    (gave (λ (x : Source). x) _ (Names c.in_ok-read_modules-in-Some.field-0)))
