use Rattle.std.proofs.Common.{◌≡◌, refl, subst, sym, ap, ◌∙◌}
use Rattle.std.specs.Prelude.{Err}
use Rattle.std.proofs.lemmas.Result.{err_from_is_err_and}
use Rattle.km_names.specs.Path.{path_below, is_compressed}
use Rattle.module_facts.specs.declared.module.Module.{Module}
use Rattle.km_course.specs.Course.{◌>>=◌, ends, reads}
use Rattle.km_course.specs.Course.Outcome.{end}
use Rattle.km_course.specs.Follows.{Answers}
use Rattle.km_course.specs.declared.end.End.TheVariants.{Refused}
use Rattle.km_course.specs.declared.refusal.Refusal.TheVariants.{Compressed}
use Rattle.km_course.specs.declared.stop.Stop.TheVariants.{Ended}
use Rattle.km_course.proofs.Steps.{next, exits, wants, answered, chosen, passed_over}
use Rattle.stages_loads.specs.Modules.{file_outcome}
use Rattle.km_course.proofs.Following.{along}
use Rattle.stages_loads.proofs.ModuleSteps.{checked}
use Rattle.stages_loads.proofs.module.read_module_in.Goals as goal

pub returns-in_err-file : goal.returns-in_err-file
returns-in_err-file g c = λ out err.
    let p = err_from_is_err_and c.from_residual.result c.from_residual.ensures.1 in
    wants _ _ _ _ p.1 p.2

pub returns-then-is_compressed : goal.returns-then-is_compressed
returns-then-is_compressed g c = λ out err.
    let path = c.args.path.now in
    let whole = path_below c.args.folder.now path in
    let at : c.in_ok-file.file ≡ whole
    = c.in_ok-file.ensures ∙ ap (path_below c.args.folder.now) c.as_bytes.ensures in
    chosen (λ (x : Module). x) (is_compressed path) (ends (Refused (Compressed whole)))
    (reads whole >>= checked whole path) _ _ _ c.if-is_compressed.ensures
    (answered (λ (x : Module). x) (end (Refused (Compressed whole))) _ (Err c.from.result)
    (subst (λ stop. Answers (λ (x : Module). x) (end (Refused (Compressed whole))) (Err stop))
    (sym (c.from.ensures ∙ ap (λ p. Ended (Refused (Compressed p))) at)) refl))

pub returns-in_err-bytes : goal.returns-in_err-bytes
returns-in_err-bytes g c = λ out err.
    let p
    = err_from_is_err_and c.from_residual-in_err-bytes.result
    c.from_residual-in_err-bytes.ensures.1 in
    let path = c.args.path.now in
    let whole = path_below c.args.folder.now path in
    let at : c.in_ok-file.file ≡ whole
    = c.in_ok-file.ensures ∙ ap (path_below c.args.folder.now) c.as_bytes.ensures in
    passed_over _ _ _ _ _ _ _ c.if-is_compressed.ensures
    (along (λ file. reads file >>= checked whole path) _ _ at
    (exits _ _ (checked whole path) p.1 p.2 (c.in_err-bytes.ensures.follows out err)))

pub returns : goal.returns
returns g c = λ out err.
    let path = c.args.path.now in
    let whole = path_below c.args.folder.now path in
    let bytes = c.in_ok-bytes.bytes in
    let at : c.in_ok-file.file ≡ whole
    = c.in_ok-file.ensures ∙ ap (path_below c.args.folder.now) c.as_bytes.ensures in
    passed_over _ _ _ _ _ _ _ c.if-is_compressed.ensures
    (along (λ file. reads file >>= checked whole path) _ _ at
    (next (checked whole path) (c.in_ok-bytes.ensures.follows out err)
    (answered (λ (x : Module). x) (file_outcome whole path bytes) _ c.check_module.result
    (subst (λ file. Answers (λ (x : Module). x) (file_outcome file path bytes)
    c.check_module.result) at c.check_module.ensures))))
