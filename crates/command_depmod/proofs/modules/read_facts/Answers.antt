use Rattle.std.proofs.Common.{refl, subst, sym, ap, ◌∙◌}
use Rattle.std.specs.Prelude.{Err}
use Rattle.std.proofs.lemmas.Result.{err_from_is_err_and}
use Rattle.km_names.specs.Path.{path_below, is_compressed}
use Rattle.module_facts.specs.declared.facts.Facts.{Facts}
use Rattle.module_facts.specs.Faults.{fact_fault}
use Rattle.km_course.specs.Course.{◌>>=◌, ends, reads}
use Rattle.km_course.specs.Course.Outcome.{end}
use Rattle.km_course.specs.Follows.{Answers}
use Rattle.km_course.specs.declared.end.End.TheVariants.{Refused}
use Rattle.km_course.specs.declared.refusal.Refusal.TheVariants.{Compressed}
use Rattle.km_course.specs.declared.stop.Stop.TheVariants.{Ended}
use Rattle.km_course.proofs.Steps.{next, exits, wants, answered, chosen, passed_over}
use Rattle.command_depmod.specs.Modules.{facts_outcome}
use Rattle.km_course.proofs.Following.{along}
use Rattle.command_depmod.proofs.ModuleSteps.{checked}
use Rattle.command_depmod.proofs.modules.read_facts.Goals as goal

pub returns-in_err-path-clause-follows : goal.returns-in_err-path-clause-follows
returns-in_err-path-clause-follows g c = λ out err.
    let p = err_from_is_err_and c.from_residual.result c.from_residual.ensures.1 in
    wants _ _ _ _ p.1 p.2

pub returns-then-is_compressed-clause-follows : goal.returns-then-is_compressed-clause-follows
returns-then-is_compressed-clause-follows g c = λ out err.
    let path = c.args.path.now in
    chosen (λ (x : Facts). x) (is_compressed path) (ends (Refused (Compressed path)))
    (reads (path_below c.args.folder.now path) >>= checked path) _ _ _
    c.if-is_compressed.ensures
    (answered (λ (x : Facts). x) (end (Refused (Compressed path))) _ (Err c.from.result)
    (subst (λ stop. Answers (λ (x : Facts). x) (end (Refused (Compressed path))) (Err stop))
    (sym (c.from.ensures
    ∙ ap (λ p. Ended (Refused (Compressed p)))
    (c.in_ok-path.ensures ∙ c.as_bytes.ensures))) refl))

pub returns-in_err-file-clause-follows : goal.returns-in_err-file-clause-follows
returns-in_err-file-clause-follows g c = λ out err.
    let p
    = err_from_is_err_and c.from_residual-in_err-file.result
    c.from_residual-in_err-file.ensures.1 in
    wants _ _ _ _ p.1 p.2

pub returns-in_err-read_needed_into-clause-follows :
    goal.returns-in_err-read_needed_into-clause-follows
returns-in_err-read_needed_into-clause-follows g c = λ out err.
    let p
    = err_from_is_err_and c.from_residual-in_err-read_needed_into.result
    c.from_residual-in_err-read_needed_into.ensures.1 in
    passed_over _ _ _ _ _ _ _ c.if-is_compressed.ensures
    (along (λ file. reads file >>= checked c.args.path.now) _ _
    (c.in_ok-file.ensures ∙ ap (path_below c.args.folder.now) c.as_bytes-2.ensures)
    (exits _ _ (checked c.args.path.now) p.1 p.2
    (c.in_err-read_needed_into.ensures.follows out err)))

pub returns-clause-follows : goal.returns-clause-follows
returns-clause-follows g c = λ out err.
    let path = c.args.path.now in
    let bytes = c.read_needed_into.new.buffer in
    let answers : Answers (λ (x : Facts). x) (facts_outcome path bytes (fact_fault path bytes))
    c.check_facts.result
    =
    subst (λ b. Answers (λ (x : Facts). x) (facts_outcome path b (fact_fault path b))
    c.check_facts.result) c.as_bytes-3.ensures c.check_facts.ensures.answers in
    passed_over _ _ _ _ _ _ _ c.if-is_compressed.ensures
    (along (λ file. reads file >>= checked path) _ _
    (c.in_ok-file.ensures ∙ ap (path_below c.args.folder.now) c.as_bytes-2.ensures)
    (next (checked path) (c.in_ok-read_needed_into.ensures.follows out err)
    (answered (λ (x : Facts). x) (facts_outcome path bytes (fact_fault path bytes)) _
    c.check_facts.result answers)))
