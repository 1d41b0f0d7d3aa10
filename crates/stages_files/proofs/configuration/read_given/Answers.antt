use Rattle.std.proofs.Common.{List, [], ◌∷◌, ◌∙◌, ap, subst}
use Rattle.std.specs.Prelude.{nat_eq, codes}
use Rattle.std.specs.List.{ends_with}
use Rattle.std.proofs.lemmas.Result.{err_from_is_err_and}
use Rattle.km_names.specs.declared.conf.ConfFile.{ConfFile}
use Rattle.km_course.specs.World.{world}
use Rattle.km_course.specs.Course.{lists_conf, ◌>>=◌}
use Rattle.km_course.specs.Follows.{Follows}
use Rattle.km_course.proofs.Steps.{next, exits, wants, chosen, passed_over}
use Rattle.stages_files.specs.Configuration.{reads_files, reads_listed}
use Rattle.stages_files.proofs.ConfigurationSteps.{given_listed}
use Rattle.stages_files.proofs.configuration.read_given.Goals as goal

pub returns-in_err-paths-clause-follows : goal.returns-in_err-paths-clause-follows
returns-in_err-paths-clause-follows g c = λ out err.
    let p = err_from_is_err_and c.from_residual.result c.from_residual.ensures.1 in
    wants _ _ _ _ p.1 p.2

pub returns-then-ends_with-clause-follows : goal.returns-then-ends_with-clause-follows
returns-then-ends_with-clause-follows g c = λ out err.
    let path = c.args.path in
    chosen (λ (x : List ConfFile). x) (ends_with nat_eq path (codes ".conf"))
    (reads_files (path ∷ [])) (lists_conf path >>= given_listed path) _ _ _
    (c.if-ends_with.ensures.value ∙ ap (λ p. ends_with nat_eq p (codes ".conf")) c.as_bytes.ensures)
    (subst (λ paths. Follows (λ (x : List ConfFile). x) (reads_files paths)
    (world (g.F.Reads.seen c.args.files.now) out err)
    (world (g.F.Reads.seen c.read_files.new.files) out err) c.read_files.result)
    (c.as_slice.ensures ∙ c.in_ok-paths.ensures) (c.read_files.ensures.follows out err))

pub returns-in_err-names-clause-follows : goal.returns-in_err-names-clause-follows
returns-in_err-names-clause-follows g c = λ out err.
    let p
    = err_from_is_err_and c.from_residual-in_err-names.result
    c.from_residual-in_err-names.ensures.1 in
    let path = c.args.path in
    passed_over (λ (x : List ConfFile). x) (ends_with nat_eq path (codes ".conf"))
    (reads_files (path ∷ [])) (lists_conf path >>= given_listed path) _ _ _
    (c.if-ends_with.ensures.value ∙ ap (λ p. ends_with nat_eq p (codes ".conf")) c.as_bytes.ensures)
    (exits _ _ (given_listed path) p.1 p.2 (c.in_err-names.ensures out err))

pub returns-in_err-folders-clause-follows : goal.returns-in_err-folders-clause-follows
returns-in_err-folders-clause-follows g c = λ out err.
    let p
    = err_from_is_err_and c.from_residual-in_err-folders.result
    c.from_residual-in_err-folders.ensures.1 in
    let path = c.args.path in
    passed_over (λ (x : List ConfFile). x) (ends_with nat_eq path (codes ".conf"))
    (reads_files (path ∷ [])) (lists_conf path >>= given_listed path) _ _ _
    (c.if-ends_with.ensures.value ∙ ap (λ p. ends_with nat_eq p (codes ".conf")) c.as_bytes.ensures)
    (next (given_listed path) (c.in_ok-names.ensures out err) (wants _ _ _ _ p.1 p.2))

pub returns-clause-follows : goal.returns-clause-follows
returns-clause-follows g c = λ out err.
    let path = c.args.path in
    passed_over (λ (x : List ConfFile). x) (ends_with nat_eq path (codes ".conf"))
    (reads_files (path ∷ [])) (lists_conf path >>= given_listed path) _ _ _
    (c.if-ends_with.ensures.value ∙ ap (λ p. ends_with nat_eq p (codes ".conf")) c.as_bytes.ensures)
    (next (given_listed path) (c.in_ok-names.ensures out err)
    (subst (λ folders. Follows (λ (x : List ConfFile). x) (reads_listed folders)
    (world (g.F.Reads.seen c.list_conf_needed.new.files) out err)
    (world (g.F.Reads.seen c.read_listed.new.files) out err) c.read_listed.result)
    c.in_ok-folders.ensures (c.read_listed.ensures.follows out err)))
