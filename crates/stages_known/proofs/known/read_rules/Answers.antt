use Rattle.std.proofs.Common.{◌≡◌, List, ◌++◌, ◌∷◌, [], sym, ap, subst}
use Rattle.std.specs.Prelude.{Ok, Err}
use Rattle.std.proofs.lemmas.Result.{err_from_is_err_and}
use Rattle.km_course.specs.Course.Outcome.{value}
use Rattle.km_course.specs.Follows.{Answers}
use Rattle.km_course.proofs.Steps.{next, exits, wants, answered}
use Rattle.modprobe_conf.specs.declared.rule.Rule.{Rule}
use Rattle.modprobe_conf.specs.Rules.{rules_of}
use Rattle.stages_files.specs.Configuration.{stated_outcome}
use Rattle.stages_known.proofs.KnownSteps.{softdep_more, softdep_stated, at-softdep}
use Rattle.stages_known.proofs.known.read_rules.Goals as goal

pub returns-in_err-path : goal.returns-in_err-path
returns-in_err-path g c = λ out err.
    let p = err_from_is_err_and c.from_residual.result c.from_residual.ensures.1 in
    wants _ _ _ _ p.1 p.2

pub returns-in_err-bytes : goal.returns-in_err-bytes
returns-in_err-bytes g c = λ out err.
    let p
    = err_from_is_err_and c.from_residual-in_err-bytes.result
    c.from_residual-in_err-bytes.ensures.1 in
    at-softdep c.args.stated c.args.folder.now c.in_ok-path.path _ _ _ c.in_ok-path.ensures
    (exits _ _ (softdep_stated c.args.stated c.in_ok-path.path) p.1 p.2
    (c.in_err-bytes.ensures.follows out err))

pub returns-in_err-softdep : goal.returns-in_err-softdep
returns-in_err-softdep g c = λ out err.
    let p
    = err_from_is_err_and c.from_residual-in_err-softdep.result
    c.from_residual-in_err-softdep.ensures.1 in
    at-softdep c.args.stated c.args.folder.now c.in_ok-path.path _ _ _ c.in_ok-path.ensures
    (next (softdep_stated c.args.stated c.in_ok-path.path) (c.in_ok-bytes.ensures.follows out err)
    (wants _ _ _ _ p.1 p.2))

pub returns-in_err-more : goal.returns-in_err-more
returns-in_err-more g c = λ out err.
    let p
    = err_from_is_err_and c.from_residual-in_err-more.result
    c.from_residual-in_err-more.ensures.1 in
    let path = c.in_ok-path.path in
    let bytes = c.in_ok-bytes.bytes in
    let stop = c.in_err-more.field-0.0 in
    at-softdep c.args.stated c.args.folder.now path _ _ _ c.in_ok-path.ensures
    (next (softdep_stated c.args.stated path) (c.in_ok-bytes.ensures.follows out err)
    (exits _ _ (softdep_more c.args.stated) p.1 p.2
    (answered (λ (x : List Rule). x)
    (stated_outcome (rules_of (record { path = path; bytes = bytes } ∷ []))) _ (Err stop)
    (subst (λ files. Answers (λ (x : List Rule). x) (stated_outcome (rules_of files)) (Err stop))
    c.in_ok-softdep.ensures.files c.in_err-more.ensures))))

pub returns-in_err-append : goal.returns-in_err-append
returns-in_err-append g c = λ out err.
    let p
    = err_from_is_err_and c.from_residual-in_err-append.result
    c.from_residual-in_err-append.ensures.1 in
    let path = c.in_ok-path.path in
    let bytes = c.in_ok-bytes.bytes in
    let more = c.in_ok-more.more in
    at-softdep c.args.stated c.args.folder.now path _ _ _ c.in_ok-path.ensures
    (next (softdep_stated c.args.stated path) (c.in_ok-bytes.ensures.follows out err)
    (next (softdep_more c.args.stated)
    (answered (λ (x : List Rule). x)
    (stated_outcome (rules_of (record { path = path; bytes = bytes } ∷ []))) _ (Ok more)
    (subst (λ files. stated_outcome (rules_of files) ≡ value more) c.in_ok-softdep.ensures.files
    c.in_ok-more.ensures))
    (wants _ _ _ _ p.1 p.2)))

pub returns : goal.returns
returns g c = λ out err.
    let path = c.in_ok-path.path in
    let bytes = c.in_ok-bytes.bytes in
    let more = c.in_ok-more.more in
    at-softdep c.args.stated c.args.folder.now path _ _ _ c.in_ok-path.ensures
    (next (softdep_stated c.args.stated path) (c.in_ok-bytes.ensures.follows out err)
    (next (softdep_more c.args.stated)
    (answered (λ (x : List Rule). x)
    (stated_outcome (rules_of (record { path = path; bytes = bytes } ∷ []))) _ (Ok more)
    (subst (λ files. stated_outcome (rules_of files) ≡ value more) c.in_ok-softdep.ensures.files
    c.in_ok-more.ensures))
    (answered (λ (x : List Rule). x) (value (c.args.stated ++ more)) _ (Ok c.append.new.self)
    (ap value (sym c.in_ok-append.ensures.ok)))))
