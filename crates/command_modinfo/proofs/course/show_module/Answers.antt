use Rattle.std.proofs.Common.{ap, subst, ◌∙◌}
use Rattle.std.specs.Prelude.{⊤}
use Rattle.std.proofs.lemmas.Result.{err_from_is_err_and}
use Rattle.modinfo_tool.specs.Show.{shown_text}
use Rattle.command_modinfo.specs.ModuleInfo.{module_fields}
use Rattle.km_course.specs.World.{world}
use Rattle.km_course.specs.Course.{says_any}
use Rattle.km_course.specs.Follows.{Follows}
use Rattle.km_course.proofs.Steps.{next, exits, wants}
use Rattle.command_modinfo.proofs.SourceSteps.{said}
use Rattle.command_modinfo.proofs.course.show_module.Goals as goal

pub returns-in_err-named : goal.returns-in_err-named
returns-in_err-named g c = λ err.
    let p = err_from_is_err_and c.from_residual.result c.from_residual.ensures.1 in
    wants _ _ _ _ p.1 p.2

pub returns-in_err-sections : goal.returns-in_err-sections
returns-in_err-sections g c = λ err.
    let p
    = err_from_is_err_and c.from_residual-in_err-sections.result
    c.from_residual-in_err-sections.ensures.1 in
    exits _ _ (said c.args.path c.args.options.now) p.1 p.2
    (c.in_err-sections.ensures (g.O.Out.seen c.args.out.now) err)

pub returns-in_err-text : goal.returns-in_err-text
returns-in_err-text g c = λ err.
    let p
    = err_from_is_err_and c.from_residual-in_err-text.result
    c.from_residual-in_err-text.ensures.1 in
    next (said c.args.path c.args.options.now)
    (c.in_ok-sections.ensures (g.O.Out.seen c.args.out.now) err) (wants _ _ _ _ p.1 p.2)

pub returns : goal.returns
returns g c = λ err.
    next (said c.args.path c.args.options.now)
    (c.in_ok-sections.ensures (g.O.Out.seen c.args.out.now) err)
    (subst (λ bytes. Follows (λ (x : ⊤). x) (says_any bytes)
    (world (g.F.Reads.seen c.read_sections.new.files) (g.O.Out.seen c.args.out.now) err)
    (world (g.F.Reads.seen c.read_sections.new.files) (g.O.Out.seen c.say_any.new.out) err)
    c.say_any.result)
    (c.as_bytes-2.ensures ∙ c.in_ok-text.ensures
    ∙ ap (λ path. shown_text path (module_fields c.in_ok-sections.sections) c.args.options.now)
    (c.in_ok-named.ensures ∙ c.as_bytes.ensures))
    (c.say_any.ensures (g.F.Reads.seen c.read_sections.new.files) err))
