use Rattle.std.proofs.Common.{ℕ, List, sym, ap, subst, ◌∙◌}
use Rattle.std.specs.Prelude.{Option, Some, Err}
use Rattle.std.proofs.lemmas.Result.{err_from_is_err_and}
use Rattle.km_course.specs.Follows.{Answers}
use Rattle.devname_nodes.specs.File.{nodes_text}
use Rattle.devname_nodes.specs.Nodes.{nodes_of}
use Rattle.command_depmod.specs.declared.files.ExtraFiles.{ExtraFiles}
use Rattle.command_depmod.specs.Extra.{extra_outcome}
use Rattle.command_depmod.proofs.ExtraSteps.{first-stopped, second-stopped, both-made, none-made}
use Rattle.command_depmod.proofs.extra.make_extra.Goals as goal

pub returns-in_default : goal.returns-in_default
returns-in_default c =
    ap (extra_outcome c.args.tree.now) c.in_default.is ∙ none-made c.args.tree.now

pub returns-in_err-builtin_alias_bin : goal.returns-in_err-builtin_alias_bin
returns-in_err-builtin_alias_bin c =
    let p = err_from_is_err_and c.from_residual.result c.from_residual.ensures.1 in
    let tree = c.args.tree.now in
    subst (λ r. Answers (λ (x : Option ExtraFiles). x) (extra_outcome tree c.args.info) r)
    (sym (p.1 ∙ ap Err p.2))
    (subst (λ info. Answers (λ (x : Option ExtraFiles). x) (extra_outcome tree info)
    (Err c.in_err-builtin_alias_bin.field-0.0)) (ap Some c.as_bytes.ensures ∙ sym c.in-Some.is)
    (first-stopped tree c.as_bytes.result.now _ c.in_err-builtin_alias_bin.ensures.stops))

pub returns-in_err-devname : goal.returns-in_err-devname
returns-in_err-devname c =
    let p
    = err_from_is_err_and c.from_residual-in_err-devname.result
    c.from_residual-in_err-devname.ensures.1 in
    let tree = c.args.tree.now in
    subst (λ r. Answers (λ (x : Option ExtraFiles). x) (extra_outcome tree c.args.info) r)
    (sym (p.1 ∙ ap Err p.2))
    (subst (λ info. Answers (λ (x : Option ExtraFiles). x) (extra_outcome tree info)
    (Err c.in_err-devname.field-0.0)) (ap Some c.as_bytes.ensures ∙ sym c.in-Some.is)
    (second-stopped tree c.as_bytes.result.now _ c.in_ok-builtin_alias_bin.ensures.small
    c.in_err-devname.ensures.stops))

pub returns : goal.returns
returns c =
    let tree = c.args.tree.now in
    let index : List ℕ = c.in_ok-builtin_alias_bin.builtin_alias_bin in
    let text : List ℕ = c.in_ok-devname.devname in
    let made : ExtraFiles = record { builtin_alias_bin = index; devname = text } in
    sym (ap (extra_outcome tree) (ap Some c.as_bytes.ensures ∙ sym c.in-Some.is))
    ∙ both-made tree c.as_bytes.result.now made c.in_ok-builtin_alias_bin.ensures.small
    c.in_ok-devname.ensures.small
    (ap (λ (bytes : List ℕ). record
    { builtin_alias_bin = bytes; devname = nodes_text (nodes_of tree) })
    (sym c.in_ok-builtin_alias_bin.ensures.made)
    ∙ ap (λ (bytes : List ℕ). record { builtin_alias_bin = index; devname = bytes })
    (sym c.in_ok-devname.ensures.made))
