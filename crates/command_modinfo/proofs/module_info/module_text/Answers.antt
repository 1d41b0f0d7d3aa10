use Rattle.std.proofs.Common.{◌≡◌, ℕ, List, ap, subst, ◌∙◌}
use Rattle.std.specs.Prelude.{IfOk}
use Rattle.modinfo_fields.specs.Fields.{fields_of, values_of_key}
use Rattle.modinfo_tool.specs.Show.{ended, line_end}
use Rattle.command_modinfo.proofs.FieldSteps.{shown-by-key}
use Rattle.command_modinfo.proofs.module_info.module_text.Goals as goal

pub returns-in-Some : goal.returns-in-Some
returns-in-Some c =
    let key = c.in-Some.key.now in
    let shown-so
    = ap (λ bytes. ended (line_end c.args.options.now.zero)
    (values_of_key key (fields_of bytes))) c.in_ok-section.ensures
    ∙ shown-by-key c.args.path.now c.args.options.now key _ c.in-Some.ensures in
    subst (λ (t : List ℕ). IfOk c.show_values.result (λ text. text ≡ t)) shown-so
    c.show_values.ensures
