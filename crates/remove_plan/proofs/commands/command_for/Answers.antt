use Rattle.std.proofs.Common.{◌∙◌, ap}
use Rattle.std.specs.Prelude.{option_and_then, slice_get}
use Rattle.name_table.specs.NameTable.{place_of}
use Rattle.remove_plan.specs.Steps.{removing_command}
use Rattle.remove_plan.proofs.CommandLemmas.{by-place, command-is}
use Rattle.remove_plan.proofs.commands.command_for.Goals as goal

pub returns : goal.returns
returns c =
    let rules = c.args.rules.now in
    let table = c.args.table.now in
    let name = c.args.name.now in
    c.command_at.ensures
    ∙ ap (λ rs. option_and_then removing_command (option_and_then (slice_get rs) c.place.result))
    c.as_slice.ensures
    ∙ ap (λ p. option_and_then removing_command (option_and_then (slice_get rules) p))
    c.place.ensures
    ∙ by-place rules (place_of table name)
    ∙ command-is rules table c.requires name
