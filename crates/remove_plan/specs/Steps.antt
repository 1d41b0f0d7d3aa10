-- The steps of a removal. modprobe(8), modprobe.d(5).
use Rattle.std.specs.Prelude.{ℕ, ◌&&◌, Bool, List, map, find, Option, Some, None, option_map}
use Rattle.std.specs.Prelude.{option_and_then, if◌then◌else◌}
use Rattle.name_table.specs.NameTable.{states}
use Rattle.modprobe_conf.specs.declared.rule.Rule.{Rule}
use Rattle.modprobe_conf.specs.declared.rule.Rule.TheVariants.{Remove}
use Rattle.model_loader.specs.Machine.{Machine}
use Rattle.model_loader.specs.Use.{name_at}
use Rattle.remove_plan.specs.declared.step.RemoveStep.{RemoveStep}
use Rattle.remove_plan.specs.declared.step.RemoveStep.TheVariants.{Rmmod, Command}
use Rattle.remove_plan.specs.declared.step.RemoveFault.{RemoveFault}
use Rattle.remove_plan.specs.declared.step.RemoveFault.TheVariants.{InUse}
use Rattle.remove_plan.specs.Removal.{Places, in_use, is_asked, removed_by}

-- The module that a rule has a remove command for, and the command.
abbrev pub removed_name : Rule → Option (List ℕ)
removed_name (Remove name command) = Some name
removed_name _ = None

abbrev pub removing_command : Rule → Option (List ℕ)
removing_command (Remove name command) = Some command
removing_command _ = None

-- The command of the first rule for the module of this name.
abbrev pub remove_command : List Rule → List ℕ → Option (List ℕ)
remove_command rules name =
    option_and_then removing_command (find (λ rule. states name (removed_name rule)) rules)

-- The command that is run instead of removing the entry k. Commands for entries that are asked for
-- can be ignored.
abbrev pub chosen_command : Machine → List Rule → Bool → Places → ℕ → Option (List ℕ)
chosen_command machine rules ignored r k =
    if ignored && r k then None else remove_command rules (name_at machine k)

abbrev pub step_unless : List ℕ → Option (List ℕ) → RemoveStep
step_unless name (Some command) = Command name command
step_unless name None = Rmmod name

abbrev pub remove_step : Machine → List Rule → Bool → Places → ℕ → RemoveStep
remove_step machine rules ignored r k =
    step_unless (name_at machine k) (chosen_command machine rules ignored r k)

-- The steps of a removal, youngest first.
abbrev pub removal_steps : Machine → List Rule → Bool → List (List ℕ) → List RemoveStep
removal_steps machine rules ignored names =
    map (remove_step machine rules ignored (is_asked machine names)) (removed_by machine names)

-- Why nothing is removed: a module that is asked for is used by one that isn't. The fault names the
-- oldest such module, and its oldest such user.
abbrev pub removal_fault : Machine → List (List ℕ) → Option RemoveFault
removal_fault machine names =
    option_map (λ p. InUse (name_at machine p.0) (name_at machine p.1))
    (in_use machine (is_asked machine names))
