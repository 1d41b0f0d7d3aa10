-- The lines of a removal. modprobe(8), -r. The lines of what is unloaded and what is left are this
-- project's own.
use Rattle.std.specs.Prelude.{ℕ, List, [], ◌∷◌, ◌++◌, codes}
use Rattle.std.specs.List.{flat_map}
use Rattle.model_loader.specs.declared.entry.Entry.{Entry}
use Rattle.remove_plan.specs.declared.step.RemoveStep.{RemoveStep}
use Rattle.remove_plan.specs.declared.step.RemoveStep.TheVariants.{Rmmod, Command}
use Rattle.stages_loads.specs.Loads.{entry_line}

-- A line of two parts.
abbrev pub line_of_two : List ℕ → List ℕ → List ℕ
line_of_two word rest = word ++ (rest ++ 10 ∷ [])

-- The line of a step: the module that is taken out, or the command that is run instead.
abbrev pub step_line : RemoveStep → List ℕ
step_line (Rmmod name) = line_of_two (codes "rmmod ") name
step_line (Command name command) = line_of_two (codes "remove ") command

-- The lines of steps, a line for each.
abbrev pub step_lines : List RemoveStep → List ℕ
step_lines steps = flat_map step_line steps

-- The line of a module that was unloaded.
abbrev pub unloaded_line : List ℕ → List ℕ
unloaded_line name = line_of_two (codes "unloaded ") name

-- The line of an entry that the machine still has, in the form of the line of a load.
abbrev pub left_line : Entry → List ℕ
left_line e = entry_line (codes "left") e.loaded e.image

abbrev pub left_lines : List Entry → List ℕ
left_lines es = flat_map left_line es
