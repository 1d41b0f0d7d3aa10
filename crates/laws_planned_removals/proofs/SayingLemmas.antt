-- Acts that say lines, and runs of them.
use Rattle.std.proofs.Common.{◌≡◌, ◌∙◌, ℕ, List, [], ◌∷◌, ◌++◌, refl, sym, ap, subst, map}
use Rattle.std.proofs.Common.{append_assoc, append-nil}
use Rattle.std.specs.Prelude.{flat_map, codes, None, Ok}
use Rattle.outside_calls.specs.Contents.{Contents}
use Rattle.km_course.specs.Course.{Act, act_with, after, each_from, says}
use Rattle.km_course.specs.Course.Act.{read, list, say, warn, put}
use Rattle.km_course.specs.Course.Outcome.{value}
use Rattle.model_loader.specs.Machine.{Machine}
use Rattle.model_unload.specs.Unload.{unload_all, unloaded, unless_refused}
use Rattle.remove_plan.specs.declared.step.RemoveStep.{RemoveStep}
use Rattle.remove_plan.specs.declared.step.RemoveStep.TheVariants.{Rmmod, Command}
use Rattle.laws_planned_loads.specs.Acts.{said}
use Rattle.laws_planned_loads.proofs.RunLemmas.{joined, run-given, run-then, run_of}
use Rattle.command_remove.specs.Lines.{line_of_two, step_lines, unloaded_line}
use Rattle.command_remove.specs.Remove.{first_owner, step_name, unloads_one, without_named}
use Rattle.command_remove.proofs.RemoveSteps.{can-go, one_unloaded, removed-is, same-machine}
use Rattle.laws_planned_removals.specs.Courses.{AreSaying}

pub saying-append : (a b : List Act) (x y : List ℕ) → AreSaying a x → AreSaying b y
    → AreSaying (a ++ b) (x ++ y)
saying-append [] b x y first later = subst (λ lines. AreSaying b (lines ++ y)) (sym first) later
saying-append (read path ∷ a) b x y first later = absurd first
saying-append (list path ∷ a) b x y first later = absurd first
saying-append (say bytes ∷ a) b x y first later = (
  first.0 ++ y,
  ap (λ lines. lines ++ y) first.1 ∙ append_assoc bytes first.0 y,
  saying-append a b first.0 y first.2 later,
)
saying-append (warn bytes ∷ a) b x y first later = absurd first
saying-append (put path bytes ∷ a) b x y first later = absurd first

pub saying-said : (bytes : List ℕ) → AreSaying (said bytes) bytes
saying-said [] = refl
saying-said (byte ∷ bytes) = ([], sym (append-nil (byte ∷ bytes)), refl)

pub saying-leaves : (acts : List Act) (lines : List ℕ) (files : Contents) → AreSaying acts lines
    → after acts files ≡ files
saying-leaves [] lines files are = refl
saying-leaves (read path ∷ acts) lines files are = absurd are
saying-leaves (list path ∷ acts) lines files are = absurd are
saying-leaves (say bytes ∷ acts) lines files are = saying-leaves acts are.0 files are.2
saying-leaves (warn bytes ∷ acts) lines files are = absurd are
saying-leaves (put path bytes ∷ acts) lines files are = absurd are

-- ---- modules that are taken out

abbrev pub unload_acts : List RemoveStep → List Act
unload_acts [] = []
unload_acts (step ∷ steps) = say (unloaded_line (step_name step)) ∷ unload_acts steps

pub unloads-say : (steps : List RemoveStep)
    → AreSaying (unload_acts steps) (flat_map unloaded_line (map step_name steps))
unloads-say [] = refl
unloads-say (step ∷ steps) = (flat_map unloaded_line (map step_name steps), refl, unloads-say steps)

run-says : (bytes : List ℕ) (files : Contents)
    → (says bytes).run files ≡ run_of (say bytes ∷ []) (value tt)
unfolding act_with
run-says bytes files = refl

pub unloads-run : (steps : List RemoveStep) (machine left : Machine) (files : Contents)
    → unload_all machine (map step_name steps) ≡ Ok left
    → (each_from unloads_one machine steps).run files ≡ run_of (unload_acts steps) (value left)
unloads-run [] machine left files is =
    run-given (value machine) files
    ∙ ap (λ (m : Machine). run_of [] (value m)) (same-machine machine left is)
unloads-run (step ∷ steps) machine left files is =
    let can = can-go machine (map step_name steps) left (unloaded machine (step_name step)) is in
    let next : Machine = can.0 in
    let acts : List Act = say (unloaded_line (step_name step)) ∷ [] in
    let one : (unloads_one machine step).run files ≡ run_of acts (value next) =
    run-then (says (unloaded_line (step_name step))) (one_unloaded machine step) files acts tt
    (run-says (unloaded_line (step_name step)) files)
    ∙ ap (joined acts) (run-given (value (without_named machine (step_name step))) files)
    ∙ ap (λ (m : Machine). run_of acts (value m))
    (sym (removed-is machine (step_name step) next can.1)) in
    let rest : unload_all next (map step_name steps) ≡ Ok left =
    ap (unless_refused (λ other. unload_all other (map step_name steps))) (sym can.1) ∙ is in
    run-then (unloads_one machine step) (λ other. each_from unloads_one other steps) files acts next
    one
    ∙ ap (joined acts) (unloads-run steps next left files rest)

-- where no step runs a command, each is for a module that is taken out
pub no-commands : (steps : List RemoveStep) → first_owner steps ≡ None
    → step_lines steps ≡ flat_map (line_of_two (codes "rmmod ")) (map step_name steps)
no-commands [] none = refl
no-commands (Rmmod name ∷ steps) none =
    ap (λ lines. line_of_two (codes "rmmod ") name ++ lines) (no-commands steps none)
no-commands (Command name command ∷ steps) none = cc
