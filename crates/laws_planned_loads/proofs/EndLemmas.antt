-- How courses of loads end.
use Rattle.std.proofs.Common.{◌≡◌, ◌∙◌, ℕ, Bool, List, ◌∷◌, ◌++◌, sym, ap, subst}
use Rattle.std.specs.Prelude.{Result, Ok, Err, IfErr}
use Rattle.km_course.specs.Course.{Act, Outcome}
use Rattle.module_facts.specs.declared.module.Module.{Module}
use Rattle.load_fault.specs.declared.fault.LoadFault.{LoadFault}
use Rattle.model_loader.specs.Machine.{Machine}
use Rattle.model_loader.specs.Step.{step}
use Rattle.laws_closed_plans.specs.Loads.{IsPlaceFault, load_all, unless_refused}
use Rattle.laws_closed_plans.proofs.LoadLemmas.{load-append}
use Rattle.stages_files.specs.KernelModules.{modules_folder}
use Rattle.stages_loads.specs.declared.load.Insertion.{Insertion}
use Rattle.command_modprobe.specs.Loaded.{images_asked}
use Rattle.laws_planned_loads.specs.Loads.{IsEndOf, WentIn, all_in, modules_of, refused, unwritable}
use Rattle.laws_planned_loads.specs.Courses.{CoursesEnd, IsEndOfLoads, all_loaded, ended, no_place}
use Rattle.laws_planned_loads.specs.Courses.{unwritten, inputs_of}
use Rattle.laws_planned_loads.proofs.CourseLemmas.{courses-bind, plan-placed}
use Rattle.laws_planned_loads.proofs.LoadLemmas.{loads-are}
use Rattle.laws_planned_loads.proofs.RefusedLemmas.{load-stops}
use Rattle.laws_planned_loads.proofs.WholeLemmas.{courses-load}

-- where the next module is refused, so is the plan
pub plan-refused : (machine middle : Machine) (before after : List Module) (m : Module)
    (fault : LoadFault)
    → load_all machine before ≡ Ok middle → step middle m ≡ Err fault
    → load_all machine (before ++ m ∷ after) ≡ Err fault
plan-refused machine middle before after m fault loaded is =
    load-append machine before (m ∷ after)
    ∙ ap (unless_refused (λ next. load_all next (m ∷ after))) loaded
    ∙ load-stops middle m after fault is

pub fault-placed : (r : Result Machine LoadFault) (fault : LoadFault) → r ≡ Err fault
    → IfErr r IsPlaceFault → IsPlaceFault fault
fault-placed r fault is placed = subst (λ x. IfErr x IsPlaceFault) is placed

ended-so : {folder : List ℕ} {params : Bool} {middle : Machine} {went : List WentIn}
    {later : List Insertion} {left : List Module} {acts : List Act} {o : Outcome Machine}
    (machine : Machine) (plan : List Module)
    → plan ≡ modules_of went ++ left → load_all machine (modules_of went) ≡ Ok middle
    → IfErr (load_all machine plan) IsPlaceFault
    → IsEndOf folder params middle went later left acts o → IsEndOfLoads params (ended o)
ended-so machine plan are loaded placed (all_in went all) = all_loaded
ended-so {middle = middle} machine plan are loaded placed
    (refused went all one inserts m ms fault is)
    =
    no_place m.facts.name fault
    (fault-placed _ fault
    (ap (load_all machine) are
    ∙ plan-refused machine middle (modules_of went) ms m fault loaded is) placed)
ended-so machine plan are loaded placed (unwritable went all last asks inserts ms fault is) =
    unwritten last fault asks is

pub courses-end : CoursesEnd
courses-end held asked l as_indexed has came =
    let folder = modules_folder asked.dirname asked.version in
    let course = courses-load held asked l has came in
    let b = courses-bind held (inputs_of asked) l as_indexed came in
    let loads = loads-are folder (images_asked asked) l.inserts b.plan l.listed held b.plan_files in
    subst (IsEndOfLoads asked.params) (sym course.outcome)
    (ended-so l.listed b.plan loads.modules_are loads.loaded
    (plan-placed l.kernel l.region b.listed b.plan l.listed b.binds b.listed_load)
    loads.ends)
