-- The course of loads of modules, by the machines of these loads.
use Rattle.std.proofs.Common.{◌≡◌, ◌∙◌, ℕ, Bool, true, false, List, [], ◌∷◌, ◌++◌, None, refl, sym}
use Rattle.std.proofs.Common.{ap, subst, arith, append_assoc, append-nil}
use Rattle.std.specs.Prelude.{◌&&◌, flat_map, is_none, if◌then◌else◌, Option, Some, Result, Ok, Err}
use Rattle.std.specs.Prelude.{⊤}
use Rattle.std.specs.Option.{option_map_or}
use Rattle.std.proofs.lemmas.List.Elements.{All-cons}
use Rattle.km_names.specs.Path.{path_below}
use Rattle.outside_calls.specs.Contents.{Contents}
use Rattle.module_facts.specs.declared.module.Module.{Module}
use Rattle.load_fault.specs.declared.fault.LoadFault.{LoadFault}
use Rattle.load_fault.specs.FaultText.{load_fault_text}
use Rattle.model_loader.specs.Machine.{Machine}
use Rattle.model_loader.specs.Step.{entry_at, refusal, step, with_entry}
use Rattle.param_apply.specs.declared.fault.ParamFault.{ParamFault}
use Rattle.param_apply.specs.FaultText.{param_fault_text}
use Rattle.km_course.specs.Course.{Act, Outcome, Run, Stage, after, ◌>>=◌, act_with, continued}
use Rattle.km_course.specs.Course.{given, gives, when◌then◌else◌}
use Rattle.km_course.specs.Course.Act.{read}
use Rattle.km_course.specs.Course.Outcome.{value, end}
use Rattle.km_course.specs.declared.end.End.TheVariants.{Refused}
use Rattle.km_course.specs.declared.refusal.Refusal.TheVariants.{LoadRefused, ParamsRefused}
use Rattle.stages_loads.specs.declared.load.Cause.TheVariants.{Planned}
use Rattle.stages_loads.specs.declared.load.Insertion.{Insertion}
use Rattle.stages_loads.specs.declared.shown.Images.{Images}
use Rattle.stages_loads.specs.Loads.{ShownImage, entered, finished_params, load_outcome, loads}
use Rattle.stages_loads.specs.Loads.{loads_all, loads_one, machine_image, params_outcome}
use Rattle.km_course.specs.Course.{value_unless}
use Rattle.stages_loads.specs.Loads.{paths_of, shows_image, shows_load, shows_params}
use Rattle.stages_loads.specs.Modules.{reads_module}
use Rattle.stages_loads.proofs.LoadSteps.{finished_shown, loaded_ok, loads_others, one_loaded}
use Rattle.stages_loads.proofs.LoadSteps.{one_read, one_shown, params_shown}
use Rattle.laws_planned_loads.specs.Files.{AreFileModules, IsFileModule}
use Rattle.laws_planned_loads.specs.Loads.{AreMachineLoads, AreWritable, IsEndOf, LoadsAreOfMachine}
use Rattle.laws_planned_loads.specs.Loads.{WentIn, all_in, entries_of, fault_of, finished_image}
use Rattle.laws_planned_loads.specs.Loads.{image_acts, images_of, load_acts, modules_of, refused}
use Rattle.laws_planned_loads.specs.Loads.{unwritable}
use Rattle.laws_planned_loads.proofs.FileLemmas.{reads-module, still-files}
use Rattle.laws_planned_loads.proofs.RefusedLemmas.{load-on}
use Rattle.laws_planned_loads.proofs.RunLemmas.{joined, run-ends, run-given, run-then, run_of}

-- ---- one load

-- a step to a machine entered the module
entered-at : (o : Option LoadFault) (next after : Machine)
    → option_map_or Err o (Ok next) ≡ Ok after → next ≡ after
entered-at None next after is = cc
entered-at (Some fault) next after is = cc

step-entries : (machine next : Machine) (m : Module) → step machine m ≡ Ok next
    → next.entries ≡ machine.entries ++ entered machine m ∷ []
unfolding step
step-entries machine next m is =
    ap (λ (x : Machine). x.entries)
    (sym (entered-at (refusal machine m) (with_entry machine (entered machine m)) next is))

loaded-not : (name : List ℕ) (fault : LoadFault) (r : Result Machine LoadFault) → r ≡ Err fault
    → load_outcome Planned name r ≡ end (Refused (LoadRefused name (load_fault_text fault)))
unfolding load_outcome
loaded-not name fault r is = ap (load_outcome Planned name) is

-- what goes into a machine for a module
abbrev going : Machine → Insertion → Module → WentIn
going machine one m = record { insert = one; m = m; entry = entered machine m }

-- an image that is shown
image-run : (folder : Option (List ℕ)) (s : ShownImage) (files : Contents)
    → (shows_image folder s).run files ≡ run_of (image_acts folder s) (value tt)
unfolding ◌>>=◌ continued given act_with
image-run None s files = refl
image-run (Some images) s files = refl

-- what follows the image of a load that is in the machine
abbrev params_of : Images → WentIn → Stage ⊤
params_of images w = params_shown images w.m w.insert.options w.entry tt

-- what is shown then
abbrev finished_acts : Images → WentIn → List Act
finished_acts images w =
    flat_map (image_acts images.folder)
    (if images.params && is_none (fault_of w) then finished_image w ∷ [] else [])

-- the options can be written, or aren't to be, or there is a fault
data Written (images : Images) (w : WentIn) : Type 0 where
  is_writable : AreWritable images.params w → Written images w
  is_unwritable : images.params ≡ true → (fault : ParamFault) → fault_of w ≡ Some fault
      → Written images w

whether : (images : Images) (w : WentIn) → Written images w
whether images w = by_params images.params refl (fault_of w) refl
  where
    by_params : (params : Bool) → images.params ≡ params → (o : Option ParamFault) → fault_of w ≡ o
        → Written images w
    by_params false not o is
        = is_writable (λ asks. absurd (let both : false ≡ true = sym not ∙ asks in cc))
    by_params true asks None is = is_writable (λ same. is)
    by_params true asks (Some fault) is = is_unwritable asks fault is

outcome-of : (w : WentIn) (o : Option ParamFault) → fault_of w ≡ o
    → params_outcome w.m w.insert.options w.entry.loaded w.entry.image
    ≡ value_unless (λ fault. ParamsRefused w.entry.loaded.name (param_fault_text fault)) o
    (finished_params w.m w.insert.options w.entry.loaded w.entry.image)
unfolding params_outcome
outcome-of w o is =
    ap (λ f. value_unless (λ fault. ParamsRefused w.entry.loaded.name (param_fault_text fault)) f
    (finished_params w.m w.insert.options w.entry.loaded w.entry.image)) is

params-run : (images : Images) (w : WentIn) (files : Contents) → AreWritable images.params w
    → (params_of images w).run files ≡ run_of (finished_acts images w) (value tt)
params-run images w files can = by_params images.params can
  where
    by_params : (params : Bool) → AreWritable params w
        → (when params
        then shows_params images.folder w.m w.insert.options w.entry.loaded
        w.entry.image
        else gives tt).run files
        ≡ run_of (flat_map (image_acts images.folder)
        (if params && is_none (fault_of w) then finished_image w ∷ [] else [])) (value tt)
    by_params false can = run-given (value tt) files
    by_params true can =
        let p = finished_params w.m w.insert.options w.entry.loaded w.entry.image in
        let shown = finished_image w in
        let acts = image_acts images.folder shown in
        run-then (given (params_outcome w.m w.insert.options w.entry.loaded w.entry.image))
        (finished_shown images.folder w.entry.loaded.name) files [] p
        (run-given _ files ∙ ap (run_of []) (outcome-of w None (can refl)))
        ∙ image-run images.folder shown files
        ∙ ap (λ done. run_of done (value tt)) (sym (append-nil acts))
        ∙ ap (λ o. run_of
        (flat_map (image_acts images.folder) (if is_none o then shown ∷ [] else [])) (value tt))
        (sym (can refl))

params-stop : (images : Images) (w : WentIn) (files : Contents) (fault : ParamFault)
    → images.params ≡ true → fault_of w ≡ Some fault
    → (params_of images w).run files
    ≡ run_of (finished_acts images w)
    (end (Refused (ParamsRefused w.entry.loaded.name (param_fault_text fault))))
params-stop images w files fault asks is =
    let told = Refused (ParamsRefused w.entry.loaded.name (param_fault_text fault)) in
    ap (λ b. (when b
    then shows_params images.folder w.m w.insert.options w.entry.loaded w.entry.image
    else gives tt).run files) asks
    ∙ run-ends (given (params_outcome w.m w.insert.options w.entry.loaded w.entry.image))
    (finished_shown images.folder w.entry.loaded.name) files [] told
    (run-given _ files ∙ ap (run_of []) (outcome-of w (Some fault) is))
    ∙ ap (λ o. run_of
    (flat_map (image_acts images.folder) (if is_none o then finished_image w ∷ [] else []))
    (end told)) (sym is)
    ∙ ap (λ b. run_of
    (flat_map (image_acts images.folder)
    (if b && is_none (fault_of w) then finished_image w ∷ [] else [])) (end told))
    (sym asks)

-- a load that isn't refused, by what follows its image
one-shows : (files : Contents) (folder : List ℕ) (images : Images) (machine next : Machine)
    (one : Insertion) (m : Module)
    → IsFileModule files folder one.path m → step machine m ≡ Ok next → {o : Outcome ⊤}
    → ((fs : Contents)
    → (params_of images (going machine one m)).run fs
    ≡ run_of (finished_acts images (going machine one m)) o)
    → (shows : Run Machine)
    → ((acts : List Act)
    → (shows_load images m one.options (entered machine m)).run
    (after (read (path_below folder one.path) ∷ []) files)
    ≡ run_of acts o
    → (one_loaded images one.options machine m next).run
    (after (read (path_below folder one.path) ∷ []) files)
    ≡ joined acts shows)
    → (loads_one folder images machine one).run files
    ≡ joined (load_acts folder images (going machine one m)) shows
one-shows files folder images machine next one m is took {o} params shows last =
    let file = path_below folder one.path in
    let e = entered machine m in
    let w = going machine one m in
    let image = machine_image e.loaded e.image in
    let acts = image_acts images.folder image in
    let shown : (shows_load images m one.options e).run files
    ≡ run_of (acts ++ finished_acts images w) o
    =
    run-then (shows_image images.folder image) (params_shown images m one.options e) files acts tt
    (image-run images.folder image files)
    ∙ ap (joined acts) (params (after acts files)) in
    let loading : (loads Planned machine m).run files ≡ run_of [] (value next) =
    run-given (load_outcome Planned m.facts.name (step machine m)) files
    ∙ ap (run_of []) (loaded_ok Planned m.facts.name (step machine m) next took) in
    let rest : (one_read images one.options machine m).run files
    ≡ joined (acts ++ finished_acts images w) shows
    =
    run-then (loads Planned machine m) (one_loaded images one.options machine m) files [] next
    loading
    ∙ last (acts ++ finished_acts images w) shown in
    run-then (reads_module folder one.path) (one_read images one.options machine) files
    (read file ∷ []) m (reads-module files folder one.path m is)
    ∙ ap (joined (read file ∷ [])) rest

one-goes-in : (files : Contents) (folder : List ℕ) (images : Images) (machine next : Machine)
    (one : Insertion) (m : Module)
    → IsFileModule files folder one.path m → step machine m ≡ Ok next
    → AreWritable images.params (going machine one m)
    → (loads_one folder images machine one).run files
    ≡ run_of (load_acts folder images (going machine one m)) (value next)
one-goes-in files folder images machine next one m is took can =
    one-shows files folder images machine next one m is took
    (λ fs. params-run images (going machine one m) fs can) (run_of [] (value next)) (λ acts
    shown.
    run-then (shows_load images m one.options (entered machine m)) (one_shown next) files acts tt
    shown
    ∙ ap (joined acts) (run-given (value next) (after acts files)))
    ∙ ap (λ done. run_of done (value next))
    (append-nil (load_acts folder images (going machine one m)))

-- a load whose options can't be written
one-is-unwritten : (files : Contents) (folder : List ℕ) (images : Images) (machine next : Machine)
    (one : Insertion) (m : Module) (fault : ParamFault)
    → IsFileModule files folder one.path m → step machine m ≡ Ok next → images.params ≡ true
    → fault_of (going machine one m) ≡ Some fault
    → (loads_one folder images machine one).run files
    ≡ run_of (load_acts folder images (going machine one m))
    (end (Refused (ParamsRefused m.facts.name (param_fault_text fault))))
unfolding entry_at
one-is-unwritten files folder images machine next one m fault is took asks bad =
    let told = Refused (ParamsRefused m.facts.name (param_fault_text fault)) in
    one-shows files folder images machine next one m is took
    (λ fs. params-stop images (going machine one m) fs fault asks bad) (run_of [] (end told)) (λ
    acts shown.
    run-ends (shows_load images m one.options (entered machine m)) (one_shown next) files acts told
    shown
    ∙ ap (λ done. run_of done (end told)) (sym (append-nil acts)))
    ∙ ap (λ done. run_of done (end told))
    (append-nil (load_acts folder images (going machine one m)))

-- a load that is refused
one-is-refused : (files : Contents) (folder : List ℕ) (images : Images) (machine : Machine)
    (one : Insertion) (m : Module) (fault : LoadFault)
    → IsFileModule files folder one.path m → step machine m ≡ Err fault
    → (loads_one folder images machine one).run files
    ≡ run_of (read (path_below folder one.path) ∷ [])
    (end (Refused (LoadRefused m.facts.name (load_fault_text fault))))
one-is-refused files folder images machine one m fault is bad =
    let file = path_below folder one.path in
    let told = Refused (LoadRefused m.facts.name (load_fault_text fault)) in
    let loading : (loads Planned machine m).run files ≡ run_of [] (end told) =
    run-given (load_outcome Planned m.facts.name (step machine m)) files
    ∙ ap (run_of []) (loaded-not m.facts.name fault (step machine m) bad) in
    run-then (reads_module folder one.path) (one_read images one.options machine) files
    (read file ∷ []) m (reads-module files folder one.path m is)
    ∙ ap (joined (read file ∷ []))
    (run-ends (loads Planned machine m) (one_loaded images one.options machine m) files [] told
    loading)

-- ---- loads, one after the other

none-left : (files : Contents) (folder : List ℕ) (images : Images) (machine : Machine)
    → AreMachineLoads folder images machine [] [] ((loads_all folder images machine []).run files)
unfolding given
none-left files folder images machine = record {
  went = [];
  later = [];
  left = [];
  inserts_are = refl;
  modules_are = refl;
  middle = machine;
  loaded = refl;
  newer = sym (append-nil machine.entries);
  rest = [];
  ends = all_in [] (λ k d within. absurd (omega (arith, within)));
  acts = refl;
}

-- the end is the same, where one more went in before
end-later : {folder : List ℕ} {params : Bool} {machine : Machine} {went : List WentIn}
    {inserts : List Insertion} {ms : List Module} {acts : List Act} {o : Outcome Machine}
    (w : WentIn)
    → AreWritable params w → IsEndOf folder params machine went inserts ms acts o
    → IsEndOf folder params machine (w ∷ went) inserts ms acts o
end-later {params = params} w can (all_in went all) =
    all_in (w ∷ went) (All-cons (AreWritable params) w went can all)
end-later {params = params} w can (refused went all one inserts m ms fault is) =
    refused (w ∷ went) (All-cons (AreWritable params) w went can all) one inserts m ms fault is
end-later {params = params} w can (unwritable went all last asks inserts ms fault is) =
    unwritable (w ∷ went) (All-cons (AreWritable params) w went can all) last asks inserts ms fault
    is

-- after the first module the others are loaded
loads-more : (folder : List ℕ) (images : Images) (machine next : Machine) (one : Insertion)
    (inserts : List Insertion) (m : Module) (ms : List Module) (run : Run Machine)
    → step machine m ≡ Ok next → AreWritable images.params (going machine one m)
    → AreMachineLoads folder images next inserts ms run
    → AreMachineLoads folder images machine (one ∷ inserts) (m ∷ ms)
    (joined (load_acts folder images (going machine one m)) run)
loads-more folder images machine next one inserts m ms run took can are =
    let w = going machine one m in
    let first = load_acts folder images w in
    record {
      went = w ∷ are.went;
      later = are.later;
      left = are.left;
      inserts_are = ap (λ xs. one ∷ xs) are.inserts_are;
      modules_are = ap (λ xs. m ∷ xs) are.modules_are;
      middle = are.middle;
      loaded = load-on machine next m (modules_of are.went) took ∙ are.loaded;
      newer =
          are.newer ∙ ap (λ xs. xs ++ entries_of are.went) (step-entries machine next m took)
          ∙ append_assoc machine.entries (entered machine m ∷ []) (entries_of are.went);
      rest = are.rest;
      ends = end-later w can are.ends;
      acts =
          ap (λ done. first ++ done) are.acts
          ∙ sym (append_assoc first (flat_map (load_acts folder images) are.went) are.rest);
    }

-- the options of the first module can't be written
loads-one : (folder : List ℕ) (images : Images) (machine next : Machine) (one : Insertion)
    (inserts : List Insertion) (m : Module) (ms : List Module) (fault : ParamFault)
    → step machine m ≡ Ok next → images.params ≡ true → fault_of (going machine one m) ≡ Some fault
    → AreMachineLoads folder images machine (one ∷ inserts) (m ∷ ms)
    (run_of (load_acts folder images (going machine one m))
    (end (Refused (ParamsRefused m.facts.name (param_fault_text fault)))))
unfolding entry_at
loads-one folder images machine next one inserts m ms fault took asks bad =
    let w = going machine one m in
    let first = load_acts folder images w in
    record {
      went = w ∷ [];
      later = inserts;
      left = ms;
      inserts_are = refl;
      modules_are = refl;
      middle = next;
      loaded = load-on machine next m [] took;
      newer = step-entries machine next m took;
      rest = [];
      ends
          = unwritable [] (λ k d within. absurd (omega (arith, within))) w asks inserts ms fault
          bad;
      acts = sym (append-nil first) ∙ sym (append-nil (first ++ []));
    }

-- the first module is refused
loads-none : (folder : List ℕ) (images : Images) (machine : Machine) (one : Insertion)
    (inserts : List Insertion) (m : Module) (ms : List Module) (fault : LoadFault)
    → step machine m ≡ Err fault
    → AreMachineLoads folder images machine (one ∷ inserts) (m ∷ ms)
    (run_of (read (path_below folder one.path) ∷ [])
    (end (Refused (LoadRefused m.facts.name (load_fault_text fault)))))
loads-none folder images machine one inserts m ms fault is = record {
  went = [];
  later = one ∷ inserts;
  left = m ∷ ms;
  inserts_are = refl;
  modules_are = refl;
  middle = machine;
  loaded = refl;
  newer = sym (append-nil machine.entries);
  rest = read (path_below folder one.path) ∷ [];
  ends = refused [] (λ k d within. absurd (omega (arith, within))) one inserts m ms fault is;
  acts = refl;
}

pub loads-are : (folder : List ℕ) (images : Images) (inserts : List Insertion) (ms : List Module)
    (machine : Machine) (files : Contents)
    → AreFileModules files folder (paths_of inserts) ms
    → AreMachineLoads folder images machine inserts ms
    ((loads_all folder images machine inserts).run files)
loads-are folder images [] [] machine files are = none-left files folder images machine
loads-are folder images [] (m ∷ ms) machine files are = absurd are
loads-are folder images (one ∷ inserts) [] machine files are = absurd are
loads-are folder images (one ∷ inserts) (m ∷ ms) machine files are =
    by_step (step machine m) refl (whether images (going machine one m))
    (λ next fs rest. loads-are folder images inserts ms next fs rest)
  where
    by_step : (r : Result Machine LoadFault) → step machine m ≡ r
        → Written images (going machine one m)
        → ((next : Machine) (fs : Contents) → AreFileModules fs folder (paths_of inserts) ms
        → AreMachineLoads folder images next inserts ms
        ((loads_all folder images next inserts).run fs))
        → AreMachineLoads folder images machine (one ∷ inserts) (m ∷ ms)
        ((loads_all folder images machine (one ∷ inserts)).run files)
    by_step (Ok next) took (is_writable may) others =
        let w = going machine one m in
        let acts = load_acts folder images w in
        let run : (loads_all folder images machine (one ∷ inserts)).run files
        ≡ joined acts ((loads_all folder images next inserts).run (after acts files))
        =
        run-then (loads_one folder images machine one) (loads_others folder images inserts) files
        acts next (one-goes-in files folder images machine next one m are.0 took may) in
        subst (AreMachineLoads folder images machine (one ∷ inserts) (m ∷ ms)) (sym run)
        (loads-more folder images machine next one inserts m ms _ took may
        (others next (after acts files)
        (still-files files folder (paths_of inserts) ms images.folder
        (images_of images.params w) are.1)))
    by_step (Ok next) took (is_unwritable asks fault bad) others =
        subst (AreMachineLoads folder images machine (one ∷ inserts) (m ∷ ms))
        (sym (run-ends (loads_one folder images machine one) (loads_others folder images inserts)
        files _ _
        (one-is-unwritten files folder images machine next one m fault are.0 took asks
        bad)))
        (loads-one folder images machine next one inserts m ms fault took asks bad)
    by_step (Err fault) is w others =
        subst (AreMachineLoads folder images machine (one ∷ inserts) (m ∷ ms))
        (sym (run-ends (loads_one folder images machine one) (loads_others folder images inserts)
        files _ _ (one-is-refused files folder images machine one m fault are.0 is)))
        (loads-none folder images machine one inserts m ms fault is)

pub loads-are-of-machine : LoadsAreOfMachine
loads-are-of-machine held folder images machine inserts ms are =
    loads-are folder images inserts ms machine held are
