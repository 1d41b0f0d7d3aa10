-- The stages of a load, and what the machine after it has.
use Rattle.std.proofs.Common.{◌≡◌, ℕ, ◌-◌, List, [], ◌∷◌, ◌++◌, length, refl, sym, ap, subst, ◌∙◌}
use Rattle.std.proofs.Common.{arith, length-append, inl, inr}
use Rattle.std.specs.Prelude.{Option, Some, None, Result, Ok, Err, ◌⊎◌, slice_get, option_map, ⊤}
use Rattle.std.specs.Option.{option_map_or}
use Rattle.module_facts.specs.declared.module.Module.{Module}
use Rattle.model_loader.specs.declared.entry.Entry.{Entry}
use Rattle.model_loader.specs.declared.entry.LoadedModule.{LoadedModule}
use Rattle.load_fault.specs.declared.fault.LoadFault.{LoadFault}
use Rattle.load_fault.specs.declared.fault.LoadFault.TheVariants.{Memory}
use Rattle.load_fault.specs.FaultText.{load_fault_text}
use Rattle.model_loader.specs.Machine.{Machine}
use Rattle.image_layout.specs.Offsets.{image_size}
use Rattle.model_loader.specs.Step.{entry_at, module_base, refusal, step, symbol_addresses}
use Rattle.model_loader.specs.Step.{with_entry}
use Rattle.model_loader.proofs.KeptLemmas.{length-laid}
use Rattle.param_apply.specs.declared.apply.Params.{Params}
use Rattle.param_apply.specs.declared.fault.ParamFault.{ParamFault}
use Rattle.param_apply.specs.declared.fault.ParamFault.TheVariants.{Memory as NoMemory}
use Rattle.param_apply.specs.Applied.{count_of, finished, param_fault}
use Rattle.param_apply.specs.FaultText.{param_fault_text}
use Rattle.km_course.specs.Course.{Stage, ◌>>=◌, gives, says, when◌then◌else◌}
use Rattle.km_course.specs.Course.Outcome.{value, end}
use Rattle.km_course.specs.declared.end.End.TheVariants.{Refused}
use Rattle.km_course.specs.Follows.{Answers}
use Rattle.km_course.specs.declared.refusal.Refusal.{Refusal}
use Rattle.km_course.specs.declared.refusal.Refusal.TheVariants.{ParamsRefused}
use Rattle.km_course.specs.declared.stop.Stop.{Stop}
use Rattle.km_course.specs.declared.stop.Stop.TheVariants.{Memory as NoRoom}
use Rattle.stages_loads.specs.declared.load.Cause.{Cause}
use Rattle.stages_loads.specs.declared.load.Cause.TheVariants.{Planned}
use Rattle.stages_loads.specs.declared.load.Insertion.{Insertion}
use Rattle.stages_loads.specs.declared.shown.Images.{Images}
use Rattle.stages_loads.specs.Loads.{IsNewest, ShownImage, entered, finished_params, load_outcome}
use Rattle.stages_loads.specs.Loads.{load_refusal, loads, loads_all, params_image, params_outcome}
use Rattle.km_course.specs.Course.{value_unless}
use Rattle.stages_loads.specs.Loads.{shows_image, shows_load, shows_params}

-- the stage after a load was shown
abbrev pub one_shown : Machine → ⊤ → Stage Machine
one_shown after _ = gives after

-- the stage after a module was loaded
abbrev pub one_loaded : Images → List ℕ → Machine → Module → Machine → Stage Machine
one_loaded images options machine m after =
    shows_load images m options (entered machine m) >>= one_shown after

-- the stage after a module was read
abbrev pub one_read : Images → List ℕ → Machine → Module → Stage Machine
one_read images options machine m = loads Planned machine m >>= one_loaded images options machine m

-- the stage of the other modules
abbrev pub loads_others : List ℕ → Images → List Insertion → Machine → Stage Machine
loads_others folder images inserts machine = loads_all folder images machine inserts

-- the stage after an image was put
abbrev pub line_said : List ℕ → ⊤ → Stage ⊤
line_said line _ = says line

-- the stage after the image of a load was shown
abbrev pub params_shown : Images → Module → List ℕ → Entry → ⊤ → Stage ⊤
params_shown images m options e _ =
    when images.params then shows_params images.folder m options e.loaded e.image else gives tt

-- the stage after the parameters were written
abbrev pub finished_shown : Option (List ℕ) → List ℕ → Params → Stage ⊤
finished_shown folder name p = shows_image folder (params_image name p)

pub loaded_ok : (cause : Cause) (name : List ℕ) (r : Result Machine LoadFault) (after : Machine)
    → r ≡ Ok after → load_outcome cause name r ≡ value after
unfolding load_outcome
loaded_ok cause name r after is = ap (load_outcome cause name) is

-- a fault is out of memory or that of the step
pub stopped : (cause : Cause) (name : List ℕ) (r : Result Machine LoadFault) (fault : LoadFault)
    (stop : Stop)
    → (fault ≡ Memory) ⊎ (r ≡ Err fault) → (fault ≡ Memory → stop ≡ NoRoom)
    → Answers (λ (x : Machine). x) (load_outcome cause name (Err fault)) (Err stop)
    → Answers (λ (x : Machine). x) (load_outcome cause name r) (Err stop)
stopped cause name r fault stop (inl ran_out) wanting is =
    subst (λ s. Answers (λ (x : Machine). x) (load_outcome cause name r) (Err s))
    (sym (wanting ran_out)) tt
stopped cause name r fault stop (inr f) wanting is =
    subst (λ t. Answers (λ (x : Machine). x) (load_outcome cause name t) (Err stop)) (sym f) is

pub refused_as : (cause : Cause) (name : List ℕ) (fault : LoadFault) (refused : Refusal)
    → refused ≡ load_refusal cause name (load_fault_text fault)
    → load_outcome cause name (Err fault) ≡ end (Refused refused)
unfolding load_outcome
refused_as cause name fault refused is = ap (λ x. end (Refused x)) (sym is)

-- a load that gave a machine is a step to it
stepped : (cause : Cause) (name : List ℕ) (r : Result Machine LoadFault) (after : Machine)
    → load_outcome cause name r ≡ value after → r ≡ Ok after
unfolding load_outcome
stepped cause name (Ok other) after is = cc
stepped cause name (Err fault) after is = cc

-- a step to a machine entered the module
step-split : (o : Option LoadFault) (next after : Machine)
    → option_map_or Err o (Ok next) ≡ Ok after → next ≡ after
step-split None next after is = cc
step-split (Some fault) next after is = cc

step-enters : (machine after : Machine) (m : Module) → step machine m ≡ Ok after
    → with_entry machine (entered machine m) ≡ after
unfolding step
step-enters machine after m is =
    step-split (refusal machine m) (with_entry machine (entered machine m)) after is

-- the last of some items
get-last : {X : Type 0} (xs : List X) (x : X) → slice_get (xs ++ x ∷ []) (length xs) ≡ Some x
get-last [] x = refl
get-last (y ∷ xs) x = get-last xs x

-- the entry of a load is the newest
entered-newest : (machine : Machine) (e : Entry) → IsNewest (with_entry machine e) e
entered-newest machine e =
    let long : length (machine.entries ++ e ∷ []) - 1 ≡ length machine.entries
    = omega (arith, length-append machine.entries (e ∷ [])) in
    record {
      some = omega (arith, length-append machine.entries (e ∷ []));
      last = ap (slice_get (machine.entries ++ e ∷ [])) long ∙ get-last machine.entries e;
    }

pub newest : (cause : Cause) (name : List ℕ) (machine after : Machine) (m : Module)
    → load_outcome cause name (step machine m) ≡ value after → IsNewest after (entered machine m)
newest cause name machine after m is =
    subst (λ x. IsNewest x (entered machine m))
    (step-enters machine after m (stepped cause name (step machine m) after is))
    (entered-newest machine (entered machine m))

-- the image of a load is as long as the layout of the module
pub entered-long : (machine : Machine) (m : Module)
    → length (entered machine m).image ≡ image_size m.object.sections
unfolding entry_at
entered-long machine m =
    length-laid m.object (module_base machine m)
    (symbol_addresses machine m (module_base machine m))

-- images that are shown
abbrev shown_as : List ℕ → List ℕ → List ℕ → ShownImage
shown_as name image line = record { name = name; image = image; line = line }

pub same-shown : {a b image same line one : List ℕ} → a ≡ b → image ≡ same → line ≡ one
    → ◌≡◌ {A = ShownImage} (record { name = a; image = image; line = line })
    (record { name = b; image = same; line = one })
same-shown {b = b} {image = image} {same = same} {line = line} name bytes text =
    ap (λ n. shown_as n image line) name ∙ ap (λ i. shown_as b i line) bytes
    ∙ ap (shown_as b same) text

-- parameters that were written
abbrev params_as : List ℕ → ℕ → Params
params_as image count = record { image = image; count = count }

same-params : (p q : Params) → p.image ≡ q.image → p.count ≡ q.count → p ≡ q
same-params p q image count = ap (λ i. params_as i p.count) image ∙ ap (params_as q.image) count

pub params_ok : (m : Module) (options : List ℕ) (loaded : LoadedModule) (image : List ℕ)
    (p : Params)
    → p.image ≡ finished m.object loaded.base image options
    → p.count ≡ count_of m.object loaded.base image options
    → param_fault m.object loaded.base image options ≡ None
    → params_outcome m options loaded image ≡ value p
unfolding params_outcome
params_ok m options loaded image p bytes count passed =
    ap (λ f. value_unless (λ fault. ParamsRefused loaded.name (param_fault_text fault)) f
    (finished_params m options loaded image)) passed
    ∙ ap value (sym (same-params p (finished_params m options loaded image) bytes count))

-- a fault that isn't out of memory is that of the options
pub params_not : (m : Module) (options : List ℕ) (loaded : LoadedModule) (image named text : List ℕ)
    (fault : ParamFault)
    → (fault ≡ NoMemory) ⊎ (param_fault m.object loaded.base image options ≡ Some fault)
    → (fault ≡ NoMemory → ⊥) → text ≡ param_fault_text fault → named ≡ loaded.name
    → params_outcome m options loaded image ≡ end (Refused (ParamsRefused named text))
unfolding params_outcome
params_not m options loaded image named text fault (inl ran_out) unlike is same =
    absurd (unlike ran_out)
params_not m options loaded image named text fault (inr f) wanting is same =
    ap (λ o. value_unless (λ fault. ParamsRefused loaded.name (param_fault_text fault)) o
    (finished_params m options loaded image)) f
    ∙ ap (λ t. end (Refused (ParamsRefused loaded.name t))) (sym is)
    ∙ ap (λ n. end (Refused (ParamsRefused n text))) (sym same)

-- what the newest entry of a machine has, by the calls of the machine
pub last-loaded : (machine : Machine) (e : Entry) (loaded : LoadedModule) (i : ℕ)
    → IsNewest machine e → i ≡ length machine.entries - 1
    → option_map (λ (x : Entry). x.loaded) (slice_get machine.entries i) ≡ Some loaded
    → loaded ≡ e.loaded
last-loaded machine e loaded i is at found =
    let same : option_map (λ (x : Entry). x.loaded)
    (slice_get machine.entries (length machine.entries - 1))
    ≡ Some e.loaded
    = ap (option_map (λ (x : Entry). x.loaded)) is.last in
    let here : option_map (λ (x : Entry). x.loaded)
    (slice_get machine.entries (length machine.entries - 1))
    ≡ Some loaded
    = ap (λ k. option_map (λ (x : Entry). x.loaded) (slice_get machine.entries k)) (sym at)
    ∙ found in
    cc

pub last-image : (machine : Machine) (e : Entry) (image : List ℕ) (i : ℕ) → IsNewest machine e
    → i ≡ length machine.entries - 1
    → option_map (λ (x : Entry). x.image) (slice_get machine.entries i) ≡ Some image
    → image ≡ e.image
last-image machine e image i is at found =
    let same : option_map (λ (x : Entry). x.image)
    (slice_get machine.entries (length machine.entries - 1))
    ≡ Some e.image
    = ap (option_map (λ (x : Entry). x.image)) is.last in
    let here : option_map (λ (x : Entry). x.image)
    (slice_get machine.entries (length machine.entries - 1))
    ≡ Some image
    = ap (λ k. option_map (λ (x : Entry). x.image) (slice_get machine.entries k)) (sym at)
    ∙ found in
    cc
