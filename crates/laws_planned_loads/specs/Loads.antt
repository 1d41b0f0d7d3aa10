-- What the course of some loads is, by the machines of these loads. modprobe(8).
use Rattle.std.specs.Prelude.{◌≡◌, ◌&&◌, ℕ, Bool, true, All, List, [], ◌∷◌, ◌++◌, map, flat_map}
use Rattle.std.specs.Prelude.{codes, Option, Some, None, Ok, Err, is_none, if◌then◌else◌}
use Rattle.km_names.specs.Path.{path_below}
use Rattle.outside_calls.specs.Contents.{Contents}
use Rattle.km_course.specs.Course.{Act, Outcome, Run}
use Rattle.km_course.specs.Course.Act.{read, say, put}
use Rattle.km_course.specs.Course.Outcome.{value, end}
use Rattle.km_course.specs.declared.end.End.TheVariants.{Refused}
use Rattle.km_course.specs.declared.refusal.Refusal.TheVariants.{LoadRefused, ParamsRefused}
use Rattle.module_facts.specs.declared.module.Module.{Module}
use Rattle.model_loader.specs.declared.entry.Entry.{Entry}
use Rattle.load_fault.specs.declared.fault.LoadFault.{LoadFault}
use Rattle.load_fault.specs.FaultText.{load_fault_text}
use Rattle.model_loader.specs.Machine.{Machine}
use Rattle.model_loader.specs.Step.{step}
use Rattle.param_apply.specs.declared.fault.ParamFault.{ParamFault}
use Rattle.param_apply.specs.Applied.{param_fault}
use Rattle.param_apply.specs.FaultText.{param_fault_text}
use Rattle.laws_closed_plans.specs.Loads.{load_all}
use Rattle.stages_loads.specs.declared.load.Insertion.{Insertion}
use Rattle.stages_loads.specs.declared.shown.Images.{Images}
use Rattle.stages_loads.specs.Loads.{ShownImage, finished_params, loads_all, machine_image}
use Rattle.stages_loads.specs.Loads.{params_image, paths_of}
use Rattle.laws_planned_loads.specs.Files.{AreFileModules}

-- A module that went into a machine: what was to be loaded, the module that it is, and its entry.
pub record WentIn : Type 0 where
  pub insert : Insertion
  pub m : Module
  pub entry : Entry

-- what was to be loaded, of each; the modules; and their entries
abbrev pub inserts_of : List WentIn → List Insertion
inserts_of ws = map (λ (w : WentIn). w.insert) ws

abbrev pub modules_of : List WentIn → List Module
modules_of ws = map (λ (w : WentIn). w.m) ws

abbrev pub entries_of : List WentIn → List Entry
entries_of ws = map (λ (w : WentIn). w.entry) ws

-- Why the options of a module can't be written into a copy of its image.
abbrev pub fault_of : WentIn → Option ParamFault
fault_of w = param_fault w.m.object w.entry.loaded.base w.entry.image w.insert.options

-- The options of a module can be written, or aren't to be.
abbrev pub AreWritable : Bool → WentIn → Type 0
AreWritable params w = params ≡ true → fault_of w ≡ None

-- The image with the options of a module in it.
abbrev pub finished_image : WentIn → ShownImage
finished_image w =
    params_image w.entry.loaded.name
    (finished_params w.m w.insert.options w.entry.loaded w.entry.image)

-- What is shown of a module that went in: its image in the machine; and, where options are written
-- and these can be, the finished one.
abbrev pub images_of : Bool → WentIn → List ShownImage
images_of params w =
    machine_image w.entry.loaded w.entry.image
    ∷ (if params && is_none (fault_of w) then finished_image w ∷ [] else [])

-- The same of some modules, in order.
abbrev pub all_images : Bool → List WentIn → List ShownImage
all_images params ws = flat_map (images_of params) ws

-- An image is put into the folder for images, if there is one, and its line is printed.
abbrev pub image_acts : Option (List ℕ) → ShownImage → List Act
image_acts None s = say s.line ∷ []
image_acts (Some folder) s =
    put (path_below folder (s.name ++ codes ".img")) s.image ∷ say s.line ∷ []

-- What is done for a module that went in: it is read from the tree in a folder, and then its images
-- are shown.
abbrev pub load_acts : List ℕ → Images → WentIn → List Act
load_acts folder images w =
    read (path_below folder w.insert.path)
    ∷ flat_map (image_acts images.folder) (images_of images.params w)

-- Why no more modules go into a machine, if these went in and these are left of what was to be
-- loaded. It has what is still done, and how the loads end.
pub data IsEndOf (folder : List ℕ) (params : Bool) (machine : Machine) : List WentIn
    → List Insertion → List Module → List Act → Outcome Machine → Type 0 where
  -- all are loaded
  all_in : (went : List WentIn) → All (AreWritable params) went
      → IsEndOf folder params machine went [] [] [] (value machine)
  -- the next one is read, and the machine refuses it: that is reported, and it is the last thing
  -- done
  refused : (went : List WentIn) → All (AreWritable params) went
      → (one : Insertion) (inserts : List Insertion) (m : Module) (ms : List Module)
      (fault : LoadFault)
      → step machine m ≡ Err fault
      → IsEndOf folder params machine went (one ∷ inserts) (m ∷ ms)
      (read (path_below folder one.path) ∷ [])
      (end (Refused (LoadRefused m.facts.name (load_fault_text fault))))
  -- the options of the last one can't be written, though they are to be: that is reported, and
  -- nothing more is done
  unwritable : (went : List WentIn) → All (AreWritable params) went → (last : WentIn)
      → params ≡ true → (inserts : List Insertion) (ms : List Module) (fault : ParamFault)
      → fault_of last ≡ Some fault
      → IsEndOf folder params machine (went ++ last ∷ []) inserts ms []
      (end (Refused (ParamsRefused last.entry.loaded.name (param_fault_text fault))))

-- Loads of modules are loads of a machine. The first ones go in, one after the other: each is read,
-- and its images are shown. And why no more go in.
pub record AreMachineLoads (folder : List ℕ) (images : Images) (machine : Machine)
    (inserts : List Insertion) (ms : List Module) (run : Run Machine) : Type 0 where
  pub went : List WentIn
  pub later : List Insertion
  pub left : List Module
  pub inserts_are : inserts ≡ inserts_of went ++ later
  pub modules_are : ms ≡ modules_of went ++ left
  -- the machine after those that went in, which has one entry more for each
  pub middle : Machine
  pub loaded : load_all machine (modules_of went) ≡ Ok middle
  pub newer : middle.entries ≡ machine.entries ++ entries_of went
  pub rest : List Act
  pub ends : IsEndOf folder images.params middle went later left rest run.outcome
  pub acts : run.acts ≡ flat_map (load_acts folder images) went ++ rest

-- Of some modules that are loaded one after the other, the first that is refused: the machine after
-- those before it refuses it for this fault.
pub record IsFirstRefused (machine : Machine) (ms : List Module) (fault : LoadFault) : Type 0 where
  pub before : List Module
  pub m : Module
  pub after : List Module
  pub modules : ms ≡ before ++ m ∷ after
  pub middle : Machine
  pub loaded : load_all machine before ≡ Ok middle
  pub refused : step middle m ≡ Err fault

-- Over files of valid modules the loads of a course are the machine's loads.
abbrev pub LoadsAreOfMachine : Type 0
LoadsAreOfMachine =
    (held : Contents) (folder : List ℕ) (images : Images) (machine : Machine)
    (inserts : List Insertion) (ms : List Module)
    → AreFileModules held folder (paths_of inserts) ms
    → AreMachineLoads folder images machine inserts ms
    ((loads_all folder images machine inserts).run held)
