-- The headline: what modprobe loads binds, and it prints and writes the lines and images of these
-- loads. Its premises are that tree and kernel are as depmod indexed them, that no install command
-- is chosen, and that the listed modules load. modprobe(8), depmod(8).
use Rattle.std.specs.Prelude.{◌≡◌, ◌<◌, ◌≤◌, ℕ, Bool, true, All, List, [], ◌∷◌, ◌++◌, length, take}
use Rattle.std.specs.Prelude.{reverse, flat_map, codes, Option, Some, None, Ok, Err}
use Rattle.std.specs.FinMap.{insert}
use Rattle.km_names.specs.Path.{path_below}
use Rattle.outside_calls.specs.Contents.{Contents}
use Rattle.km_course.specs.Lines.{line, refusal_text}
use Rattle.km_course.specs.World.{World, Shown, Tells}
use Rattle.km_course.specs.declared.refusal.Refusal.TheVariants.{LoadRefused, ParamsRefused}
use Rattle.kmod_words.specs.declared.modprobe.Mode.TheVariants.{Load}
use Rattle.kmod_words.specs.declared.modprobe.ModprobeWords.{ModprobeWords}
use Rattle.kmod_words.specs.Modprobe.{modprobe_request}
use Rattle.module_facts.specs.declared.module.Module.{Module}
use Rattle.load_fault.specs.declared.fault.LoadFault.{LoadFault}
use Rattle.load_fault.specs.FaultText.{load_fault_text}
use Rattle.model_loader.specs.Machine.{Machine}
use Rattle.model_loader.specs.Sound.{IsSound}
use Rattle.model_loader.specs.Step.{step}
use Rattle.param_apply.specs.declared.fault.ParamFault.{ParamFault}
use Rattle.param_apply.specs.FaultText.{param_fault_text}
use Rattle.laws_closed_plans.specs.Binding.{IsLoaded}
use Rattle.laws_closed_plans.specs.Loads.{IsPlaceFault, load_all}
use Rattle.stages_files.specs.KernelModules.{modules_folder, path_listed}
use Rattle.stages_loads.specs.declared.load.Insertion.{Insertion}
use Rattle.stages_loads.specs.Loads.{ShownImage, paths_of}
use Rattle.command_modprobe.specs.Planned.{plan_lines}
use Rattle.laws_planned_loads.specs.Courses.{CameToLoads, HasMachine, IsIndexedFor, Loading}
use Rattle.laws_planned_loads.specs.Courses.{inputs_of}
use Rattle.laws_planned_loads.specs.Files.{AreFileModules}
use Rattle.laws_planned_loads.specs.Listed.{AreListedPaths}
use Rattle.laws_planned_loads.specs.Loads.{AreWritable, WentIn, all_images, entries_of, fault_of}
use Rattle.laws_planned_loads.specs.Loads.{inserts_of, modules_of}
use Rattle.kmod_cli.specs.CameTo.{CameTo}

-- ---- where it applies

-- The folder of the modules of the kernel that is asked for.
abbrev pub folder_asked : ModprobeWords → List ℕ
folder_asked asked = modules_folder asked.dirname asked.version

-- Tree and kernel are as indexed, no install command is chosen, and the listed modules load.
pub record IsIndexedLoad (held : Contents) (asked : ModprobeWords) (l : Loading) : Type 0 where
  -- a load is asked for
  pub mode : asked.mode ≡ Load
  -- the folder is as depmod indexed it, and the kernel's table is the same, with an address for
  -- each export
  pub stands : IsIndexedFor held (folder_asked asked) l.tree l.indexed l.builtin l.kernel
  pub machine : HasMachine held asked l.kernel l.region
  -- what is read is understood, the names have a plan, no step of it runs a command, and the listed
  -- modules load
  pub came : CameToLoads held (inputs_of asked) l

-- ---- how far the loads of a plan go, only by the machine and the options

-- Why no more modules go into a machine, if these went in and these are left of the plan; with the
-- status, and the line on err.
pub data IsEndOfPlan (params : Bool) (machine : Machine) : List WentIn → List Module → ℕ → List ℕ
    → Type 0 where
  -- all are loaded
  all_loaded : (went : List WentIn) → All (AreWritable params) went
      → IsEndOfPlan params machine went [] 0 []
  -- the next one finds no room in the region, or has a word that doesn't fit there
  no_place : (went : List WentIn) → All (AreWritable params) went
      → (m : Module) (ms : List Module) (fault : LoadFault) → step machine m ≡ Err fault
      → IsPlaceFault fault
      → IsEndOfPlan params machine went (m ∷ ms) 1
      (line (refusal_text (LoadRefused m.facts.name (load_fault_text fault))))
  -- only with `--params`: the options of the last one that went in can't be written
  unwritten : (went : List WentIn) → All (AreWritable params) went → (last : WentIn) → params ≡ true
      → (ms : List Module) (fault : ParamFault) → fault_of last ≡ Some fault
      → IsEndOfPlan params machine (went ++ last ∷ []) ms 1
      (line (refusal_text (ParamsRefused last.entry.loaded.name (param_fault_text fault))))

-- What loading a plan results in, whose steps load this, after listed modules were loaded and this
-- was the machine; with `--params` or without.
pub record ComesTo (params : Bool) (inserts : List Insertion) (start : Machine)
    (listed plan : List Module) : Type 0 where
  -- the first modules of the plan go in, one after the other, and the others are left
  pub went : List WentIn
  pub left : List Module
  pub modules : plan ≡ modules_of went ++ left
  -- each is what its step loads, with the options of the step
  pub later : List Insertion
  pub in_steps : inserts ≡ inserts_of went ++ later
  pub machine : Machine
  pub loads : load_all start (modules_of went) ≡ Ok machine
  -- all that is loaded is bound: each strong need to an agreeing export that comes before it. Words
  -- have the values of the ABI. The images are in the region, and no two share a byte
  pub sound : IsSound machine (listed ++ modules_of went)
  -- each that goes in has one entry more, with its image
  pub newer : machine.entries ≡ start.entries ++ entries_of went
  -- and why no more go in
  pub status : ℕ
  pub err_line : List ℕ
  pub ends : IsEndOfPlan params machine went left status err_line

-- ---- what is printed and written of them

-- What is shown of the loads: the image of each entry. With `--params` the finished image follows
-- it, in which the parameters have the values that the options state, if they can be written.
abbrev pub images_shown : ModprobeWords → List WentIn → List ShownImage
images_shown asked went = all_images asked.params went

-- The files with each of these images in the folder for images, if one is named. An entry's image
-- has the name of its module, and the finished one has `.params` after the name.
abbrev pub with_images : Option (List ℕ) → List ShownImage → Contents → Contents
with_images None ss files = files
with_images (Some images) [] files = files
with_images (Some images) (s ∷ ss) files =
    with_images (Some images) ss (insert files (path_below images (s.name ++ codes ".img")) s.image)

-- The lines of the plan, and then a line for each image, which has the digest of it.
abbrev pub printed : ModprobeWords → Loading → List ShownImage → List ℕ
printed asked l ss =
    plan_lines (folder_asked asked) l.steps ++ flat_map (λ (s : ShownImage). s.line) ss

-- What is known after these images were shown and this line was written on err, except for how many
-- calls on files were made.
abbrev pub told_after : ModprobeWords → Loading → List ShownImage → List ℕ → Shown → Shown
told_after asked l ss err_line shown = record {
  files = with_images asked.image ss shown.files;
  calls = shown.calls;
  out = shown.out ++ printed asked l ss;
  err = shown.err ++ err_line;
}

-- A first part of this was done: this many images were put and this many bytes were printed. An
-- image is put before any of its line is printed, and after all lines of the images before it.
pub record IsFirstPart (asked : ModprobeWords) (l : Loading) (ss : List ShownImage) (shown : Shown)
    (new : World) : Type 0 where
  pub images : ℕ
  pub bytes : ℕ
  pub files : new.files.contents ≡ Some (with_images asked.image (take images ss) shown.files)
  pub out : new.out.told ≡ Some (shown.out ++ take bytes (printed asked l ss))
  pub image_before : bytes ≤ length (printed asked l (take images ss))
  pub lines_before : (n : ℕ) → n < images → length (printed asked l (take n ss)) ≤ bytes

-- ---- the headline

-- What modprobe did over files and outputs with these known contents: it left new and answered this
-- status.
pub record LoadsBind (asked : ModprobeWords) (l : Loading) (shown : Shown) (old new : World)
    (status : ℕ) : Type 0 where
  -- the listed modules, oldest first, are loaded: each is all of a valid file, the one at the first
  -- path of its dependency line
  pub listed : List Module
  pub listed_paths : List (List ℕ)
  pub listed_lines : AreListedPaths (path_listed l.known.indexes.dep)
      (reverse l.known.loaded) listed_paths
  pub listed_files : AreFileModules shown.files (folder_asked asked) listed_paths listed
  pub listed_load : IsLoaded l.kernel l.region listed l.listed
  -- each module of the plan is all of a valid file, the one at the path of its step; and they bind,
  -- as far as they load
  pub plan : List Module
  pub plan_files : AreFileModules shown.files (folder_asked asked) (paths_of l.inserts) plan
  pub loads : ComesTo asked.params l.inserts l.listed listed plan
  -- the status is the one of these loads, and never 2. Their images are put, the lines of the plan
  -- and of the loads are printed, a refusal has its line on err, and all else is as it was. Or a
  -- first part of this was done, because a call on files or outputs failed, or memory ran out
  pub call : CameTo loads.status
      (told_after asked l (images_shown asked loads.went) loads.err_line shown)
      (IsFirstPart asked l (images_shown asked loads.went) shown) old new status

-- The headline, of modprobe with these words after its name, over files and outputs with known
-- contents.
abbrev pub Headline : List (List ℕ) → World → World → ℕ → Type 0
Headline words old new status =
    (shown : Shown) → Tells old shown →
    (asked : ModprobeWords) → modprobe_request words ≡ Some asked →
    (l : Loading) → IsIndexedLoad shown.files asked l → LoadsBind asked l shown old new status
