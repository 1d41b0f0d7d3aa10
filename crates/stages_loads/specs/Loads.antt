-- Loads into a machine, each with the lines that are printed of it. modprobe(8).
use Rattle.std.specs.Prelude.{◌≡◌, ℕ, ◌<◌, ◌-◌, List, [], ◌∷◌, length, map, slice_get, ◌++◌, codes}
use Rattle.std.specs.Prelude.{Option, Some, None, Result, Ok, Err, ⊤}
use Rattle.std.specs.Fmt.{decimal}
use Rattle.std.specs.Int.{w64, to_be_bytes}
use Rattle.hex.specs.Hex.{encode_lower}
use Rattle.sha2.specs.Sha256.{sha256}
use Rattle.km_names.specs.Path.{path_below}
use Rattle.module_facts.specs.declared.module.Module.{Module}
use Rattle.model_loader.specs.declared.entry.Entry.{Entry}
use Rattle.model_loader.specs.declared.entry.LoadedModule.{LoadedModule}
use Rattle.load_fault.specs.declared.fault.LoadFault.{LoadFault}
use Rattle.load_fault.specs.FaultText.{load_fault_text}
use Rattle.model_loader.specs.Machine.{Machine}
use Rattle.model_loader.specs.Step.{entry_at, module_base, step}
use Rattle.param_apply.specs.declared.apply.Params.{Params}
use Rattle.param_apply.specs.Applied.{count_of, finished, param_fault}
use Rattle.param_apply.specs.FaultText.{param_fault_text}
use Rattle.km_course.specs.Course.{Outcome, Stage, ◌>>=◌, given, gives, each_from, puts, says}
use Rattle.km_course.specs.Course.{when◌then◌else◌, value_unless}
use Rattle.km_course.specs.Course.Outcome.{value, end}
use Rattle.km_course.specs.declared.end.End.TheVariants.{Refused}
use Rattle.km_course.specs.declared.refusal.Refusal.{Refusal}
use Rattle.km_course.specs.declared.refusal.Refusal.TheVariants.{ListedRefused, LoadRefused}
use Rattle.km_course.specs.declared.refusal.Refusal.TheVariants.{ParamsRefused}
use Rattle.stages_loads.specs.declared.load.Cause.{Cause}
use Rattle.stages_loads.specs.declared.load.Cause.TheVariants.{Listed, Planned}
use Rattle.stages_loads.specs.declared.load.Insertion.{Insertion}
use Rattle.stages_loads.specs.declared.shown.Images.{Images}
use Rattle.stages_loads.specs.Modules.{reads_module}

-- the refusal of a load of the module of this name, with the text of its fault
abbrev pub load_refusal : Cause → List ℕ → List ℕ → Refusal
load_refusal Listed name text = ListedRefused name text
load_refusal Planned name text = LoadRefused name text

-- What a step with this result results in: the machine with the module, or the refusal of the load.
unfoldable pub load_outcome : Cause → List ℕ → Result Machine LoadFault → Outcome Machine
load_outcome cause name (Ok after) = value after
load_outcome cause name (Err fault) =
    end (Refused (load_refusal cause name (load_fault_text fault)))

-- The module goes into the machine.
abbrev pub loads : Cause → Machine → Module → Stage Machine
loads cause machine m = given (load_outcome cause m.facts.name (step machine m))

-- what a load enters for the module
abbrev pub entered : Machine → Module → Entry
entered machine m = entry_at machine m (module_base machine m)

-- The line of a module of the machine and of its image. It has a word, the name of the module, the
-- address of the image in 16 hexadecimal digits, its size in decimal, and its SHA-256 in
-- hexadecimal digits. FIPS 180-4.
unfoldable pub entry_line : List ℕ → LoadedModule → List ℕ → List ℕ
entry_line word loaded image =
    word ++ (codes " " ++ (loaded.name ++ (codes " " ++ (encode_lower (to_be_bytes w64 loaded.base)
    ++ (codes " "
    ++ (decimal loaded.size ++ (codes " " ++ (encode_lower (sha256 image) ++ 10 ∷ []))))))))

-- The line of a module that was loaded.
abbrev pub loaded_line : LoadedModule → List ℕ → List ℕ
loaded_line loaded image = entry_line (codes "loaded") loaded image

-- The line of a module whose parameters were written: its name, how many parameters the options
-- name, and the digest of the finished image.
unfoldable pub params_line : List ℕ → ℕ → List ℕ → List ℕ
params_line name count image =
    codes "params "
    ++ (name
    ++ (codes " "
    ++ (decimal count
    ++ (codes " " ++ (encode_lower (sha256 image) ++ 10 ∷ [])))))

-- An image that is shown: it is put into the folder for images, if there is one, under a name with
-- `.img` after it; and then a line is printed.
pub record ShownImage : Type 0 where
  pub name : List ℕ
  pub image : List ℕ
  pub line : List ℕ

-- The image of a module in the machine, under the name of the module.
abbrev pub machine_image : LoadedModule → List ℕ → ShownImage
machine_image loaded image =
    record { name = loaded.name; image = image; line = loaded_line loaded image }

-- The image with the parameters in it, under the name of the module and `.params`.
abbrev pub params_image : List ℕ → Params → ShownImage
params_image name p =
    record
    { name = name ++ codes ".params"; image = p.image; line = params_line name p.count p.image }

-- The image of a module, as it is in the machine, with the options written into a copy of it.
abbrev pub finished_params : Module → List ℕ → LoadedModule → List ℕ → Params
finished_params m options loaded image = record {
  image = finished m.object loaded.base image options;
  count = count_of m.object loaded.base image options;
}

-- What the options of a module result in: they are written into a copy of its image, or their first
-- fault is reported.
unfoldable pub params_outcome : Module → List ℕ → LoadedModule → List ℕ → Outcome Params
params_outcome m options loaded image =
    value_unless (λ fault. ParamsRefused loaded.name (param_fault_text fault))
    (param_fault m.object loaded.base image options)
    (finished_params m options loaded image)

-- An image is put into the folder for images, if there is one, under a name.
abbrev pub puts_image : Option (List ℕ) → List ℕ → List ℕ → Stage ⊤
puts_image None name image = gives tt
puts_image (Some folder) name image = puts (path_below folder (name ++ codes ".img")) image

-- An image is put, and then its line is printed.
abbrev pub shows_image : Option (List ℕ) → ShownImage → Stage ⊤
shows_image folder shown = do
  put ← puts_image folder shown.name shown.image
  says shown.line

-- The options of a module are written into a copy of its image, which is shown.
abbrev pub shows_params : Option (List ℕ) → Module → List ℕ → LoadedModule → List ℕ → Stage ⊤
shows_params folder m options loaded image = do
  p ← given (params_outcome m options loaded image)
  shows_image folder (params_image loaded.name p)

-- What happens to a load with these options: the image is shown; and so is the one with the
-- parameters in it, where those are asked for.
abbrev pub shows_load : Images → Module → List ℕ → Entry → Stage ⊤
shows_load images m options e = do
  shown ← shows_image images.folder (machine_image e.loaded e.image)
  when images.params then shows_params images.folder m options e.loaded e.image else gives tt

-- The module at a path of the tree in the folder is read, and goes into the machine; then its
-- images are shown. What it gives is the machine after it.
abbrev pub loads_one : List ℕ → Images → Machine → Insertion → Stage Machine
loads_one folder images machine one = do
  m ← reads_module folder one.path
  after ← loads Planned machine m
  shown ← shows_load images m one.options (entered machine m)
  gives after

-- The modules that are to be loaded, one after the other.
abbrev pub loads_all : List ℕ → Images → Machine → List Insertion → Stage Machine
loads_all folder images machine inserts = each_from (loads_one folder images) machine inserts

-- the paths at which they are
abbrev pub paths_of : List Insertion → List (List ℕ)
paths_of inserts = map (λ (one : Insertion). one.path) inserts

-- The entry that was made last.
pub record IsNewest (machine : Machine) (e : Entry) : Type 0 where
  pub some : 0 < length machine.entries
  pub last : slice_get machine.entries (length machine.entries - 1) ≡ Some e
