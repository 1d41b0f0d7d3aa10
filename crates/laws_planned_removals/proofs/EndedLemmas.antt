-- Loads whose course ends well came to their last machine.
use Rattle.std.proofs.Common.{◌≡◌, ◌∙◌, ◌-◌, ℕ, Bool, true, false, List, [], ◌∷◌, ◌++◌, refl, sym}
use Rattle.std.proofs.Common.{ap, subst, arith, append_assoc}
use Rattle.std.specs.Prelude.{codes, Option, Some, None, Ok}
use Rattle.std.specs.FinMap.{get, insert}
use Rattle.std.specs.List.{AllByRecursion, list_all}
use Rattle.std.proofs.lemmas.List.{reverse-append}
use Rattle.km_names.specs.Path.{path_below, without_end_slashes}
use Rattle.outside_calls.specs.Contents.{Contents}
use Rattle.kmod_words.specs.declared.modprobe.ModprobeWords.{ModprobeWords}
use Rattle.km_course.specs.Course.{Act, Outcome, Stage, after, continued, ◌>>=◌, act_with, given}
use Rattle.km_course.specs.Course.{gives, when◌then◌else◌}
use Rattle.km_course.specs.Course.Act.{list, put, read, say, warn}
use Rattle.km_course.specs.Course.Outcome.{end, value}
use Rattle.module_facts.specs.declared.module.Module.{Module}
use Rattle.mod_tree.specs.Tree.{is_module_path}
use Rattle.model_loader.specs.declared.entry.Entry.{Entry}
use Rattle.model_loader.specs.Machine.{Machine}
use Rattle.model_loader.specs.Step.{step}
use Rattle.stages_files.specs.KernelModules.{modules_folder}
use Rattle.stages_loads.specs.declared.load.Cause.TheVariants.{Planned}
use Rattle.stages_loads.specs.declared.load.Insertion.{Insertion}
use Rattle.stages_loads.specs.declared.shown.Images.{Images}
use Rattle.stages_loads.specs.Loads.{ShownImage, entered, load_outcome, loads, loads_all, loads_one}
use Rattle.stages_loads.specs.Loads.{machine_image, params_image, params_outcome, paths_of}
use Rattle.stages_loads.specs.Loads.{puts_image, shows_image, shows_load, shows_params}
use Rattle.stages_loads.specs.Modules.{reads_module}
use Rattle.stages_loads.proofs.LoadSteps.{finished_shown, line_said, loads_others, one_loaded}
use Rattle.stages_loads.proofs.LoadSteps.{one_read, one_shown, params_shown}
use Rattle.command_modprobe.specs.Loaded.{images_asked, loads_plan}
use Rattle.command_modprobe.specs.Planned.{plan_lines, request_of}
use Rattle.laws_closed_plans.specs.Loads.{load_all, unless_refused}
use Rattle.laws_planned_loads.specs.Acts.{is_reading, said}
use Rattle.laws_planned_loads.specs.Courses.{CameToLoads, HasMachine, Loading, ended, inputs_of}
use Rattle.laws_planned_loads.specs.Files.{AreFileModules, IsFileModule}
use Rattle.laws_planned_loads.proofs.FileLemmas.{first_of_list, last_of, module-read, other-file}
use Rattle.laws_planned_loads.proofs.FileLemmas.{apart, last-img}
use Rattle.laws_planned_loads.proofs.KnownLemmas.{given-came}
use Rattle.laws_planned_loads.proofs.RunLemmas.{goes-on}
use Rattle.laws_planned_loads.proofs.WholeLemmas.{courses-load}
use Rattle.laws_planned_removals.specs.Join.{FolderStays, LoadsComeToLast, LoadsLeaveFolder}
use Rattle.laws_planned_removals.proofs.JoinLemmas.{files-stay, steps-kinds}
use Rattle.laws_planned_removals.proofs.ListedLemmas.{only-module}
use Rattle.laws_planned_removals.proofs.MeetLemmas.{well-planned}
use Rattle.laws_planned_loads.proofs.ListedLemmas.{stepped}
use Rattle.laws_planned_loads.proofs.CourseLemmas.{were-given}
use Rattle.command_remove.proofs.TakenLemmas.{same-value}

-- ---- no image is put at the path of a module

last-bin : (front : List ℕ) → last_of (front ++ codes ".bin") ≡ 110
last-bin front = ap first_of_list (reverse-append front (codes ".bin"))

lines-apart : (folder images name : List ℕ)
    → path_below folder (codes "modules.dep.bin") ≡ path_below images (name ++ codes ".img") → ⊥
lines-apart folder images name same =
    let one : last_of (path_below folder (codes "modules.dep.bin")) ≡ 110 =
    ap last_of (sym
    (append_assoc (without_end_slashes folder) (47 ∷ codes "modules.dep") (codes ".bin")))
    ∙ last-bin (without_end_slashes folder ++ 47 ∷ codes "modules.dep") in
    let other : last_of (path_below images (name ++ codes ".img")) ≡ 103 =
    ap last_of (sym (append_assoc (without_end_slashes images) (47 ∷ name) (codes ".img")))
    ∙ last-img (without_end_slashes images ++ 47 ∷ name) in
    let numbers : 110 ≡ 103 = sym one ∙ ap last_of same ∙ other in
    absurd (omega (arith, numbers))

-- ---- acts that put nothing at a path

abbrev Spares : List ℕ → List Act → Type 0
Spares path [] = Unit {0}
Spares path (read other ∷ acts) = Spares path acts
Spares path (list other ∷ acts) = Spares path acts
Spares path (say bytes ∷ acts) = Spares path acts
Spares path (warn bytes ∷ acts) = Spares path acts
Spares path (put other bytes ∷ acts) = (path ≡ other → ⊥) × Spares path acts

spared : (path : List ℕ) (acts : List Act) (files : Contents) → Spares path acts
    → get (after acts files) path ≡ get files path
spared path [] files spares = refl
spared path (read other ∷ acts) files spares = spared path acts files spares
spared path (list other ∷ acts) files spares = spared path acts files spares
spared path (say bytes ∷ acts) files spares = spared path acts files spares
spared path (warn bytes ∷ acts) files spares = spared path acts files spares
spared path (put other bytes ∷ acts) files spares =
    spared path acts (insert files other bytes) spares.1
    ∙ other-file files path other bytes spares.0

spares-both : (path : List ℕ) (a b : List Act) → Spares path a → Spares path b
    → Spares path (a ++ b)
spares-both path [] b first later = later
spares-both path (read other ∷ a) b first later = spares-both path a b first later
spares-both path (list other ∷ a) b first later = spares-both path a b first later
spares-both path (say bytes ∷ a) b first later = spares-both path a b first later
spares-both path (warn bytes ∷ a) b first later = spares-both path a b first later
spares-both path (put other bytes ∷ a) b first later = (first.0, spares-both path a b first.1 later)

spares-read : (path : List ℕ) (acts : List Act) → list_all is_reading acts ≡ true → Spares path acts
spares-read path [] only = tt
spares-read path (read other ∷ acts) only = spares-read path acts only
spares-read path (list other ∷ acts) only = spares-read path acts only
spares-read path (say bytes ∷ acts) only = cc
spares-read path (warn bytes ∷ acts) only = cc
spares-read path (put other bytes ∷ acts) only = cc

-- A stage puts nothing there, over whatever files.
abbrev OnlySpares : {X : Type 0} → List ℕ → Stage X → Type 0
OnlySpares path stage = (files : Contents) → Spares path (stage.run files).acts

spares-continued : {X Y : Type 0} (path : List ℕ) (acts : List Act) (o : Outcome X)
    (next : X → Stage Y) (files : Contents)
    → Spares path acts → ((x : X) → OnlySpares path (next x))
    → Spares path (continued acts o next files).acts
unfolding continued
spares-continued path acts (value x) next files first later =
    spares-both path acts ((next x).run (after acts files)).acts first (later x (after acts files))
spares-continued path acts (end e) next files first later = first

spares-then : {X Y : Type 0} (path : List ℕ) (stage : Stage X) (next : X → Stage Y)
    → OnlySpares path stage → ((x : X) → OnlySpares path (next x))
    → OnlySpares path (stage >>= next)
unfolding ◌>>=◌
spares-then path stage next first later =
    λ files. spares-continued path (stage.run files).acts (stage.run files).outcome next files
    (first files) later

spares-given : {X : Type 0} (path : List ℕ) (o : Outcome X) → OnlySpares path (given o)
unfolding given
spares-given path o = λ files. tt

spares-when : {X : Type 0} (path : List ℕ) (test : Bool) (a b : Stage X) → OnlySpares path a
    → OnlySpares path b → OnlySpares path (when test then a else b)
spares-when path true a b first second = first
spares-when path false a b first second = second

-- The path is that of no image.
abbrev IsNoImage : List ℕ → Type 0
IsNoImage path = (images name : List ℕ) → path ≡ path_below images (name ++ codes ".img") → ⊥

spares-line : (path line : List ℕ) → OnlySpares path (line_said line tt)
unfolding act_with
spares-line path line = λ files. tt

spares-put : (path : List ℕ) (folder : Option (List ℕ)) (name image : List ℕ) → IsNoImage path
    → OnlySpares path (puts_image folder name image)
unfolding act_with
spares-put path None name image other = spares-given path (value tt)
spares-put path (Some images) name image other = λ files. (other images name, tt)

spares-image : (path : List ℕ) (folder : Option (List ℕ)) (s : ShownImage) → IsNoImage path
    → OnlySpares path (shows_image folder s)
spares-image path folder s other =
    spares-then path (puts_image folder s.name s.image) (line_said s.line)
    (spares-put path folder s.name s.image other) (λ put. spares-line path s.line)

spares-params : (path : List ℕ) (folder : Option (List ℕ)) (m : Module) (options : List ℕ)
    (e : Entry)
    → IsNoImage path → OnlySpares path (shows_params folder m options e.loaded e.image)
spares-params path folder m options e other =
    spares-then path (given (params_outcome m options e.loaded e.image))
    (finished_shown folder e.loaded.name)
    (spares-given path (params_outcome m options e.loaded e.image))
    (λ p. spares-image path folder (params_image e.loaded.name p) other)

spares-load : (path : List ℕ) (images : Images) (m : Module) (options : List ℕ) (e : Entry)
    → IsNoImage path → OnlySpares path (shows_load images m options e)
spares-load path images m options e other =
    spares-then path (shows_image images.folder (machine_image e.loaded e.image))
    (params_shown images m options e)
    (spares-image path images.folder (machine_image e.loaded e.image) other)
    (λ shown. spares-when path images.params (shows_params images.folder m options e.loaded e.image)
    (gives tt) (spares-params path images.folder m options e other)
    (spares-given path (value tt)))

spares-one : (path folder : List ℕ) (images : Images) (machine : Machine) (one : Insertion)
    → IsNoImage path → OnlySpares path (loads_one folder images machine one)
spares-one path folder images machine one other =
    spares-then path (reads_module folder one.path) (one_read images one.options machine)
    (λ files. spares-read path ((reads_module folder one.path).run files).acts
    (only-module folder one.path files))
    (λ m.
    spares-then path (loads Planned machine m) (one_loaded images one.options machine m)
    (spares-given path (load_outcome Planned m.facts.name (step machine m)))
    (λ next.
    spares-then path (shows_load images m one.options (entered machine m)) (one_shown next)
    (spares-load path images m one.options (entered machine m) other)
    (λ shown. spares-given path (value next))))

spares-each : (path folder : List ℕ) (images : Images) (inserts : List Insertion) → IsNoImage path
    → (machine : Machine) → OnlySpares path (loads_all folder images machine inserts)
spares-each path folder images [] other machine = spares-given path (value machine)
spares-each path folder images (one ∷ inserts) other machine =
    spares-then path (loads_one folder images machine one) (loads_others folder images inserts)
    (spares-one path folder images machine one other)
    (λ next. spares-each path folder images inserts other next)

spares-said : (path bytes : List ℕ) → Spares path (said bytes)
spares-said path [] = tt
spares-said path (byte ∷ bytes) = tt

-- ---- loads that end well

-- One module that went in.
record OneWent (files : Contents) (folder : List ℕ) (machine : Machine) (one : Insertion)
    (next : Machine) : Type 0 where
  m : Module
  file : IsFileModule files folder one.path m
  took : step machine m ≡ Ok next

one-went : (files : Contents) (folder : List ℕ) (images : Images) (machine : Machine)
    (one : Insertion) (next : Machine)
    → is_module_path one.path ≡ true
    → ((loads_one folder images machine one).run files).outcome ≡ value next
    → OneWent files folder machine one next
one-went files folder images machine one next kind is =
    let h
    = goes-on (reads_module folder one.path) (one_read images one.options machine) files next is
    in
    let m : Module = h.mid in
    let read = module-read files folder one.path m kind h.first in
    let g
    = goes-on (loads Planned machine m) (one_loaded images one.options machine m) _ next h.rest
    in
    let mid : Machine = g.mid in
    let s
    = goes-on (shows_load images m one.options (entered machine m)) (one_shown mid) _ next
    g.rest in
    let same : mid ≡ next = same-value mid next (given-came (value mid) next _ s.rest) in
    record {
      m = m;
      file = read.file;
      took
          = stepped Planned m.facts.name (step machine m) mid
          (given-came (load_outcome Planned m.facts.name (step machine m)) mid _ g.first)
          ∙ ap Ok same;
    }

record AllWent (files : Contents) (folder : List ℕ) (machine : Machine) (inserts : List Insertion)
    (last : Machine) : Type 0 where
  modules : List Module
  files_are : AreFileModules files folder (paths_of inserts) modules
  loaded : load_all machine modules ≡ Ok last

all-went : (folder : List ℕ) (images : Images) (inserts : List Insertion)
    → AllByRecursion (λ path. is_module_path path ≡ true) (paths_of inserts)
    → (machine : Machine) (files : Contents) (last : Machine)
    → ((loads_all folder images machine inserts).run files).outcome ≡ value last
    → AllWent files folder machine inserts last
unfolding given
all-went folder images [] kinds machine files last is =
    record { modules = []; files_are = tt; loaded = ap Ok (same-value machine last is) }
all-went folder images (one ∷ inserts) kinds machine files last is =
    let g
    = goes-on (loads_one folder images machine one) (loads_others folder images inserts) files
    last is in
    let next : Machine = g.mid in
    let acts = ((loads_one folder images machine one).run files).acts in
    let first = one-went files folder images machine one next kinds.0 g.first in
    let rest = all-went folder images inserts kinds.1 next (after acts files) last g.rest in
    record {
      modules = first.m ∷ rest.modules;
      files_are = (
        first.file,
        files-stay (after acts files) files folder
            (λ path kind plain.
            sym (spared (path_below folder path) acts files
            (spares-one (path_below folder path) folder images machine one
            (λ place name. apart folder path place name kind plain) files)))
            (paths_of inserts) rest.modules rest.files_are,
      );
      loaded = ap (unless_refused (λ other. load_all other rest.modules)) first.took ∙ rest.loaded;
    }

ended-well : (o : Outcome Machine) → ended o ≡ value tt → (last : Machine) × (o ≡ value last)
ended-well (value last) is = (last, refl)
ended-well (end e) is = cc

pub loads-come-to-last : LoadsComeToLast
loads-come-to-last held asked l has came is =
    let folder = modules_folder asked.dirname asked.version in
    let images = images_asked asked in
    let course = courses-load held asked l has came in
    let last
    = ended-well ((loads_all folder images l.listed l.inserts).run held).outcome
    (sym course.outcome ∙ is) in
    let planned = well-planned l.known (request_of asked) l.steps came.planned in
    let kinds : AllByRecursion (λ path. is_module_path path ≡ true) (paths_of l.inserts) =
    subst (λ is. AllByRecursion (λ path. is_module_path path ≡ true) (paths_of is))
    ((were-given l.steps l.inserts came.runs_none).1)
    (steps-kinds l.known.indexes planned.0 l.steps planned.1) in
    let all = all-went folder images l.inserts kinds l.listed held last.0 last.1 in (
      all.modules,
      last.0,
      record {
        config = asked.config;
        listing = asked.loaded;
        request = request_of asked;
        came = came;
        files = all.files_are;
        loads = all.loaded;
      },
    )

-- ---- the folder after a load

module _ (held : Contents) (asked : ModprobeWords) (l : Loading)
    (has : HasMachine held asked l.kernel l.region) (came : CameToLoads held (inputs_of asked) l)
  where
    abbrev folder : List ℕ
    folder = modules_folder asked.dirname asked.version

    abbrev acts : List Act
    acts = ((loads_plan asked has.map).run held).acts

    abbrev loading : List Act
    loading = ((loads_all folder (images_asked asked) l.listed l.inserts).run held).acts

    spares : (path : List ℕ) → IsNoImage path → Spares path acts
    spares path other =
        let course = courses-load held asked l has came in
        subst (Spares path) (sym course.acts)
        (spares-both path course.before (said (plan_lines folder l.steps) ++ loading)
        (spares-read path course.before course.reads)
        (spares-both path (said (plan_lines folder l.steps)) loading
        (spares-said path (plan_lines folder l.steps))
        (spares-each path folder (images_asked asked) l.inserts other l.listed held)))

    pub folder-stays : FolderStays held (after acts held) folder
    folder-stays = record {
      lines
          = spared (path_below folder (codes "modules.dep.bin")) acts held
          (spares (path_below folder (codes "modules.dep.bin")) (lines-apart folder));
      modules
          = λ path kind plain. spared (path_below folder path) acts held
          (spares (path_below folder path)
          (λ images name. apart folder path images name kind plain));
    }

pub loads-leave-folder : LoadsLeaveFolder
loads-leave-folder held asked l has came = folder-stays held asked l has came
