-- The whole course of a modprobe that loads.
use Rattle.std.proofs.Common.{◌≡◌, ◌∙◌, ℕ, true, List, [], ◌∷◌, ◌++◌, map, None, refl, sym, ap}
use Rattle.std.proofs.Common.{append_assoc, append-nil}
use Rattle.std.specs.Prelude.{Option, Some, ⊤}
use Rattle.std.specs.List.{list_all}
use Rattle.km_names.specs.Path.{path_below}
use Rattle.outside_calls.specs.Contents.{Contents}
use Rattle.kmod_words.specs.declared.modprobe.ModprobeWords.{ModprobeWords}
use Rattle.km_course.specs.Course.{Act, Outcome, Run, Stage, ◌>>=◌, act_with, after, continued}
use Rattle.km_course.specs.Course.{given, reads, says_any}
use Rattle.km_course.specs.Course.Act.{read}
use Rattle.km_course.specs.Course.Outcome.{value, end}
use Rattle.km_course.specs.declared.end.End.TheVariants.{NoFile}
use Rattle.kernel_exports.specs.KernelTable.{exports_of_map}
use Rattle.module_region.specs.declared.region.Region.{Region}
use Rattle.model_loader.specs.Machine.{Machine, new_machine}
use Rattle.plan_builder.specs.declared.step.PlanStep.{PlanStep}
use Rattle.stages_files.specs.KernelModules.{modules_folder, path_listed}
use Rattle.stages_files.specs.KernelTable.{reads_map, reads_symvers, table_outcome}
use Rattle.stages_files.proofs.TableSteps.{map_read, symvers_read}
use Rattle.stages_loads.specs.Listed.{loads_listed}
use Rattle.stages_loads.specs.declared.load.Insertion.{Insertion}
use Rattle.stages_loads.specs.declared.shown.Images.{Images}
use Rattle.stages_loads.specs.Loads.{loads_all}
use Rattle.stages_loads.specs.Tables.{machine_outcome, reads_addressed, reads_machine, unplaced}
use Rattle.stages_loads.proofs.TableSteps.{both_added, both_read, both_understood, made}
use Rattle.stages_known.specs.declared.known.Known.{Known}
use Rattle.stages_known.specs.Known.{reads_known}
use Rattle.command_modprobe.specs.Parts.{loads_known}
use Rattle.command_modprobe.specs.Planned.{plan_lines, plan_outcome, request_of}
use Rattle.command_modprobe.specs.Loaded.{images_asked, inserts_outcome, loads_plan}
use Rattle.command_modprobe.proofs.LoadSteps.{after_lines, after_listed, after_loads, after_machine}
use Rattle.command_modprobe.proofs.LoadSteps.{after_inserts, after_steps}
use Rattle.laws_planned_loads.specs.Acts.{is_reading, said}
use Rattle.laws_planned_loads.specs.Courses.{CoursesLoad, HasMachine, IsLoadingCourse, CameToLoads}
use Rattle.laws_planned_loads.specs.Courses.{Loading, ended, inputs_of}
use Rattle.laws_planned_loads.proofs.KnownLemmas.{only-known}
use Rattle.laws_planned_loads.proofs.ListedLemmas.{listed-are-of-machine}
use Rattle.laws_planned_loads.proofs.RunLemmas.{OnlyReads, both-read, joined, reads-file}
use Rattle.laws_planned_loads.proofs.RunLemmas.{reads-given, reads-then, run-given, run-on}
use Rattle.laws_planned_loads.proofs.RunLemmas.{run-then, run_of}

-- ---- the machine

only-map : (file : List ℕ) → OnlyReads (reads_map file)
only-map file =
    reads-then (reads file) (map_read file) (reads-file (end (NoFile file)) file)
    (λ bytes. reads-given _)

pub only-symvers : (file : List ℕ) → OnlyReads (reads_symvers file)
only-symvers file =
    reads-then (reads file) (symvers_read file) (reads-file (end (NoFile file)) file)
    (λ bytes. reads-given _)

pub only-addressed : (map : List ℕ) (symvers : Option (List ℕ))
    → OnlyReads (reads_addressed map symvers)
only-addressed map None = only-map map
only-addressed map (Some symvers) =
    reads-then (reads map) (both_read map symvers) (reads-file (end (NoFile map)) map) (λ bytes.
    reads-then (given (table_outcome map true (exports_of_map bytes)))
    (both_understood map symvers bytes) (reads-given _) (λ alone.
    reads-then (reads_symvers symvers) (both_added map bytes) (only-symvers symvers)
    (λ exported. reads-given _)))

pub only-machine : (map : List ℕ) (symvers : Option (List ℕ)) (region : Region)
    → OnlyReads (reads_machine map symvers region)
only-machine map symvers region =
    reads-then (reads_addressed map symvers) (made region) (only-addressed map symvers)
    (λ table. reads-given (machine_outcome table region (unplaced table.exports)))

-- ---- the end of the course

all-read : (folder : List ℕ) (paths : List (List ℕ))
    → list_all is_reading (map (λ path. read (path_below folder path)) paths) ≡ true
all-read folder [] = refl
all-read folder (path ∷ paths) = all-read folder paths

pub lines-said : (bytes : List ℕ) (files : Contents)
    → (says_any bytes).run files ≡ run_of (said bytes) (value tt)
unfolding given act_with
lines-said [] files = refl
lines-said (byte ∷ bytes) files = refl

said-leaves : (bytes : List ℕ) (files : Contents) → after (said bytes) files ≡ files
said-leaves [] files = refl
said-leaves (byte ∷ bytes) files = refl

last-continued : (acts : List Act) (o : Outcome Machine) (files : Contents)
    → continued acts o after_loads files ≡ run_of acts (ended o)
unfolding continued given
last-continued acts (value machine) files = ap (λ done. run_of done (value tt)) (append-nil acts)
last-continued acts (end e) files = refl

loads-last : (folder : List ℕ) (images : Images) (machine : Machine) (inserts : List Insertion)
    (files : Contents)
    → (loads_all folder images machine inserts >>= after_loads).run files
    ≡ run_of ((loads_all folder images machine inserts).run files).acts
    (ended ((loads_all folder images machine inserts).run files).outcome)
unfolding ◌>>=◌
loads-last folder images machine inserts files =
    last-continued ((loads_all folder images machine inserts).run files).acts
    ((loads_all folder images machine inserts).run files).outcome files

-- ---- the whole

module _ (held : Contents) (asked : ModprobeWords) (l : Loading)
    (has : HasMachine held asked l.kernel l.region) (came : CameToLoads held (inputs_of asked) l)
  where
    abbrev region : Region
    region = l.region

    abbrev known : Known
    known = l.known

    abbrev machine : Machine
    machine = l.listed

    abbrev steps : List PlanStep
    steps = l.steps

    abbrev inserts : List Insertion
    inserts = l.inserts

    abbrev folder : List ℕ
    folder = modules_folder asked.dirname asked.version

    abbrev start : Machine
    start = new_machine l.kernel l.region

    abbrev knowing : Stage Known
    knowing = reads_known asked.config folder asked.loaded

    abbrev making : Stage Machine
    making = reads_machine has.map asked.symvers region

    abbrev listing : Stage Machine
    listing = loads_listed folder (path_listed known.indexes.dep) start known.loaded

    abbrev loading : Run Machine
    loading = (loads_all folder (images_asked asked) machine inserts).run held

    abbrev rest : Run ⊤
    rest = run_of (said (plan_lines folder steps) ++ loading.acts) (ended loading.outcome)

    from-lines : (after_listed folder (images_asked asked) steps inserts machine).run held ≡ rest
    from-lines =
        let lines = plan_lines folder steps in
        run-then (says_any lines) (after_lines folder (images_asked asked) machine inserts) held
        (said lines) tt (lines-said lines held)
        ∙ ap (λ fs. joined (said lines)
        ((loads_all folder (images_asked asked) machine inserts >>= after_loads).run fs))
        (said-leaves lines held)
        ∙ ap (joined (said lines)) (loads-last folder (images_asked asked) machine inserts held)

    listing-reads : list_all is_reading (listing.run held).acts ≡ true
    listing-reads =
        let h
        = listed-are-of-machine held folder known.indexes.dep start known.loaded machine
        came.listed in
        ap (list_all is_reading) h.acts ∙ all-read folder h.paths

    from-steps : (after_machine folder (images_asked asked) (request_of asked) known start).run held
        ≡ joined (listing.run held).acts rest
    from-steps =
        run-then (given (plan_outcome known known.loaded (request_of asked)))
        (after_steps folder (images_asked asked) known start) held [] steps
        (run-given _ held ∙ ap (run_of []) came.planned)
        ∙ run-then (given (inserts_outcome steps))
        (after_inserts folder (images_asked asked) known start steps) held [] inserts
        (run-given _ held ∙ ap (run_of []) came.runs_none)
        ∙ run-on listing (after_listed folder (images_asked asked) steps inserts) held machine
        listing-reads came.listed
        ∙ ap (joined (listing.run held).acts) from-lines

    from-machine : (loads_known folder (images_asked asked) (request_of asked) has.map asked.symvers
        region known).run held
        ≡ joined (making.run held).acts (joined (listing.run held).acts rest)
    from-machine =
        run-on making (after_machine folder (images_asked asked) (request_of asked) known) held
        start
        (only-machine has.map asked.symvers region held) has.made
        ∙ ap (joined (making.run held).acts) from-steps

    whole : (loads_plan asked has.map).run held
        ≡ joined (knowing.run held).acts
        (joined (making.run held).acts (joined (listing.run held).acts rest))
    whole =
        ap (λ r. (knowing
        >>= loads_known folder (images_asked asked) (request_of asked) has.map asked.symvers
        r).run held) has.in_region
        ∙ run-on knowing
        (loads_known folder (images_asked asked) (request_of asked) has.map asked.symvers region)
        held known (only-known asked.config folder asked.loaded held) came.knows
        ∙ ap (joined (knowing.run held).acts) from-machine

    pub is-loading : IsLoadingCourse held folder (images_asked asked) l
        ((loads_plan asked has.map).run held)
    is-loading =
        let a = (knowing.run held).acts in
        let b = (making.run held).acts in
        let c = (listing.run held).acts in
        record {
          before = a ++ (b ++ c);
          reads
              = both-read a (b ++ c) (only-known asked.config folder asked.loaded held)
              (both-read b c (only-machine has.map asked.symvers region held) listing-reads);
          acts =
              ap (λ r. r.acts) whole
              ∙ ap (λ done. a ++ done) (sym (append_assoc b c rest.acts))
              ∙ sym (append_assoc a (b ++ c) rest.acts);
          outcome = ap (λ r. r.outcome) whole;
        }

pub courses-load : CoursesLoad
courses-load held asked l has came = is-loading held asked l has came
