-- The whole course of a modprobe that removes.
use Rattle.std.proofs.Common.{◌≡◌, ◌∙◌, ℕ, Bool, true, false, List, [], ◌++◌, map, refl, sym, ap}
use Rattle.std.proofs.Common.{subst, append_assoc, append-nil}
use Rattle.std.specs.Prelude.{flat_map, reverse, codes, Some, None, Ok, ⊤}
use Rattle.outside_calls.specs.Contents.{Contents}
use Rattle.kmod_words.specs.declared.modprobe.ModprobeWords.{ModprobeWords}
use Rattle.km_course.specs.Course.{Act, Outcome, Run, Stage, ◌>>=◌, each_from, given, says_any}
use Rattle.km_course.specs.Course.Outcome.{value, end}
use Rattle.km_course.specs.declared.end.End.{End}
use Rattle.km_course.specs.declared.end.End.TheVariants.{Refused}
use Rattle.km_course.specs.declared.refusal.Refusal.TheVariants.{InUse}
use Rattle.kernel_exports.specs.declared.kernel.Kernel.{Kernel}
use Rattle.module_region.specs.declared.region.Region.{Region}
use Rattle.model_loader.specs.Machine.{Machine, new_machine}
use Rattle.model_loader.specs.Use.{name_at}
use Rattle.model_unload.specs.Unload.{unload_all}
use Rattle.remove_plan.specs.declared.step.RemoveStep.{RemoveStep}
use Rattle.remove_plan.specs.Removal.{in_use, is_asked, left_after, removed_by}
use Rattle.stages_files.specs.KernelModules.{modules_folder}
use Rattle.stages_loads.specs.Tables.{reads_machine}
use Rattle.stages_known.specs.declared.known.Known.{Known}
use Rattle.stages_known.specs.Known.{reads_known}
use Rattle.stages_known.specs.Named.{names_outcome}
use Rattle.laws_planned_loads.specs.Acts.{said}
use Rattle.laws_planned_loads.proofs.KnownLemmas.{only-known}
use Rattle.laws_planned_loads.proofs.RunLemmas.{both-read, joined, run-ends, run-given, run-on}
use Rattle.laws_planned_loads.proofs.RunLemmas.{run-then, run_of}
use Rattle.laws_planned_loads.proofs.WholeLemmas.{lines-said, only-machine}
use Rattle.command_remove.specs.declared.course.Removal.{Removal}
use Rattle.stages_loads.specs.Listed.{loads_listed}
use Rattle.command_remove.specs.Lines.{left_lines, line_of_two, step_lines, unloaded_line}
use Rattle.command_remove.specs.Remove.{carries_out, chosen_outcome, first_owner, removal_of}
use Rattle.command_remove.specs.Remove.{removes, removes_names, step_name, steps_outcome}
use Rattle.command_remove.specs.Remove.{steps_unless, unloads_one, unloads_unless}
use Rattle.command_remove.proofs.RemoveSteps.{after_check, after_known, after_left, after_lines}
use Rattle.command_remove.proofs.RemoveSteps.{after_listed, after_machine, after_names, after_steps}
use Rattle.command_remove.proofs.RemoveSteps.{passes-dry, passes-none, refuses-chosen}
use Rattle.command_remove.proofs.TakenLemmas.{step-names, steps-unload}
use Rattle.command_remove.specs.Listed.{well_formed_path}
use Rattle.laws_planned_removals.specs.Listed.{AreTaken}
use Rattle.laws_planned_removals.specs.Courses.{AreSaying, CameToRemoval, CoursesRemove}
use Rattle.laws_planned_removals.specs.Courses.{IsRemovalCourse, Removing, SaysLines, removed_names}
use Rattle.laws_planned_removals.specs.Courses.{steps_asked, taken_out_lines}
use Rattle.laws_planned_removals.proofs.ListedLemmas.{listed-are-taken, only-taken}
use Rattle.laws_planned_removals.proofs.SayingLemmas.{no-commands, saying-append, saying-leaves}
use Rattle.laws_planned_removals.proofs.SayingLemmas.{saying-said, unload_acts, unloads-run}
use Rattle.laws_planned_removals.proofs.SayingLemmas.{unloads-say}

-- ---- the steps

steps-free : (machine : Machine) (asked : ModprobeWords) (known : Known) (names : List (List ℕ))
    → in_use machine (is_asked machine names) ≡ None
    → steps_outcome machine known.rules asked.ignore_install names
    ≡ value (steps_asked asked known machine names)
unfolding steps_outcome
steps-free machine asked known names free =
    ap (λ o. steps_unless machine o (steps_asked asked known machine names)) free

steps-used : (machine : Machine) (asked : ModprobeWords) (known : Known) (names : List (List ℕ))
    (j k : ℕ)
    → in_use machine (is_asked machine names) ≡ Some (j, k)
    → steps_outcome machine known.rules asked.ignore_install names
    ≡ end (Refused (InUse (name_at machine j) (name_at machine k)))
unfolding steps_outcome
steps-used machine asked known names j k used =
    ap (λ o. steps_unless machine o (steps_asked asked known machine names)) used

module _ (held : Contents) (dry_run : Bool) (asked : ModprobeWords) (r : Removing)
    (came : CameToRemoval held asked r) where
  abbrev kernel : Kernel
  kernel = r.kernel

  abbrev region : Region
  region = r.region

  abbrev known : Known
  known = r.known

  abbrev machine : Machine
  machine = r.listed

  abbrev names : List (List ℕ)
  names = r.names

  abbrev folder : List ℕ
  folder = modules_folder asked.dirname asked.version

  abbrev removal : Removal
  removal = removal_of dry_run asked

  abbrev start : Machine
  start = new_machine kernel region

  abbrev steps : List RemoveStep
  steps = steps_asked asked known machine names

  abbrev knowing : Stage Known
  knowing = reads_known asked.config folder asked.loaded

  abbrev making : Stage Machine
  making = reads_machine came.tables.map asked.symvers region

  abbrev listing : Stage Machine
  listing = loads_listed folder (well_formed_path known.indexes) start known.loaded

  abbrev rest : Run ⊤
  rest = (removes_names removal known machine).run held

  from-machine : (after_known folder removal came.tables.map asked.symvers region known).run held
      ≡ joined (making.run held).acts (joined (listing.run held).acts rest)
  from-machine =
      run-on making (after_machine folder removal known) held start
      (only-machine came.tables.map asked.symvers region held) came.tables.made
      ∙ ap (joined (making.run held).acts)
      (run-on listing (after_listed removal known) held machine
      (only-taken folder known.indexes start known.loaded held) came.listed)

  whole : (removes dry_run asked came.tables.map).run held
      ≡ joined (knowing.run held).acts
      (joined (making.run held).acts (joined (listing.run held).acts rest))
  whole =
      ap (λ r. (knowing >>= after_known folder removal came.tables.map asked.symvers r).run held)
      came.tables.in_region
      ∙ run-on knowing (after_known folder removal came.tables.map asked.symvers region) held known
      (only-known asked.config folder asked.loaded held) came.knows
      ∙ ap (joined (knowing.run held).acts) from-machine

  -- what the course says, by what it says after the listed modules were loaded
  says-so : (lines : List ℕ) (outcome : Outcome ⊤) (saying : List Act) → AreSaying saying lines
      → rest ≡ run_of saying outcome
      → SaysLines lines outcome ((removes dry_run asked came.tables.map).run held)
  says-so lines outcome saying are is =
      let a = (knowing.run held).acts in
      let b = (making.run held).acts in
      let c = (listing.run held).acts in
      record {
        before = a ++ (b ++ c);
        reads
            = both-read a (b ++ c) (only-known asked.config folder asked.loaded held)
            (both-read b c (only-machine came.tables.map asked.symvers region held)
            (only-taken folder known.indexes start known.loaded held));
        saying = saying;
        says = are;
        acts =
            ap (λ (r : Run ⊤). r.acts) whole
            ∙ ap (λ (r : Run ⊤). a ++ (b ++ (c ++ r.acts))) is
            ∙ ap (λ done. a ++ done) (sym (append_assoc b c saying))
            ∙ sym (append_assoc a (b ++ c) saying);
        ends = ap (λ (r : Run ⊤). r.outcome) whole ∙ ap (λ (r : Run ⊤). r.outcome) is;
      }

  -- ---- after the names were looked up

  from-names : rest ≡ (after_names removal known machine names).run held
  from-names =
      run-then (given (names_outcome known asked.use_blacklist asked.words))
      (after_names removal known machine) held [] names
      (run-given _ held ∙ ap (run_of []) came.found)

  used : (j k : ℕ) → in_use machine (is_asked machine names) ≡ Some (j, k)
      → rest ≡ run_of [] (end (Refused (InUse (name_at machine j) (name_at machine k))))
  used j k is =
      from-names
      ∙ run-ends (given (steps_outcome machine known.rules asked.ignore_install names))
      (after_steps dry_run machine) held [] _
      (run-given _ held ∙ ap (run_of []) (steps-used machine asked known names j k is))

  module _ (free : in_use machine (is_asked machine names) ≡ None) where
    from-steps : rest ≡ (carries_out dry_run machine steps).run held
    from-steps =
        from-names
        ∙ run-then (given (steps_outcome machine known.rules asked.ignore_install names))
        (after_steps dry_run machine) held [] steps
        (run-given _ held ∙ ap (run_of []) (steps-free machine asked known names free))

    refused : (e : End) → chosen_outcome dry_run steps ≡ end e → rest ≡ run_of [] (end e)
    refused e is =
        from-steps
        ∙ run-ends (given (chosen_outcome dry_run steps)) (after_check dry_run machine steps) held
        [] e (run-given _ held ∙ ap (run_of []) is)

    from-lines : chosen_outcome dry_run steps ≡ value tt → (saying : List Act)
        → (unloads_unless dry_run machine steps).run held ≡ run_of saying (value tt)
        → rest ≡ run_of (said (step_lines steps) ++ saying) (value tt)
    from-lines passed saying is =
        let lines = step_lines steps in
        from-steps
        ∙ run-then (given (chosen_outcome dry_run steps)) (after_check dry_run machine steps) held
        [] tt (run-given _ held ∙ ap (run_of []) passed)
        ∙ run-then (says_any lines) (after_lines dry_run machine steps) held (said lines) tt
        (lines-said lines held)
        ∙ ap (λ files. joined (said lines) ((unloads_unless dry_run machine steps).run files))
        (saying-leaves (said lines) lines held (saying-said lines))
        ∙ ap (joined (said lines)) is

    unloaded : (taken : AreTaken held folder known.indexes start (reverse known.loaded) machine)
        → unload_all machine (map step_name steps) ≡ Ok (left_after machine names)
    unloaded taken =
        steps-unload kernel region taken.modules machine known.rules asked.ignore_install names
        steps taken.loaded (record { free = free; are = refl })

    undone : dry_run ≡ true → (unloads_unless dry_run machine steps).run held ≡ run_of [] (value tt)
    undone dry = ap (λ d. (unloads_unless d machine steps).run held) dry ∙ run-given (value tt) held

    carried : dry_run ≡ false
        → (unloads_unless dry_run machine steps).run held
        ≡ run_of (unload_acts steps ++ said (left_lines (left_after machine names).entries))
        (value tt)
    carried dry =
        let acts = unload_acts steps in
        let text = left_lines (left_after machine names).entries in
        ap (λ d. (unloads_unless d machine steps).run held) dry
        ∙ run-then (each_from unloads_one machine steps) after_left held acts
        (left_after machine names)
        (unloads-run steps machine (left_after machine names) held
        (unloaded (listed-are-taken held folder known.indexes start known.loaded machine
        came.listed)))
        ∙ ap (λ files. joined acts ((says_any text).run files))
        (saying-leaves acts _ held (unloads-say steps))
        ∙ ap (joined acts) (lines-said text held)

    names-of : map step_name steps ≡ removed_names machine names
    names-of
        = step-names machine known.rules asked.ignore_install (is_asked machine names)
        (removed_by machine names)

    lines-are : first_owner steps ≡ None
        → step_lines steps
        ++ (flat_map unloaded_line (map step_name steps)
        ++ left_lines (left_after machine names).entries)
        ≡ taken_out_lines machine names
    lines-are none =
        ap (λ lines. lines
        ++ (flat_map unloaded_line (map step_name steps)
        ++ left_lines (left_after machine names).entries)) (no-commands steps none)
        ∙ ap (λ ns. flat_map (line_of_two (codes "rmmod ")) ns
        ++ (flat_map unloaded_line ns ++ left_lines (left_after machine names).entries))
        names-of

  pub is-removal : IsRemovalCourse dry_run asked r
      ((removes dry_run asked came.tables.map).run held)
  is-removal = record {
    used = λ j k is. says-so [] _ [] refl (used j k is);
    chosen
        = λ free dry name is. says-so [] _ [] refl
        (refused free _ (refuses-chosen dry_run steps name dry is));
    printed = λ free dry.
        let lines = step_lines steps in
        says-so lines _ (said lines ++ []) (subst-nil lines)
        (from-lines free (passes-dry dry_run steps dry) [] (undone free dry));
    done = λ free dry none.
        let lines = step_lines steps in
        let text = left_lines (left_after machine names).entries in
        says-so (taken_out_lines machine names) _ (said lines ++ (unload_acts steps ++ said text))
        (subst (AreSaying (said lines ++ (unload_acts steps ++ said text))) (lines-are free none)
        (saying-append (said lines) (unload_acts steps ++ said text) lines _ (saying-said lines)
        (saying-append (unload_acts steps) (said text) _ text (unloads-say steps)
        (saying-said text))))
        (from-lines free (passes-none dry_run steps dry none) (unload_acts steps ++ said text)
        (carried free dry));
  }
    where
      subst-nil : (lines : List ℕ) → AreSaying (said lines ++ []) lines
      subst-nil lines
          = subst (λ acts. AreSaying acts lines) (sym (append-nil (said lines))) (saying-said lines)

pub courses-remove : CoursesRemove
courses-remove held dry_run asked r came = is-removal held dry_run asked r came
