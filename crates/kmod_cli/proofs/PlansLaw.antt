-- That modprobe plans or names the first obstacle, by its course and what a call that carries a
-- course did.
use Rattle.std.proofs.Common.{◌≡◌, ◌∙◌, ℕ, true, List, [], ◌++◌, take, None, refl, sym, ap, subst}
use Rattle.std.proofs.Common.{arith, append-nil}
use Rattle.std.specs.Prelude.{Option, Some, ⊤}
use Rattle.std.specs.List.{list_all}
use Rattle.outside_calls.specs.Contents.{Contents}
use Rattle.km_course.specs.Carries.{Carries, outcome_line, outcome_status, whole_acts}
use Rattle.km_course.specs.Course.{Act, Outcome, Run, Stage, ◌>>=◌, given, if_understood}
use Rattle.km_course.specs.Course.Outcome.{value, end}
use Rattle.km_course.specs.World.{World, Shown, done}
use Rattle.km_course.specs.declared.end.End.{End}
use Rattle.km_course.specs.declared.end.End.TheVariants.{Refused}
use Rattle.km_course.specs.declared.refusal.Refusal.TheVariants.{Obstacle as Unplanned}
use Rattle.kmod_words.specs.declared.modprobe.Mode.{Mode}
use Rattle.kmod_words.specs.declared.modprobe.Mode.TheVariants.{Load, DryRun, ShowDepends}
use Rattle.kmod_words.specs.declared.modprobe.Mode.TheVariants.{ResolveAlias, Remove}
use Rattle.kmod_words.specs.declared.modprobe.ModprobeWords.{ModprobeWords}
use Rattle.kmod_words.specs.Modprobe.{modprobe_request}
use Rattle.kernel_exports.specs.declared.kernel.Kernel.{Kernel}
use Rattle.module_region.specs.declared.region.Region.{Region}
use Rattle.model_loader.specs.Machine.{new_machine}
use Rattle.plan_builder.specs.declared.step.PlanStep.{PlanStep}
use Rattle.plan_builder.specs.Steps.{plan_steps}
use Rattle.plan_builder.specs.Text.{first_obstacle_text}
use Rattle.stages_loads.specs.Tables.{reads_machine}
use Rattle.stages_known.specs.declared.known.Known.{Known}
use Rattle.stages_known.specs.Known.{reads_known}
use Rattle.command_modprobe.specs.Loaded.{images_asked, loads_plan}
use Rattle.command_modprobe.specs.Modprobe.{modprobe_requested, modprobe_course, modprobe_in_mode}
use Rattle.command_modprobe.proofs.CourseSteps.{Fits, is-map, loads-in, of-mode}
use Rattle.command_modprobe.specs.Parts.{loads_known, prints_plan}
use Rattle.km_course.specs.Course.{value_unless}
use Rattle.command_modprobe.specs.Planned.{loaded_in, plan_lines, plan_outcome}
use Rattle.command_modprobe.specs.Planned.{request_of, shows_plan}
use Rattle.command_modprobe.proofs.LoadSteps.{after_machine, after_steps}
use Rattle.command_modprobe.proofs.PlanSteps.{after_plan}
use Rattle.laws_planned_loads.specs.Acts.{is_reading, said}
use Rattle.laws_planned_loads.specs.Courses.{HasMachine}
use Rattle.laws_planned_loads.proofs.KnownLemmas.{only-known}
use Rattle.laws_planned_loads.proofs.RunLemmas.{both-read, joined, run-ends, run-given, run-on}
use Rattle.laws_planned_loads.proofs.RunLemmas.{run-then, run_of}
use Rattle.laws_planned_loads.proofs.WholeLemmas.{lines-said, only-machine}
use Rattle.kmod_cli.specs.Headline.{folder_asked}
use Rattle.kmod_cli.specs.Plans.{CameToPlan, IsPrintedPart, IsReady, Plans, lines_asked}
use Rattle.kmod_cli.specs.Plans.{sources_asked}
use Rattle.kmod_cli.proofs.ActsLeft.{Cut, Shows}
use Rattle.kmod_cli.proofs.CameLemmas.{came-to}
use Rattle.kmod_cli.proofs.LoadsLeft.{AreOfLoads, loads-left, loads-part}

-- ---- what a plan comes to

outcome-is : (known : Known) (asked : ModprobeWords) (o : Option (List ℕ))
    → first_obstacle_text (sources_asked asked known) (request_of asked) ≡ o
    → plan_outcome known (loaded_in asked.mode known.loaded) (request_of asked)
    ≡ value_unless Unplanned o (plan_steps (sources_asked asked known) (request_of asked))
unfolding plan_outcome
outcome-is known asked o is =
    ap (λ f. value_unless Unplanned f
    (plan_steps (sources_asked asked known) (request_of asked))) is

-- Files are read, these lines are written, and this is the outcome.
pub record Prints (lines : List ℕ) (outcome : Outcome ⊤) (run : Run ⊤) : Type 0 where
  pub before : List Act
  pub reads : list_all is_reading before ≡ true
  pub is : run ≡ joined before (run_of (said lines) outcome)

-- a plan is printed
shown-so : (held : Contents) (asked : ModprobeWords) (known : Known)
    → ((reads_known asked.config (folder_asked asked) asked.loaded).run held).outcome ≡ value known
    → (steps : List PlanStep)
    → plan_outcome known (loaded_in asked.mode known.loaded) (request_of asked) ≡ value steps
    → Prints (plan_lines (folder_asked asked) steps) (value tt) ((shows_plan asked).run held)
shown-so held asked known knows steps made =
    let folder = folder_asked asked in
    let reading = reads_known asked.config folder asked.loaded in
    let plan = given (plan_outcome known (loaded_in asked.mode known.loaded) (request_of asked)) in
    let lines = plan_lines folder steps in
    let only = only-known asked.config folder asked.loaded held in
    record {
      before = (reading.run held).acts;
      reads = only;
      is =
          run-on reading (prints_plan folder (request_of asked) asked.mode) held known only knows
          ∙ ap (joined (reading.run held).acts)
          (run-then plan (after_plan folder) held [] steps (run-given _ held ∙ ap (run_of []) made)
          ∙ ap (joined []) (lines-said lines held));
    }

-- a plan has an obstacle, where its lines would be printed
shown-not : (held : Contents) (asked : ModprobeWords) (known : Known)
    → ((reads_known asked.config (folder_asked asked) asked.loaded).run held).outcome ≡ value known
    → (e : End) → plan_outcome known (loaded_in asked.mode known.loaded) (request_of asked) ≡ end e
    → Prints [] (end e) ((shows_plan asked).run held)
shown-not held asked known knows e met =
    let folder = folder_asked asked in
    let reading = reads_known asked.config folder asked.loaded in
    let plan = given (plan_outcome known (loaded_in asked.mode known.loaded) (request_of asked)) in
    let only = only-known asked.config folder asked.loaded held in
    record {
      before = (reading.run held).acts;
      reads = only;
      is =
          run-on reading (prints_plan folder (request_of asked) asked.mode) held known only knows
          ∙ ap (joined (reading.run held).acts)
          (run-ends plan (after_plan folder) held [] e (run-given _ held ∙ ap (run_of []) met));
    }

-- and where a load is asked for
loaded-not : (held : Contents) (asked : ModprobeWords) (known : Known) (kernel : Kernel)
    (region : Region)
    → (has : HasMachine held asked kernel region)
    → ((reads_known asked.config (folder_asked asked) asked.loaded).run held).outcome ≡ value known
    → (e : End) → plan_outcome known known.loaded (request_of asked) ≡ end e
    → Prints [] (end e) ((loads_plan asked has.map).run held)
loaded-not held asked known kernel region has knows e met =
    let folder = folder_asked asked in
    let request = request_of asked in
    let reading = reads_known asked.config folder asked.loaded in
    let making = reads_machine has.map asked.symvers region in
    let start = new_machine kernel region in
    let only = only-known asked.config folder asked.loaded held in
    let only' = only-machine has.map asked.symvers region held in
    let a = (reading.run held).acts in
    let b = (making.run held).acts in
    record {
      before = a ++ b;
      reads = both-read a b only only';
      is =
          ap (λ r. (reading
          >>= loads_known folder (images_asked asked) request has.map asked.symvers r).run
          held) has.in_region
          ∙ run-on reading
          (loads_known folder (images_asked asked) request has.map asked.symvers region) held
          known only knows
          ∙ ap (joined a)
          (run-on making (after_machine folder (images_asked asked) request known) held start only'
          has.made
          ∙ ap (joined b)
          (run-ends (given (plan_outcome known known.loaded request))
          (after_steps folder (images_asked asked) known start) held [] e
          (run-given _ held ∙ ap (run_of []) met)))
          ∙ ap (λ acts. run_of acts (end e))
          (ap (λ x. a ++ x) (append-nil b) ∙ sym (append-nil (a ++ b)));
    }

module _ (held : Contents) (words : List (List ℕ)) (asked : ModprobeWords) (known : Known)
    (is : modprobe_request words ≡ Some asked) (came : CameToPlan held asked known) where
  of-words : (course : Stage ⊤) → modprobe_in_mode asked.mode asked asked.fits ≡ course
      → (lines : List ℕ) (outcome : Outcome ⊤) → Prints lines outcome (course.run held)
      → Prints lines outcome ((modprobe_course words).run held)
  of-words course same lines outcome p =
      subst (λ (course : Stage ⊤). Prints lines outcome (course.run held))
      (sym (ap (if_understood modprobe_requested) is ∙ same)) p

  -- the course where no load is asked for
  shows : (mode : Mode) → asked.mode ≡ mode
      → ((fits : Fits mode asked) → modprobe_in_mode mode asked fits ≡ shows_plan asked)
      → modprobe_in_mode asked.mode asked asked.fits ≡ shows_plan asked
  shows mode m so = of-mode asked (shows_plan asked) mode asked.mode m so asked.fits

  plan-printed : ¬ (asked.mode ≡ Load)
      → first_obstacle_text (sources_asked asked known) (request_of asked) ≡ None
      → Prints (lines_asked asked known) (value tt) ((modprobe_course words).run held)
  plan-printed other none = by_mode asked.mode refl came.ready
    where
      by_mode : (mode : Mode) → asked.mode ≡ mode → IsReady held asked mode
          → Prints (lines_asked asked known) (value tt) ((modprobe_course words).run held)
      by_mode Load m ready = absurd (other m)
      by_mode DryRun m ready
          = of-words (shows_plan asked) (shows DryRun m (λ fits. refl)) _ _
          (shown-so held asked known came.knows _ (outcome-is known asked None none))
      by_mode ShowDepends m ready
          = of-words (shows_plan asked) (shows ShowDepends m (λ fits. refl)) _ _
          (shown-so held asked known came.knows _ (outcome-is known asked None none))
      by_mode ResolveAlias m ready = absurd ready
      by_mode (Remove dry_run) m ready = absurd ready

  plan-refused : (text : List ℕ)
      → first_obstacle_text (sources_asked asked known) (request_of asked) ≡ Some text
      → Prints [] (end (Refused (Unplanned text))) ((modprobe_course words).run held)
  plan-refused text some = by_mode asked.mode refl came.ready
    where
      met : plan_outcome known (loaded_in asked.mode known.loaded) (request_of asked)
          ≡ end (Refused (Unplanned text))
      met = outcome-is known asked (Some text) some

      by_mode : (mode : Mode) → asked.mode ≡ mode → IsReady held asked mode
          → Prints [] (end (Refused (Unplanned text))) ((modprobe_course words).run held)
      by_mode Load m ready =
          let has = ready.2 in
          of-words (loads_plan asked has.map)
          (loads-in asked has.map asked.mode m (is-map asked.system_map has.map has.mapped)
          asked.fits) _ _
          (loaded-not held asked known ready.0 ready.1 ready.2 came.knows _
          (ap (λ mode. plan_outcome known (loaded_in mode known.loaded) (request_of asked)) (sym m)
          ∙ met))
      by_mode DryRun m ready
          = of-words (shows_plan asked) (shows DryRun m (λ fits. refl)) _ _
          (shown-not held asked known came.knows _ met)
      by_mode ShowDepends m ready
          = of-words (shows_plan asked) (shows ShowDepends m (λ fits. refl)) _ _
          (shown-not held asked known came.knows _ met)
      by_mode ResolveAlias m ready = absurd ready
      by_mode (Remove dry_run) m ready = absurd ready

-- ---- what is left

-- acts that print are those of no loads
no-loads : (lines : List ℕ) (outcome : Outcome ⊤) (run : Run ⊤) → Prints lines outcome run
    → AreOfLoads lines None [] run.acts
no-loads lines outcome run p = record {
  before = p.before;
  rest = [];
  before_reads = p.reads;
  rest_reads = refl;
  are = ap (λ (r : Run ⊤). r.acts) p.is ∙ ap (λ x. p.before ++ x) (sym (append-nil (said lines)));
}

pub printed-told : (lines : List ℕ) (outcome : Outcome ⊤) (run : Run ⊤) (shown : Shown)
    → Prints lines outcome run
    → Shows (done (whole_acts run) shown) shown.files (shown.out ++ lines)
    (shown.err ++ outcome_line outcome)
printed-told lines outcome run shown p =
    let h = loads-left lines None [] run.acts run.outcome shown (no-loads lines outcome run p) in
    record {
      files = h.files;
      out = h.out ∙ ap (λ x. shown.out ++ x) (append-nil lines);
      err = h.err ∙ ap (λ (r : Run ⊤). shown.err ++ outcome_line r.outcome) p.is;
    }

pub printed-part : (lines : List ℕ) (outcome : Outcome ⊤) (run : Run ⊤) (shown : Shown)
    (new : World)
    → Prints lines outcome run → Cut run.acts shown new → IsPrintedPart lines shown new
printed-part lines outcome run shown new p c =
    let h
    = loads-part lines None [] run.acts shown c.held c.printed (no-loads lines outcome run p)
    c.part in
    record {
      bytes = h.bytes;
      files = c.files ∙ ap Some h.files;
      out = c.out ∙ ap Some (h.out ∙ ap (λ x. shown.out ++ take h.bytes x) (append-nil lines));
    }

pub plans : (words : List (List ℕ)) (old new : World) (status : ℕ)
    → Carries (modprobe_course words) old new status → Plans words old new status
plans words old new status c = λ shown tells asked is known came.
    let held = shown.files in
    let course = modprobe_course words in
    let run = course.run held in
    record {
      planned = λ other none.
          let lines = lines_asked asked known in
          let p = plan-printed held words asked known is came other none in
          let told = printed-told lines (value tt) run shown p in
          came-to course old new status c shown tells 0 (record shown { out = shown.out ++ lines })
          (record { files = told.files; out = told.out; err = told.err ∙ append-nil shown.err })
          (omega arith) (ap (λ (r : Run ⊤). outcome_status r.outcome) p.is)
          (printed-part lines (value tt) run shown new p);
      refused = λ text some.
          let p = plan-refused held words asked known is came text some in
          let told = printed-told [] (end (Refused (Unplanned text))) run shown p in
          came-to course old new status c shown tells 1 _
          (record { files = told.files; out = told.out ∙ append-nil shown.out; err = told.err })
          (omega arith) (ap (λ (r : Run ⊤). outcome_status r.outcome) p.is)
          (printed-part [] (end (Refused (Unplanned text))) run shown new p);
    }
