-- The headline, by the laws on the courses of loads and what a call that carries a course did.
use Rattle.std.proofs.Common.{◌≡◌, ◌∙◌, ℕ, ◌≤◌, Bool, true, List, [], ◌++◌, refl, sym, ap, subst}
use Rattle.std.proofs.Common.{arith}
use Rattle.std.specs.Prelude.{Some, Ok, IfErr, ⊤}
use Rattle.std.specs.List.{list_all}
use Rattle.outside_calls.specs.Contents.{Contents}
use Rattle.km_course.specs.Carries.{Carries, outcome_line, outcome_status, whole_acts}
use Rattle.km_course.specs.Course.{Act, Outcome, Run, if_understood}
use Rattle.km_course.specs.Lines.{end_line}
use Rattle.km_course.specs.World.{World, Shown, done}
use Rattle.km_course.specs.declared.end.End.TheVariants.{Refused}
use Rattle.km_course.specs.declared.refusal.Refusal.TheVariants.{LoadRefused, ParamsRefused}
use Rattle.kmod_words.specs.declared.modprobe.ModprobeWords.{ModprobeWords}
use Rattle.kmod_words.specs.Modprobe.{modprobe_request}
use Rattle.module_facts.specs.declared.module.Module.{Module}
use Rattle.load_fault.specs.FaultText.{load_fault_text}
use Rattle.model_loader.specs.Machine.{Machine, new_machine}
use Rattle.model_loader.specs.Sound.{IsSound}
use Rattle.param_apply.specs.FaultText.{param_fault_text}
use Rattle.laws_closed_plans.specs.Loads.{IsPlaceFault, load_all, unless_refused}
use Rattle.laws_closed_plans.proofs.LoadLemmas.{load-append}
use Rattle.stages_loads.specs.declared.load.Insertion.{Insertion}
use Rattle.stages_loads.specs.Loads.{ShownImage, loads_all}
use Rattle.command_modprobe.specs.Loaded.{images_asked, loads_plan}
use Rattle.command_modprobe.specs.Modprobe.{modprobe_requested, modprobe_course}
use Rattle.command_modprobe.proofs.CourseSteps.{is-map, loads-in}
use Rattle.command_modprobe.specs.Planned.{plan_lines}
use Rattle.laws_planned_loads.specs.Acts.{is_reading, said}
use Rattle.laws_planned_loads.specs.Courses.{CourseBinds, IsLoadingCourse, Loading, ended}
use Rattle.laws_planned_loads.specs.Courses.{inputs_of}
use Rattle.laws_planned_loads.specs.Loads.{AreMachineLoads, IsEndOf, WentIn, all_in, modules_of}
use Rattle.laws_planned_loads.specs.Loads.{refused, unwritable}
use Rattle.laws_planned_loads.proofs.CourseLemmas.{courses-bind, plan-placed}
use Rattle.laws_planned_loads.proofs.EndLemmas.{fault-placed, plan-refused}
use Rattle.laws_planned_loads.proofs.LoadLemmas.{loads-are}
use Rattle.laws_planned_loads.proofs.WholeLemmas.{courses-load}
use Rattle.kmod_cli.specs.Headline.{ComesTo, Headline, IsEndOfPlan, IsFirstPart, IsIndexedLoad}
use Rattle.kmod_cli.specs.Headline.{all_loaded, folder_asked, images_shown, no_place, printed}
use Rattle.kmod_cli.specs.Headline.{told_after, unwritten, with_images}
use Rattle.kmod_cli.proofs.ActsLeft.{Cut, Shows}
use Rattle.kmod_cli.proofs.CameLemmas.{came-to}
use Rattle.kmod_cli.proofs.LoadsLeft.{AreOfLoads, Doing, doings, doings-acts, doings-shown}
use Rattle.kmod_cli.proofs.LoadsLeft.{loads-left, loads-part, shown_of}

-- the course of words that ask for a load
load-course : (held : Contents) (words : List (List ℕ)) (asked : ModprobeWords) (l : Loading)
    → modprobe_request words ≡ Some asked → (s : IsIndexedLoad held asked l)
    → modprobe_course words ≡ loads_plan asked s.machine.map
load-course held words asked l is s =
    let has = s.machine in
    ap (if_understood modprobe_requested) is
    ∙ loads-in asked has.map asked.mode s.mode (is-map asked.system_map has.map has.mapped)
    asked.fits

abbrev Bound : Contents → ModprobeWords → Loading → Type 0
Bound held asked l = CourseBinds held (folder_asked asked) l

-- ---- how far the loads of a plan go

-- what a plan comes to, and that a run is of these loads
record Comes (asked : ModprobeWords) (l : Loading) (listed plan : List Module) (run : Run ⊤) : Type
    0 where
  loads : ComesTo asked.params l.inserts l.listed listed plan
  acts : AreOfLoads (plan_lines (folder_asked asked) l.steps) asked.image
      (doings (folder_asked asked) asked.params loads.went) run.acts
  low : loads.status ≤ 2
  status_is : outcome_status run.outcome ≡ loads.status
  line_is : outcome_line run.outcome ≡ loads.err_line

-- how loads end, by the machine and the options
record Ends (params : Bool) (machine : Machine) (went : List WentIn) (left : List Module)
    (rest : List Act) (o : Outcome Machine) : Type 0 where
  status : ℕ
  err_line : List ℕ
  ends : IsEndOfPlan params machine went left status err_line
  rest_reads : list_all is_reading rest ≡ true
  low : status ≤ 2
  status_is : outcome_status (ended o) ≡ status
  line_is : outcome_line (ended o) ≡ err_line

ends-so : {folder : List ℕ} {params : Bool} {middle : Machine} {went : List WentIn}
    {later : List Insertion} {left : List Module} {rest : List Act} {o : Outcome Machine}
    (machine : Machine) (plan : List Module)
    → plan ≡ modules_of went ++ left → load_all machine (modules_of went) ≡ Ok middle
    → IfErr (load_all machine plan) IsPlaceFault
    → IsEndOf folder params middle went later left rest o → Ends params middle went left rest o
ends-so machine plan are loaded placed (all_in went all) = record {
  status = 0;
  err_line = [];
  ends = all_loaded went all;
  rest_reads = refl;
  low = omega arith;
  status_is = refl;
  line_is = refl;
}
ends-so {middle = middle} machine plan are loaded placed
    (refused went all one inserts m ms fault is)
    =
    record {
      status = 1;
      err_line = end_line (Refused (LoadRefused m.facts.name (load_fault_text fault)));
      ends =
          no_place went all m ms fault is
          (fault-placed _ fault
          (ap (load_all machine) are
          ∙ plan-refused machine middle (modules_of went) ms m fault loaded is) placed);
      rest_reads = refl;
      low = omega arith;
      status_is = refl;
      line_is = refl;
    }
ends-so machine plan are loaded placed (unwritable went all last asks inserts ms fault is) =
    record {
      status = 1;
      err_line = end_line (Refused (ParamsRefused last.entry.loaded.name (param_fault_text fault)));
      ends = unwritten went all last asks ms fault is;
      rest_reads = refl;
      low = omega arith;
      status_is = refl;
      line_is = refl;
    }

module _ (held : Contents) (asked : ModprobeWords) (l : Loading) (b : Bound held asked l)
    (run : Run ⊤) (course : IsLoadingCourse held (folder_asked asked) (images_asked asked) l run)
  where
    -- after a first part of the plan the machine is sound
    part-sound : (before after : List Module) → b.plan ≡ before ++ after → (machine : Machine)
        → load_all l.listed before ≡ Ok machine → IsSound machine (b.listed ++ before)
    part-sound before after split machine loads =
        b.binds.sound before after split machine
        (load-append (new_machine l.kernel l.region) b.listed before
        ∙ ap (unless_refused (λ next. load_all next before)) b.listed_load ∙ loads)

    comes : IfErr (load_all l.listed b.plan) IsPlaceFault
        → AreMachineLoads (folder_asked asked) (images_asked asked) l.listed l.inserts b.plan
        ((loads_all (folder_asked asked) (images_asked asked) l.listed l.inserts).run held)
        → Comes asked l b.listed b.plan run
    comes placed h =
        let ends = ends-so l.listed b.plan h.modules_are h.loaded placed h.ends in
        record {
          loads = record {
            went = h.went;
            left = h.left;
            modules = h.modules_are;
            later = h.later;
            in_steps = h.inserts_are;
            machine = h.middle;
            loads = h.loaded;
            sound = part-sound (modules_of h.went) h.left h.modules_are h.middle h.loaded;
            newer = h.newer;
            status = ends.status;
            err_line = ends.err_line;
            ends = ends.ends;
          };
          acts = record {
            before = course.before;
            rest = h.rest;
            before_reads = course.reads;
            rest_reads = ends.rest_reads;
            are =
                course.acts
                ∙ ap (λ acts. course.before
                ++ (said (plan_lines (folder_asked asked) l.steps) ++ acts))
                (h.acts
                ∙ ap (λ acts. acts ++ h.rest)
                (sym (doings-acts (folder_asked asked) (images_asked asked) h.went)));
          };
          low = ends.low;
          status_is = ap outcome_status course.outcome ∙ ends.status_is;
          line_is = ap outcome_line course.outcome ∙ ends.line_is;
        }

-- ---- what is left

module _ (asked : ModprobeWords) (l : Loading) (listed plan : List Module) (run : Run ⊤)
    (h : Comes asked l listed plan run) (shown : Shown) where
  -- what was done for the loads shows these images
  abbrev loads_doings : List Doing
  loads_doings = doings (folder_asked asked) asked.params h.loads.went

  abbrev shown_images : List ShownImage
  shown_images = images_shown asked h.loads.went

  are-shown : shown_of loads_doings ≡ shown_images
  are-shown = doings-shown (folder_asked asked) asked.params h.loads.went

  -- what is known after the whole of it
  whole-told : Shows (done (whole_acts run) shown)
      (with_images asked.image shown_images shown.files) (shown.out ++ printed asked l shown_images)
      (shown.err ++ h.loads.err_line)
  whole-told =
      let all
      = loads-left (plan_lines (folder_asked asked) l.steps) asked.image loads_doings run.acts
      run.outcome shown h.acts in
      subst (λ ss. Shows (done (whole_acts run) shown) (with_images asked.image ss shown.files)
      (shown.out ++ printed asked l ss) (shown.err ++ h.loads.err_line)) are-shown
      (record {
        files = all.files;
        out = all.out;
        err = all.err ∙ ap (λ text. shown.err ++ text) h.line_is;
      })

  first-part : (new : World) → Cut run.acts shown new → IsFirstPart asked l shown_images shown new
  first-part new c =
      let p
      = loads-part (plan_lines (folder_asked asked) l.steps) asked.image loads_doings run.acts
      shown c.held c.printed h.acts c.part in
      subst (λ ss. IsFirstPart asked l ss shown new) are-shown
      (record {
        images = p.puts;
        bytes = p.bytes;
        files = c.files ∙ ap Some p.files;
        out = c.out ∙ ap Some p.out;
        image_before = p.image_before;
        lines_before = p.lines_before;
      })

pub headline : (words : List (List ℕ)) (old new : World) (status : ℕ)
    → Carries (modprobe_course words) old new status → Headline words old new status
headline words old new status c = λ shown tells asked is l s.
    let held = shown.files in
    let folder = folder_asked asked in
    let run = (modprobe_course words).run held in
    let b : Bound held asked l = courses-bind held (inputs_of asked) l s.stands s.came in
    let course : IsLoadingCourse held folder (images_asked asked) l run =
    subst (λ c. IsLoadingCourse held folder (images_asked asked) l (c.run held))
    (sym (load-course held words asked l is s))
    (courses-load held asked l s.machine s.came) in
    let h = comes held asked l b run course
    (plan-placed l.kernel l.region b.listed b.plan l.listed b.binds b.listed_load)
    (loads-are folder (images_asked asked) l.inserts b.plan l.listed held b.plan_files) in
    record {
      listed = b.listed;
      listed_paths = b.listed_paths;
      listed_lines = b.listed_lines;
      listed_files = b.listed_files;
      listed_load = b.listed_load;
      plan = b.plan;
      plan_files = b.plan_files;
      loads = h.loads;
      call =
          came-to (modprobe_course words) old new status c shown tells h.loads.status
          (told_after asked l (images_shown asked h.loads.went) h.loads.err_line shown)
          (whole-told asked l b.listed b.plan run h shown) h.low h.status_is
          (first-part asked l b.listed b.plan run h shown new);
    }
