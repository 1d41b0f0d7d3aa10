-- The course of the loads of listed modules, by the machines of these loads.
use Rattle.std.proofs.Common.{◌≡◌, ◌∙◌, ℕ, List, [], ◌∷◌, ◌++◌, None, true, refl, sym, ap, subst}
use Rattle.std.specs.Prelude.{Option, Some, Result, Ok, Err, option_and_then, reverse}
use Rattle.km_names.specs.Path.{path_below}
use Rattle.outside_calls.specs.Contents.{Contents}
use Rattle.index_read.specs.declared.index.Index.{Index}
use Rattle.module_facts.specs.declared.module.Module.{Module}
use Rattle.mod_tree.specs.DependencyLine.{line_path}
use Rattle.mod_tree.specs.Tree.{is_module_path}
use Rattle.load_fault.specs.declared.fault.LoadFault.{LoadFault}
use Rattle.load_fault.specs.FaultText.{load_fault_text}
use Rattle.model_loader.specs.Machine.{Machine}
use Rattle.model_loader.specs.Step.{step}
use Rattle.km_course.specs.Course.{Act, Run, after, given, each_from}
use Rattle.km_course.specs.Course.Act.{read}
use Rattle.km_course.specs.Course.Outcome.{value, end}
use Rattle.km_course.specs.declared.end.End.TheVariants.{Refused}
use Rattle.km_course.specs.declared.refusal.Refusal.TheVariants.{ListedRefused}
use Rattle.stages_files.specs.IndexFile.{first_text}
use Rattle.stages_files.specs.KernelModules.{path_listed}
use Rattle.stages_loads.specs.declared.load.Cause.{Cause}
use Rattle.stages_loads.specs.declared.load.Cause.TheVariants.{Listed}
use Rattle.stages_loads.specs.Listed.{listed_outcome, loads_listed_one}
use Rattle.stages_loads.specs.Loads.{load_outcome}
use Rattle.stages_loads.specs.Modules.{reads_module}
use Rattle.stages_loads.proofs.ListedSteps.{listed_found, listed_read}
use Rattle.stages_loads.proofs.LoadSteps.{loaded_ok}
use Rattle.laws_closed_plans.specs.Loads.{load_all, unless_refused}
use Rattle.laws_planned_loads.specs.Files.{AreFileModules, IsFileModule}
use Rattle.laws_planned_loads.specs.Listed.{AreListedLoads, AreListedPaths, ListedAreOfMachine}
use Rattle.laws_planned_loads.specs.Listed.{ListedGoIn, ListedLoadsAreOfMachine}
use Rattle.laws_planned_loads.proofs.FileLemmas.{line-module, module-read, reads-module}
use Rattle.laws_planned_loads.proofs.RefusedLemmas.{load-on, load-stops, none-loaded, one-fault}
use Rattle.laws_planned_loads.proofs.RefusedLemmas.{refused-first, refused-later}
use Rattle.laws_planned_loads.proofs.RunLemmas.{goes-on, joined, run-ends, run-given, run-then}
use Rattle.laws_planned_loads.proofs.RunLemmas.{run_of}

-- ---- one listed module

pub stepped : (cause : Cause) (name : List ℕ) (r : Result Machine LoadFault) (next : Machine)
    → load_outcome cause name r ≡ value next → r ≡ Ok next
unfolding load_outcome
stepped cause name (Ok other) next is = cc
stepped cause name (Err fault) next is = cc

pub path-given : (name : List ℕ) (o : Option (List ℕ)) (path : List ℕ)
    → listed_outcome name o ≡ value path → o ≡ Some path
path-given name None path is = cc
path-given name (Some other) path is = cc

text-given : (o : Option (List ℕ)) (path : List ℕ) → option_and_then line_path o ≡ Some path
    → (text : List ℕ) × (o ≡ Some text) × (line_path text ≡ Some path)
text-given None path is = cc
text-given (Some text) path is = (text, refl, is)

-- a path that is listed is the first of a dependency line
pub listed-line : (index : Index) (name path : List ℕ) → path_listed index name ≡ Some path
    → (text : List ℕ) × (first_text index.nodes name ≡ Some text) × (line_path text ≡ Some path)
listed-line index name path is = text-given (first_text index.nodes name) path is

record OneGoesIn (files : Contents) (folder : List ℕ) (index : Index) (machine : Machine)
    (name : List ℕ) (next : Machine) : Type 0 where
  path : List ℕ
  m : Module
  found : path_listed index name ≡ Some path
  file : IsFileModule files folder path m
  took : step machine m ≡ Ok next
  acts : ((loads_listed_one folder (path_listed index) machine name).run files).acts
      ≡ read (path_below folder path) ∷ []

one-goes-in : (files : Contents) (folder : List ℕ) (index : Index) (machine : Machine)
    (name : List ℕ) (next : Machine)
    → ((loads_listed_one folder (path_listed index) machine name).run files).outcome ≡ value next
    → OneGoesIn files folder index machine name next
unfolding given
one-goes-in files folder index machine name next is =
    let h
    = goes-on (given (listed_outcome name (path_listed index name)))
    (listed_found folder machine) files next is in
    let path : List ℕ = h.mid in
    let found : path_listed index name ≡ Some path
    = path-given name (path_listed index name) path h.first in
    let line = listed-line index name path found in
    let kind : is_module_path path ≡ true = (line-module line.0 path line.2).1 in
    let g = goes-on (reads_module folder path) (listed_read machine) files next h.rest in
    let m : Module = g.mid in
    let file = module-read files folder path m kind g.first in
    record {
      path = path;
      m = m;
      found = found;
      file = file.file;
      took = stepped Listed m.facts.name (step machine m) next g.rest;
      acts = h.acts ∙ g.acts ∙ ap (λ done. done ++ []) file.acts;
    }

-- ---- all of them

-- the modules of names in the order of their loads
pub listed-go-in : (folder : List ℕ) (index : Index) (names : List (List ℕ)) (machine : Machine)
    (files : Contents) (last : Machine)
    → ((each_from (loads_listed_one folder (path_listed index)) machine names).run files).outcome
    ≡ value last
    → ListedGoIn files folder index machine names last
    ((each_from (loads_listed_one folder (path_listed index)) machine names).run files)
unfolding given
listed-go-in folder index [] machine files last is = record {
  paths = [];
  listed = [];
  found = tt;
  files = tt;
  loaded = let same : machine ≡ last = cc in ap Ok same;
  acts = refl;
}
listed-go-in folder index (name ∷ names) machine files last is =
    let g
    = goes-on (loads_listed_one folder (path_listed index) machine name)
    (λ next. each_from (loads_listed_one folder (path_listed index)) next names) files last is in
    let next : Machine = g.mid in
    let one = one-goes-in files folder index machine name next g.first in
    let rest :
    ((each_from (loads_listed_one folder (path_listed index)) next names).run files).outcome
    ≡ value last
    =
    subst (λ done. ((each_from (loads_listed_one folder (path_listed index)) next names).run
    (after done files)).outcome
    ≡ value last) one.acts g.rest in
    let others = listed-go-in folder index names next files last rest in
    let same : ((each_from (loads_listed_one folder (path_listed index)) next names).run
    (after ((loads_listed_one folder (path_listed index) machine name).run files).acts
    files)).acts
    ≡ ((each_from (loads_listed_one folder (path_listed index)) next names).run files).acts
    =
    ap (λ done. ((each_from (loads_listed_one folder (path_listed index)) next names).run
    (after done files)).acts) one.acts in
    record {
      paths = one.path ∷ others.paths;
      listed = one.m ∷ others.listed;
      found = (one.found, others.found);
      files = (one.file, others.files);
      loaded = ap (unless_refused (λ other. load_all other others.listed)) one.took ∙ others.loaded;
      acts =
          g.acts
          ∙ ap (λ done. done
          ++ ((each_from (loads_listed_one folder (path_listed index)) next names).run
          (after ((loads_listed_one folder (path_listed index) machine name).run files).acts
          files)).acts) one.acts
          ∙ ap (λ done. read (path_below folder one.path) ∷ done) (same ∙ others.acts);
    }

pub listed-are-of-machine : ListedAreOfMachine
listed-are-of-machine held folder index machine names after' is =
    listed-go-in folder index (reverse names) machine held after' is

-- ---- the other way: what listed modules come to, by the machine

one-run : (files : Contents) (folder : List ℕ) (index : Index) (machine : Machine)
    (name path : List ℕ) (m : Module)
    → path_listed index name ≡ Some path → IsFileModule files folder path m
    → (loads_listed_one folder (path_listed index) machine name).run files
    ≡ run_of (read (path_below folder path) ∷ [])
    (load_outcome Listed m.facts.name (step machine m))
one-run files folder index machine name path m found is =
    let acts = read (path_below folder path) ∷ [] in
    run-then (given (listed_outcome name (path_listed index name))) (listed_found folder machine)
    files [] path
    (run-given (listed_outcome name (path_listed index name)) files
    ∙ ap (λ o. run_of [] (listed_outcome name o)) found)
    ∙ run-then (reads_module folder path) (listed_read machine) files acts m
    (reads-module files folder path m is)
    ∙ ap (joined acts) (run-given (load_outcome Listed m.facts.name (step machine m)) files)

loaded-not : (name : List ℕ) (fault : LoadFault) (r : Result Machine LoadFault) → r ≡ Err fault
    → load_outcome Listed name r ≡ end (Refused (ListedRefused name (load_fault_text fault)))
unfolding load_outcome
loaded-not name fault r is = ap (load_outcome Listed name) is

none-left : (files : Contents) (folder : List ℕ) (index : Index) (machine : Machine)
    → AreListedLoads machine []
    ((each_from (loads_listed_one folder (path_listed index)) machine []).run files)
unfolding given
none-left files folder index machine = record {
  loaded = λ after' is. let same : machine ≡ after' = cc in ap (λ x. value x) same;
  stopped = λ fault is. absurd (none-loaded machine fault is);
}

listed-more : (machine next : Machine) (m : Module) (ms : List Module) (acts : List Act)
    (run : Run Machine)
    → step machine m ≡ Ok next → AreListedLoads next ms run
    → AreListedLoads machine (m ∷ ms) (joined acts run)
listed-more machine next m ms acts run took are =
    let all = load-on machine next m ms took in
    record {
      loaded = λ after' is. are.loaded after' (sym all ∙ is);
      stopped = λ fault is.
          let h = are.stopped fault (sym all ∙ is) in
          record { first = refused-later machine next m ms fault took h.first; tells = h.tells };
    }

listed-none : (machine : Machine) (m : Module) (ms : List Module) (acts : List Act)
    (fault : LoadFault)
    → step machine m ≡ Err fault
    → AreListedLoads machine (m ∷ ms)
    (run_of acts (end (Refused (ListedRefused m.facts.name (load_fault_text fault)))))
listed-none machine m ms acts fault refused =
    let all = load-stops machine m ms fault refused in
    record {
      loaded = λ after' is. absurd (none-loaded after' fault (sym is ∙ all));
      stopped = λ other is.
          let same : fault ≡ other = one-fault (load_all machine (m ∷ ms)) fault other all is in
          record {
            first = refused-first machine m ms other (refused ∙ ap Err same);
            tells = ap (λ f. end (Refused (ListedRefused m.facts.name (load_fault_text f)))) same;
          };
    }

listed-follow : (folder : List ℕ) (index : Index) (names paths : List (List ℕ)) (ms : List Module)
    (machine : Machine) (files : Contents)
    → AreListedPaths (path_listed index) names paths → AreFileModules files folder paths ms
    → AreListedLoads machine ms
    ((each_from (loads_listed_one folder (path_listed index)) machine names).run files)
listed-follow folder index [] [] [] machine files found are = none-left files folder index machine
listed-follow folder index [] [] (m ∷ ms) machine files found are = absurd are
listed-follow folder index [] (path ∷ paths) ms machine files found are = absurd found
listed-follow folder index (name ∷ names) [] ms machine files found are = absurd found
listed-follow folder index (name ∷ names) (path ∷ paths) [] machine files found are = absurd are
listed-follow folder index (name ∷ names) (path ∷ paths) (m ∷ ms) machine files found are =
    by_step (step machine m) refl
    (λ next. listed-follow folder index names paths ms next files found.1 are.1)
  where
    by_step : (r : Result Machine LoadFault) → step machine m ≡ r
        → ((next : Machine)
        → AreListedLoads next ms
        ((each_from (loads_listed_one folder (path_listed index)) next names).run files))
        → AreListedLoads machine (m ∷ ms)
        ((each_from (loads_listed_one folder (path_listed index)) machine (name ∷ names)).run files)
    by_step (Ok next) took rest =
        let acts = read (path_below folder path) ∷ [] in
        let one : (loads_listed_one folder (path_listed index) machine name).run files
        ≡ run_of acts (value next)
        =
        one-run files folder index machine name path m found.0 are.0
        ∙ ap (run_of acts) (loaded_ok Listed m.facts.name (step machine m) next took) in
        subst (AreListedLoads machine (m ∷ ms))
        (sym (run-then (loads_listed_one folder (path_listed index) machine name)
        (λ next. each_from
        (loads_listed_one folder (path_listed index)) next names) files acts next one))
        (listed-more machine next m ms acts _ took (rest next))
    by_step (Err fault) refused rest =
        let acts = read (path_below folder path) ∷ [] in
        let told = Refused (ListedRefused m.facts.name (load_fault_text fault)) in
        let one : (loads_listed_one folder (path_listed index) machine name).run files
        ≡ run_of acts (end told) =
        one-run files folder index machine name path m found.0 are.0
        ∙ ap (run_of acts) (loaded-not m.facts.name fault (step machine m) refused) in
        subst (AreListedLoads machine (m ∷ ms))
        (sym (run-ends (loads_listed_one folder (path_listed index) machine name)
        (λ next. each_from
        (loads_listed_one folder (path_listed index)) next names) files acts told one))
        (listed-none machine m ms acts fault refused)

pub listed-loads-are-of-machine : ListedLoadsAreOfMachine
listed-loads-are-of-machine held folder index machine names paths ms found are =
    listed-follow folder index (reverse names) paths ms machine held found are
