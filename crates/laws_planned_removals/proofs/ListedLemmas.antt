-- The listed modules that a removal takes, by the machines of their loads.
use Rattle.std.proofs.Common.{◌≡◌, ◌∙◌, ℕ, Bool, true, false, List, [], ◌∷◌, ◌++◌, cond, ap, subst}
use Rattle.std.specs.Prelude.{Option, Some, None, Ok, option_and_then, reverse}
use Rattle.km_names.specs.Path.{is_compressed, path_below}
use Rattle.outside_calls.specs.Contents.{Contents}
use Rattle.index_read.specs.Contents.{contents}
use Rattle.module_facts.specs.declared.module.Module.{Module}
use Rattle.mod_tree.specs.DependencyLine.{line_path}
use Rattle.mod_tree.specs.Tree.{is_module_path}
use Rattle.model_loader.specs.Machine.{Machine}
use Rattle.model_loader.specs.Step.{step}
use Rattle.name_lookup.specs.declared.indexes.Indexes.{Indexes}
use Rattle.dependency_lines.specs.Modules.{is_well_formed}
use Rattle.km_course.specs.Course.{after, given, each_from, ends, reads, ◌>>=◌}
use Rattle.km_course.specs.Course.Act.{read}
use Rattle.km_course.specs.Course.Outcome.{value, end}
use Rattle.km_course.specs.declared.end.End.TheVariants.{NoFile, Refused}
use Rattle.km_course.specs.declared.refusal.Refusal.TheVariants.{Compressed}
use Rattle.stages_files.specs.IndexFile.{first_text}
use Rattle.stages_files.specs.KernelModules.{path_listed}
use Rattle.stages_loads.specs.declared.load.Cause.TheVariants.{Listed}
use Rattle.stages_loads.specs.Listed.{listed_outcome, loads_listed_at}
use Rattle.stages_loads.specs.Modules.{reads_module}
use Rattle.stages_loads.proofs.ListedSteps.{listed_found, listed_read}
use Rattle.stages_loads.proofs.ModuleSteps.{checked}
use Rattle.laws_closed_plans.specs.Loads.{load_all, unless_refused}
use Rattle.laws_planned_loads.specs.Files.{IsFileModule}
use Rattle.laws_planned_loads.proofs.FileLemmas.{line-module, module-read}
use Rattle.laws_planned_loads.proofs.RunLemmas.{OnlyReads, goes-on, reads-each, reads-file}
use Rattle.laws_planned_loads.proofs.RunLemmas.{reads-given, reads-then, reads-when}
use Rattle.stages_loads.specs.Listed.{loads_listed, loads_listed_one}
use Rattle.command_remove.specs.Listed.{well_formed_path}
use Rattle.laws_planned_removals.specs.Listed.{AreTaken, ListedAreTaken}
use Rattle.laws_planned_loads.proofs.ListedLemmas.{path-given, stepped}

-- ---- they only read

pub only-module : (folder path : List ℕ) → OnlyReads (reads_module folder path)
only-module folder path =
    let file = path_below folder path in
    reads-when (is_compressed path) (ends (Refused (Compressed file)))
    (reads file >>= checked file path)
    (reads-given _)
    (reads-then (reads file) (checked file path) (reads-file (end (NoFile file)) file)
    (λ bytes. reads-given _))

only-at : (folder : List ℕ) (machine : Machine) (name : List ℕ) (found : Option (List ℕ))
    → OnlyReads (loads_listed_at folder machine name found)
only-at folder machine name found =
    reads-then (given (listed_outcome name found)) (listed_found folder machine) (reads-given _) (λ
    path.
    reads-then (reads_module folder path) (listed_read machine) (only-module folder path)
    (λ m. reads-given _))

pub only-taken : (folder : List ℕ) (indexes : Indexes) (machine : Machine) (names : List (List ℕ))
    → OnlyReads (loads_listed folder (well_formed_path indexes) machine names)
only-taken folder indexes machine names =
    reads-each (loads_listed_one folder (well_formed_path indexes))
    (λ before name. only-at folder before name (well_formed_path indexes name)) machine
    (reverse names)

-- ---- the modules

line-of : (o : Option (List ℕ)) (path : List ℕ) → option_and_then line_path o ≡ Some path
    → (text : List ℕ) × (line_path text ≡ Some path)
line-of None path is = cc
line-of (Some text) path is = (text, is)

where-well_formed : (b : Bool) (o : Option (List ℕ)) (path : List ℕ) → cond b o None ≡ Some path
    → o ≡ Some path
where-well_formed true o path is = is
where-well_formed false o path is = cc

record OneTaken (files : Contents) (folder : List ℕ) (indexes : Indexes) (machine : Machine)
    (name : List ℕ) (next : Machine) : Type 0 where
  path : List ℕ
  m : Module
  found : well_formed_path indexes name ≡ Some path
  file : IsFileModule files folder path m
  took : step machine m ≡ Ok next
  acts : ((loads_listed_one folder (well_formed_path indexes) machine name).run files).acts
      ≡ read (path_below folder path) ∷ []

one-taken : (files : Contents) (folder : List ℕ) (indexes : Indexes) (machine : Machine)
    (name : List ℕ) (next : Machine)
    → ((loads_listed_one folder (well_formed_path indexes) machine name).run files).outcome
    ≡ value next
    → OneTaken files folder indexes machine name next
unfolding given
one-taken files folder indexes machine name next is =
    let h
    = goes-on (given (listed_outcome name (well_formed_path indexes name)))
    (listed_found folder machine) files next is in
    let path : List ℕ = h.mid in
    let found : well_formed_path indexes name ≡ Some path
    = path-given name (well_formed_path indexes name) path h.first in
    let line
    = line-of (first_text indexes.dep.nodes name) path
    (where-well_formed (is_well_formed (contents indexes.dep.nodes) name)
    (path_listed indexes.dep name) path found) in
    let kind : is_module_path path ≡ true = (line-module line.0 path line.1).1 in
    let g = goes-on (reads_module folder path) (listed_read machine) files next h.rest in
    let m : Module = g.mid in
    let file = module-read files folder path m kind g.first in
    record {
      path = path;
      m = m;
      found = found;
      file = file.file;
      took = stepped Listed m.facts.name (step machine m) next g.rest;
      acts = h.acts ∙ g.acts ∙ ap (λ done. done ++ []) file.acts;
    }

all-taken : (folder : List ℕ) (indexes : Indexes) (names : List (List ℕ)) (machine : Machine)
    (files : Contents) (last : Machine)
    → ((each_from
    (loads_listed_one folder (well_formed_path indexes)) machine names).run files).outcome
    ≡ value last
    → AreTaken files folder indexes machine names last
unfolding given
all-taken folder indexes [] machine files last is = record {
  paths = [];
  modules = [];
  found = tt;
  files = tt;
  loaded = let same : machine ≡ last = cc in ap Ok same;
}
all-taken folder indexes (name ∷ names) machine files last is =
    let g
    = goes-on (loads_listed_one folder (well_formed_path indexes) machine name)
    (λ next. each_from
    (loads_listed_one folder (well_formed_path indexes)) next names) files last is in
    let next : Machine = g.mid in
    let one = one-taken files folder indexes machine name next g.first in
    let rest :
    ((each_from (loads_listed_one folder (well_formed_path indexes)) next names).run files).outcome
    ≡ value last
    =
    subst (λ done. ((each_from (loads_listed_one folder (well_formed_path indexes)) next names).run
    (after done files)).outcome
    ≡ value last) one.acts g.rest in
    let others = all-taken folder indexes names next files last rest in
    record {
      paths = one.path ∷ others.paths;
      modules = one.m ∷ others.modules;
      found = (one.found, others.found);
      files = (one.file, others.files);
      loaded
          = ap (unless_refused (λ other. load_all other others.modules)) one.took ∙ others.loaded;
    }

pub listed-are-taken : ListedAreTaken
listed-are-taken held folder indexes machine names after' is =
    all-taken folder indexes (reverse names) machine held after' is
