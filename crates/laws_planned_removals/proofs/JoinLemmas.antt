-- A removal that follows a load reads the modules that the load read, at the same paths.
use Rattle.std.proofs.Common.{◌≡◌, ◌∙◌, ◌==◌, ℕ, Bool, true, false, cond, List, [], ◌∷◌, ◌++◌}
use Rattle.std.proofs.Common.{length, reverse, flat_map, refl, sym, ap, subst}
use Rattle.std.specs.Prelude.{not, Option, Some, None, All, option_and_then, slice_get}
use Rattle.std.specs.FinMap.{find as value_of, get}
use Rattle.std.specs.List.{AllByRecursion, find}
use Rattle.std.specs.Option.{option_map_or}
use Rattle.std.specs.Ordering.{is_eq}
use Rattle.std.specs.Str.{bytes_eq}
use Rattle.std.proofs.lemmas.Bool.{and_parts, or_left}
use Rattle.std.proofs.lemmas.List.Elements.{All-head, All-tail}
use Rattle.std.proofs.lemmas.Map.Text.{is_eq-slice_cmp}
use Rattle.std.proofs.lemmas.Slice.Eq.{bytes_eq-Decides}
use Rattle.km_names.specs.Path.{is_compressed, module_name, path_below}
use Rattle.outside_calls.specs.Contents.{Contents}
use Rattle.index_format.specs.Holds.{Holds}
use Rattle.index_format.specs.Listing.{KeyValue}
use Rattle.index_format.specs.Map.{KeyValues, Value, values_of}
use Rattle.index_format.proofs.TreeLemmas.{R}
use Rattle.index_read.specs.declared.index.Index.{Index}
use Rattle.index_read.specs.Contents.{contents}
use Rattle.mod_tree.specs.DependencyLine.{is_dependency_line, line_path, own_path}
use Rattle.mod_tree.specs.Tree.{is_module_path}
use Rattle.module_facts.specs.declared.module.Module.{Module}
use Rattle.module_facts.specs.Facts.{facts_of, object_facts}
use Rattle.module_facts.specs.Faults.{fact_fault}
use Rattle.name_lookup.specs.declared.indexes.Indexes.{Indexes}
use Rattle.name_lookup.specs.Maps.{has_value}
use Rattle.plan_builder.specs.declared.step.PlanStep.{PlanStep}
use Rattle.plan_builder.specs.declared.step.PlanStep.TheVariants.{Builtin, Insert, Install}
use Rattle.plan_builder.specs.Closed.{IsAtOwnPath, IsOwnPath}
use Rattle.dependency_lines.specs.Modules.{bad_name, first_values, is_line_of, is_well_formed}
use Rattle.dependency_lines.proofs.Finds.{option-none}
use Rattle.dependency_lines.proofs.Firsts.{find-map-firsts}
use Rattle.index_read.specs.Lookups.{text_of_first}
use Rattle.stages_files.specs.IndexFile.{first_text}
use Rattle.stages_files.specs.KernelModules.{path_listed}
use Rattle.km_course.specs.Course.{each_from}
use Rattle.model_loader.specs.Machine.{Machine}
use Rattle.stages_loads.specs.Listed.{loads_listed, loads_listed_at}
use Rattle.stages_loads.specs.Loads.{paths_of}
use Rattle.stages_loads.specs.Modules.{module_at}
use Rattle.command_modprobe.specs.Loaded.{inserted}
use Rattle.laws_closed_plans.specs.Binding.{names_of}
use Rattle.laws_indexed_folder.specs.Steps.{inserted_names}
use Rattle.laws_planned_loads.specs.Files.{AreFileModules, IsFileModule}
use Rattle.laws_planned_loads.proofs.CourseLemmas.{facts-at, have-values}
use Rattle.laws_planned_loads.proofs.FileLemmas.{line-module, plain-path, one-module}
use Rattle.command_remove.specs.Listed.{well_formed_path}
use Rattle.laws_planned_loads.specs.Listed.{AreListedPaths}

-- ---- where no value is bad, each is the dependency line of its name

first-good : (has : List ℕ → Bool) (es : List KeyValue) (q : List ℕ) (v : Value)
    → find (λ m. not (is_line_of has m.0 m.1.1)) es ≡ None → value_of R q es ≡ Some v
    → is_line_of has q v.1 ≡ true
first-good has [] q v none is = cc
first-good has (e ∷ es) q v none is =
    by_line (is_line_of has e.0 e.1.1) refl none (first-good has es q v)
  where
    by_key : (b : Bool) → is_eq (R q e.0) ≡ b → is_line_of has e.0 e.1.1 ≡ true
        → (value_of R q es ≡ Some v → is_line_of has q v.1 ≡ true)
        → cond b (Some e.1) (value_of R q es) ≡ Some v → is_line_of has q v.1 ≡ true
    by_key true same good others found =
        let key : q ≡ e.0 = (bytes_eq-Decides q e.0).0 (sym (is_eq-slice_cmp q e.0) ∙ same) in
        let value : e.1 ≡ v = cc in
        ap (λ n. is_line_of has n v.1) key ∙ ap (λ (w : Value). is_line_of has e.0 w.1) (sym value)
        ∙ good
    by_key false differ good others found = others found

    by_line : (b : Bool) → is_line_of has e.0 e.1.1 ≡ b
        → cond (not b) (Some e) (find (λ m. not (is_line_of has m.0 m.1.1)) es) ≡ None
        → (find (λ m. not (is_line_of has m.0 m.1.1)) es ≡ None → value_of R q es ≡ Some v
        → is_line_of has q v.1 ≡ true)
        → is_line_of has q v.1 ≡ true
    by_line true good rest others = by_key (is_eq (R q e.0)) refl good (others rest) is
    by_line false bad rest others = cc

good-value : (dep : KeyValues) (name : List ℕ) (v : Value) → bad_name dep ≡ None
    → slice_get (values_of dep name) 0 ≡ Some v → is_line_of (has_value dep) name v.1 ≡ true
good-value dep name v none is =
    first-good (has_value dep) (first_values dep) name v
    (option-none (λ (m : KeyValue). m.0)
    (find (λ (m : KeyValue). not (is_line_of (has_value dep) m.0 m.1.1)) (first_values dep))
    none)
    (find-map-firsts dep name ∙ is)

well-formed : (dep : KeyValues) (name : List ℕ) (v : Value) → bad_name dep ≡ None
    → slice_get (values_of dep name) 0 ≡ Some v → is_well_formed dep name ≡ true
well-formed dep name v none is =
    ap (λ o. option_map_or (λ (w : Value). is_line_of (has_value dep) name w.1) o false) is
    ∙ good-value dep name v none is

own-line : (dep : KeyValues) (name path : List ℕ) → bad_name dep ≡ None
    → (own : IsOwnPath dep name path) → line_path own.value.1 ≡ Some path
unfolding line_path
own-line dep name path none own =
    let line
    = and_parts (is_dependency_line own.value.1) _
    (good-value dep name own.value none own.first) in
    ap (λ b. cond b (Some (own_path own.value.1)) None) line.0 ∙ ap Some own.own

text-at : (vs : List Value) (v : Value) → slice_get vs 0 ≡ Some v → text_of_first vs ≡ Some v.1
text-at [] v is = cc
text-at (w ∷ vs) v is = let same : w ≡ v = cc in ap (λ (x : Value). Some x.1) same

some-there : (vs : List Value) → not (length vs == 0) ≡ true
    → (v : Value) × (slice_get vs 0 ≡ Some v)
some-there [] is = cc
some-there (v ∷ vs) is = (v, refl)

-- ---- so a removal finds what a load found

module _ (held : Contents) (folder : List ℕ) (indexes : Indexes)
    (holds : Holds indexes.dep.nodes (contents indexes.dep.nodes))
    (none : bad_name (contents indexes.dep.nodes) ≡ None) where
  abbrev dep : KeyValues
  dep = contents indexes.dep.nodes

  is-formed : (name path : List ℕ) (v : Value) → slice_get (values_of dep name) 0 ≡ Some v
      → path_listed indexes.dep name ≡ Some path → well_formed_path indexes name ≡ Some path
  is-formed name path v first is =
      ap (λ b. cond b (path_listed indexes.dep name) None) (well-formed dep name v none first) ∙ is

  -- at the first path of the dependency line of a listed name
  listed-formed : (name path : List ℕ) → path_listed indexes.dep name ≡ Some path
      → well_formed_path indexes name ≡ Some path
  listed-formed name path is =
      let has : has_value dep name ≡ true =
      have-values held folder indexes.dep dep holds (name ∷ []) (path ∷ []) (is, tt) name
      (or_left (bytes_eq name name) false ((bytes_eq-Decides name name).1 refl)) in
      let v = some-there (values_of dep name) has in
      is-formed name path v.0 v.1 is

  same-path : (name : List ℕ) (found : Option (List ℕ)) → path_listed indexes.dep name ≡ found
      → well_formed_path indexes name ≡ path_listed indexes.dep name
  same-path name (Some path) is = listed-formed name path is ∙ sym is
  same-path name None is =
      ap (λ o. cond (is_well_formed dep name) o None) is ∙ either (is_well_formed dep name) ∙ sym is
    where
      either : (b : Bool) → ◌≡◌ {A = Option (List ℕ)} (cond b None None) None
      either true = refl
      either false = refl

  -- so both load listed modules alike
  pub listed-alike : (machine : Machine) (names : List (List ℕ))
      → loads_listed folder (well_formed_path indexes) machine names
      ≡ loads_listed folder (path_listed indexes.dep) machine names
  listed-alike machine names =
      λ i. each_from
      (λ (before : Machine) name. loads_listed_at folder before name
      (same-path name (path_listed indexes.dep name) refl i)) machine (reverse names)

  -- and at the path of a step
  value-text : (name : List ℕ) (v : Value) → slice_get (values_of dep name) 0 ≡ Some v
      → first_text indexes.dep.nodes name ≡ Some v.1
  unfolding first_text
  value-text name v first
      = ap text_of_first (holds.values name) ∙ text-at (values_of dep name) v first

  own-formed : (name path : List ℕ) → IsOwnPath dep name path
      → well_formed_path indexes name ≡ Some path
  own-formed name path own =
      is-formed name path own.value own.first
      (ap (option_and_then line_path) (value-text name own.value own.first)
      ∙ own-line dep name path none own)

  pub steps-formed : (steps : List PlanStep) → All (IsAtOwnPath dep) steps
      → AreListedPaths (well_formed_path indexes) (inserted_names steps)
      (paths_of (flat_map inserted steps))
  steps-formed [] all = tt
  steps-formed (Insert name path options ∷ steps) all = (
    own-formed name path (All-head (IsAtOwnPath dep) (Insert name path options) steps all),
    steps-formed steps (All-tail (IsAtOwnPath dep) (Insert name path options) steps all),
  )
  steps-formed (Install name command ∷ steps) all
      = steps-formed steps (All-tail (IsAtOwnPath dep) (Install name command) steps all)
  steps-formed (Builtin name ∷ steps) all
      = steps-formed steps (All-tail (IsAtOwnPath dep) (Builtin name) steps all)

-- the paths of steps are those of modules
pub steps-kinds : (indexes : Indexes) → bad_name (contents indexes.dep.nodes) ≡ None
    → (steps : List PlanStep) → All (IsAtOwnPath (contents indexes.dep.nodes)) steps
    → AllByRecursion (λ path. is_module_path path ≡ true) (paths_of (flat_map inserted steps))
steps-kinds indexes none [] all = tt
steps-kinds indexes none (Insert name path options ∷ steps) all =
    let own
    = All-head (IsAtOwnPath (contents indexes.dep.nodes)) (Insert name path options) steps all
    in (
      (line-module own.value.1 path (own-line (contents indexes.dep.nodes) name path none own)).1,
      steps-kinds indexes none steps
          (All-tail (IsAtOwnPath (contents indexes.dep.nodes)) (Insert name path options) steps
          all),
    )
steps-kinds indexes none (Install name command ∷ steps) all =
    steps-kinds indexes none steps
    (All-tail (IsAtOwnPath (contents indexes.dep.nodes)) (Install name command) steps all)
steps-kinds indexes none (Builtin name ∷ steps) all =
    steps-kinds indexes none steps
    (All-tail (IsAtOwnPath (contents indexes.dep.nodes)) (Builtin name) steps all)

-- ---- paths

pub formed-append : (indexes : Indexes) (names others paths more : List (List ℕ))
    → AreListedPaths (well_formed_path indexes) names paths
    → AreListedPaths (well_formed_path indexes) others more
    → AreListedPaths (well_formed_path indexes) (names ++ others) (paths ++ more)
formed-append indexes [] others [] more are rest = rest
formed-append indexes [] others (path ∷ paths) more are rest = absurd are
formed-append indexes (name ∷ names) others [] more are rest = absurd are
formed-append indexes (name ∷ names) others (path ∷ paths) more are rest =
    (are.0, formed-append indexes names others paths more are.1 rest)

pub formed-moved : (from to : Indexes) (names paths : List (List ℕ)) → to.dep ≡ from.dep
    → AreListedPaths (well_formed_path from) names paths
    → AreListedPaths (well_formed_path to) names paths
formed-moved from to [] [] same are = tt
formed-moved from to [] (path ∷ paths) same are = absurd are
formed-moved from to (name ∷ names) [] same are = absurd are
formed-moved from to (name ∷ names) (path ∷ paths) same are = (
  ap (λ (x : Index). cond (is_well_formed (contents x.nodes) name) (path_listed x name) None) same
      ∙ are.0,
  formed-moved from to names paths same are.1,
)

pub formed-one : (indexes : Indexes) (names paths others : List (List ℕ))
    → AreListedPaths (well_formed_path indexes) names paths
    → AreListedPaths (well_formed_path indexes) names others
    → paths ≡ others
formed-one indexes [] [] [] are same = refl
formed-one indexes [] [] (path ∷ others) are same = absurd same
formed-one indexes [] (path ∷ paths) others are same = absurd are
formed-one indexes (name ∷ names) [] others are same = absurd are
formed-one indexes (name ∷ names) (path ∷ paths) [] are same = absurd same
formed-one indexes (name ∷ names) (path ∷ paths) (other ∷ others) are same =
    let both : ◌≡◌ {A = Option (List ℕ)} (Some path) (Some other) = sym are.0 ∙ same.0 in
    let here : path ≡ other = cc in
    ap (λ p. p ∷ paths) here
    ∙ ap (λ ps. other ∷ ps) (formed-one indexes names paths others are.1 same.1)

-- ---- modules of files

same-module : (path bytes other : List ℕ) → bytes ≡ other
    → (a : fact_fault path bytes ≡ None) (b : fact_fault path other ≡ None)
    → module_at path bytes a ≡ module_at path other b
same-module path bytes other same a =
    subst (λ bs. (b : fact_fault path bs ≡ None) → module_at path bytes a ≡ module_at path bs b)
    same (λ b. one-module path bytes a b)

file-one : (held : Contents) (folder path : List ℕ) (m n : Module) → IsFileModule held folder path m
    → IsFileModule held folder path n → m ≡ n
file-one held folder path m n a b =
    let both : ◌≡◌ {A = Option (List ℕ)} (Some a.bytes) (Some b.bytes) = sym a.there ∙ b.there in
    let same : a.bytes ≡ b.bytes = cc in
    a.read ∙ same-module path a.bytes b.bytes same a.passed b.passed ∙ sym b.read

pub files-one : (held : Contents) (folder : List ℕ) (paths : List (List ℕ)) (ms ns : List Module)
    → AreFileModules held folder paths ms → AreFileModules held folder paths ns → ms ≡ ns
files-one held folder [] [] [] are same = refl
files-one held folder [] [] (n ∷ ns) are same = absurd same
files-one held folder [] (m ∷ ms) ns are same = absurd are
files-one held folder (path ∷ paths) [] ns are same = absurd are
files-one held folder (path ∷ paths) (m ∷ ms) [] are same = absurd same
files-one held folder (path ∷ paths) (m ∷ ms) (n ∷ ns) are same =
    ap (λ x. x ∷ ms) (file-one held folder path m n are.0 same.0)
    ∙ ap (λ xs. n ∷ xs) (files-one held folder paths ms ns are.1 same.1)

pub files-append : (held : Contents) (folder : List ℕ) (paths more : List (List ℕ))
    (ms ns : List Module)
    → AreFileModules held folder paths ms → AreFileModules held folder more ns
    → AreFileModules held folder (paths ++ more) (ms ++ ns)
files-append held folder [] more [] ns are rest = rest
files-append held folder [] more (m ∷ ms) ns are rest = absurd are
files-append held folder (path ∷ paths) more [] ns are rest = absurd are
files-append held folder (path ∷ paths) more (m ∷ ms) ns are rest =
    (are.0, files-append held folder paths more ms ns are.1 rest)

pub files-stay : (held later : Contents) (folder : List ℕ)
    → ((path : List ℕ) → is_module_path path ≡ true → is_compressed path ≡ false
    → get later (path_below folder path) ≡ get held (path_below folder path))
    → (paths : List (List ℕ)) (ms : List Module) → AreFileModules held folder paths ms
    → AreFileModules later folder paths ms
files-stay held later folder same [] [] are = tt
files-stay held later folder same [] (m ∷ ms) are = absurd are
files-stay held later folder same (path ∷ paths) [] are = absurd are
files-stay held later folder same (path ∷ paths) (m ∷ ms) are =
    let is = are.0 in (
      record {
        kind = is.kind;
        bytes = is.bytes;
        there = same path is.kind (plain-path path is.bytes is.passed) ∙ is.there;
        small = is.small;
        passed = is.passed;
        read = is.read;
      },
      files-stay held later folder same paths ms are.1,
    )

-- the modules of steps have the names of the steps
facts-name : (path bytes : List ℕ) → (facts_of path bytes).name ≡ module_name path
unfolding object_facts
facts-name path bytes = refl

pub steps-named : (held : Contents) (folder : List ℕ) (lines : KeyValues) (steps : List PlanStep)
    (plan : List Module)
    → All (IsAtOwnPath lines) steps
    → AreFileModules held folder (paths_of (flat_map inserted steps)) plan
    → names_of plan ≡ inserted_names steps
steps-named held folder lines [] [] all are = refl
steps-named held folder lines [] (m ∷ plan) all are = absurd are
steps-named held folder lines (Insert name path options ∷ steps) [] all are = absurd are
steps-named held folder lines (Insert name path options ∷ steps) (m ∷ plan) all are =
    let own = All-head (IsAtOwnPath lines) (Insert name path options) steps all in
    let is = are.0 in
    let named : m.facts.name ≡ name =
    ap (λ (x : Module). x.facts.name) is.read ∙ ap (λ f. f.name) (facts-at path is.bytes is.passed)
    ∙ facts-name path is.bytes ∙ own.named in
    ap (λ n. n ∷ names_of plan) named
    ∙ ap (λ ns. name ∷ ns)
    (steps-named held folder lines steps plan
    (All-tail (IsAtOwnPath lines) (Insert name path options) steps all) are.1)
steps-named held folder lines (Install name command ∷ steps) plan all are =
    steps-named held folder lines steps plan
    (All-tail (IsAtOwnPath lines) (Install name command) steps all) are
steps-named held folder lines (Builtin name ∷ steps) plan all are =
    steps-named held folder lines steps plan (All-tail (IsAtOwnPath lines) (Builtin name) steps all)
    are
