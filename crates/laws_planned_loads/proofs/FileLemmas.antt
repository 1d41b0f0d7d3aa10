-- Files of modules: what reading one results in, and that images leave them as they were.
use Rattle.std.proofs.Common.{◌≡◌, ◌∙◌, ◌-◌, ◌≤◌, ◌==◌, ℕ, Bool, true, false, ◌||◌, cond, List, []}
use Rattle.std.proofs.Common.{◌∷◌, ◌++◌, length, take, reverse, None, refl, sym, ap, subst, arith}
use Rattle.std.proofs.Common.{append_assoc}
use Rattle.std.specs.Prelude.{Option, Some, codes, flat_map, nat_eq, nat_lt}
use Rattle.std.specs.List.{ends_with, list_any}
use Rattle.std.specs.FinMap.{get, insert, get-insert}
use Rattle.std.specs.Str.{bytes_eq}
use Rattle.std.proofs.lemmas.Bool.{and_parts, le-ltb, ltb-false}
use Rattle.std.proofs.lemmas.Bool.Decides.{Decides-eqb}
use Rattle.std.proofs.lemmas.Cmp.{nat_list_cmp_total}
use Rattle.std.proofs.lemmas.List.{reverse-append}
use Rattle.std.proofs.lemmas.Map.Text.{is_eq-slice_cmp}
use Rattle.std.proofs.lemmas.Slice.Eq.{bytes_eq-Decides, ends_is}
use Rattle.km_names.specs.Limit.{file_limit}
use Rattle.km_names.specs.Path.{is_compressed, path_below, without_end_slashes}
use Rattle.outside_calls.specs.Contents.{Contents}
use Rattle.elf_sections.specs.Shape.{fault_if}
use Rattle.module_facts.specs.declared.fault.ModuleFault.{ModuleFault}
use Rattle.module_facts.specs.declared.fault.ModuleFault.TheVariants.{Compressed as CompressedFile}
use Rattle.module_facts.specs.declared.module.Module.{Module}
use Rattle.module_facts.specs.Faults.{fact_fault, module_tests}
use Rattle.mod_tree.specs.DependencyLine.{is_dependency_line, is_line_path, line_path, own_path}
use Rattle.mod_tree.specs.Tree.{is_module_path}
use Rattle.km_course.specs.Course.{Stage, after, ◌>>=◌, ends, given, read_outcome, reads}
use Rattle.km_course.specs.Course.{when◌then◌else◌}
use Rattle.km_course.specs.Course.Act.{read}
use Rattle.km_course.specs.Course.Outcome.{value, end}
use Rattle.km_course.specs.declared.end.End.{End}
use Rattle.km_course.specs.declared.end.End.TheVariants.{NoFile, Refused, TooLarge}
use Rattle.km_course.specs.declared.refusal.Refusal.TheVariants.{Compressed}
use Rattle.laws_closed_plans.proofs.ListLemmas.{first-none}
use Rattle.stages_loads.specs.Modules.{file_outcome, module_at, module_outcome, reads_module}
use Rattle.stages_loads.proofs.ModuleSteps.{checked, module_at-same}
use Rattle.laws_planned_loads.specs.Files.{AreFileModules, IsFileModule}
use Rattle.stages_loads.specs.Loads.{ShownImage}
use Rattle.laws_planned_loads.specs.Loads.{image_acts}
use Rattle.laws_planned_loads.proofs.RunLemmas.{goes-on, joined, run-given, run-read, run-then}
use Rattle.laws_planned_loads.proofs.RunLemmas.{run_of}

-- ---- paths

not-failed : {F : Type 0} (b : Bool) (fault : F) → fault_if b fault ≡ None → b ≡ false
not-failed true fault is = cc
not-failed false fault is = refl

-- the path of a valid module isn't that of a compressed one
pub plain-path : (path bytes : List ℕ) → fact_fault path bytes ≡ None → is_compressed path ≡ false
unfolding fact_fault module_tests
plain-path path bytes passed =
    not-failed (is_compressed path) CompressedFile
    (first-none (fault_if (is_compressed path) CompressedFile) _ passed).0

left-holds : (a b : Bool) → (a || b) ≡ true → b ≡ false → a ≡ true
left-holds true b is none = refl
left-holds false b is none = cc

-- it ends in `.ko`
pub ends-ko : (path : List ℕ) → is_module_path path ≡ true → is_compressed path ≡ false
    → path ≡ take (length path - 3) path ++ codes ".ko"
ends-ko path kind plain =
    (ends_is Decides-eqb path (codes ".ko") (ends_with nat_eq path (codes ".ko")) refl).0
    (left-holds (ends_with nat_eq path (codes ".ko")) (is_compressed path) kind plain)

abbrev pub first_of_list : List ℕ → ℕ
first_of_list [] = 0
first_of_list (b ∷ bs) = b

abbrev pub last_of : List ℕ → ℕ
last_of bs = first_of_list (reverse bs)

below-last : (folder front : List ℕ) (text : List ℕ)
    → path_below folder (front ++ text) ≡ (without_end_slashes folder ++ 47 ∷ front) ++ text
below-last folder front text = sym (append_assoc (without_end_slashes folder) (47 ∷ front) text)

pub last-ko : (front : List ℕ) → last_of (front ++ codes ".ko") ≡ 111
last-ko front = ap first_of_list (reverse-append front (codes ".ko"))

pub last-img : (front : List ℕ) → last_of (front ++ codes ".img") ≡ 103
last-img front = ap first_of_list (reverse-append front (codes ".img"))

-- so no image is put there
pub apart : (folder path images name : List ℕ) → is_module_path path ≡ true
    → is_compressed path ≡ false → path_below folder path ≡ path_below images (name ++ codes ".img")
    → ⊥
apart folder path images name kind plain same =
    let front = take (length path - 3) path in
    let one : last_of (path_below folder path) ≡ 111 =
    ap (λ p. last_of (path_below folder p)) (ends-ko path kind plain)
    ∙ ap last_of (below-last folder front (codes ".ko"))
    ∙ last-ko (without_end_slashes folder ++ 47 ∷ front) in
    let other : last_of (path_below images (name ++ codes ".img")) ≡ 103 =
    ap last_of (below-last images name (codes ".img"))
    ∙ last-img (without_end_slashes images ++ 47 ∷ name) in
    let numbers : 111 ≡ 103 = sym one ∙ ap last_of same ∙ other in
    absurd (omega (arith, numbers))

pub false-unless : (b : Bool) → (b ≡ true → ⊥) → b ≡ false
false-unless true never = absurd (never refl)
false-unless false never = refl

-- a file is there as before, once another was put
pub other-file : (files : Contents) (path place image : List ℕ) → (path ≡ place → ⊥)
    → get (insert files place image) path ≡ get files path
other-file files path place image differ =
    get-insert nat_list_cmp_total files place image path
    ∙ ap (λ b. cond b (Some image) (get files path))
    (is_eq-slice_cmp path place
    ∙ false-unless (bytes_eq path place)
    (λ is. differ ((bytes_eq-Decides path place).0 is)))

-- ---- files after a load

images-leave : (files : Contents) (folder path : List ℕ) (images : Option (List ℕ))
    (ss : List ShownImage)
    → is_module_path path ≡ true → is_compressed path ≡ false
    → get (after (flat_map (image_acts images) ss) files) (path_below folder path)
    ≡ get files (path_below folder path)
images-leave files folder path images [] kind plain = refl
images-leave files folder path None (s ∷ ss) kind plain =
    images-leave files folder path None ss kind plain
images-leave files folder path (Some images) (s ∷ ss) kind plain =
    images-leave (insert files (path_below images (s.name ++ codes ".img")) s.image) folder path
    (Some images) ss kind plain
    ∙ other-file files (path_below folder path) (path_below images (s.name ++ codes ".img")) s.image
    (apart folder path images s.name kind plain)

still-file : (files : Contents) (folder path : List ℕ) (m : Module) (images : Option (List ℕ))
    (ss : List ShownImage)
    → IsFileModule files folder path m
    → IsFileModule (after (flat_map (image_acts images) ss) files) folder path m
still-file files folder path m images ss is = record {
  kind = is.kind;
  bytes = is.bytes;
  there
      = images-leave files folder path images ss is.kind (plain-path path is.bytes is.passed)
      ∙ is.there;
  small = is.small;
  passed = is.passed;
  read = is.read;
}

pub still-files : (files : Contents) (folder : List ℕ) (paths : List (List ℕ)) (ms : List Module)
    (images : Option (List ℕ)) (ss : List ShownImage)
    → AreFileModules files folder paths ms
    → AreFileModules (after (flat_map (image_acts images) ss) files) folder paths ms
still-files files folder [] [] images ss are = tt
still-files files folder [] (m ∷ ms) images ss are = absurd are
still-files files folder (path ∷ paths) [] images ss are = absurd are
still-files files folder (path ∷ paths) (m ∷ ms) images ss are = (
  still-file files folder path m images ss are.0,
  still-files files folder paths ms images ss are.1,
)

-- ---- a module that is read

file-read : (path bytes : List ℕ) (found : Option (List ℕ)) → found ≡ Some bytes
    → length bytes ≤ file_limit → read_outcome (end (NoFile path)) path found ≡ value bytes
file-read path bytes found is small =
    ap (read_outcome (end (NoFile path)) path) is
    ∙ ap (λ b. cond b (end (TooLarge path)) (value bytes))
    (le-ltb file_limit (length bytes) small)

pub one-module : (path bytes : List ℕ) (a b : fact_fault path bytes ≡ None)
    → module_at path bytes a ≡ module_at path bytes b
unfolding module_at
one-module path bytes a b = module_at-same path bytes (module_at path bytes b) a refl refl

valid-outcome : (file path bytes : List ℕ) (fault : Option ModuleFault)
    (is : fact_fault path bytes ≡ fault) (passed : fact_fault path bytes ≡ None)
    → module_outcome file path bytes fault is ≡ value (module_at path bytes passed)
unfolding module_outcome
valid-outcome file path bytes None is passed = ap value (one-module path bytes is passed)
valid-outcome file path bytes (Some fault) is passed =
    let wrong : ◌≡◌ {A = Option ModuleFault} (Some fault) None = sym is ∙ passed in cc

-- the stage of a file that isn't compressed
abbrev reads_plain : List ℕ → List ℕ → Stage Module
reads_plain folder path = reads (path_below folder path) >>= checked (path_below folder path) path

-- reading the module of a file
pub reads-module : (files : Contents) (folder path : List ℕ) (m : Module)
    → IsFileModule files folder path m
    → (reads_module folder path).run files ≡ run_of (read (path_below folder path) ∷ []) (value m)
reads-module files folder path m is =
    let file = path_below folder path in
    let there : (reads file).run files ≡ run_of (read file ∷ []) (value is.bytes) =
    run-read (end (NoFile file)) file files
    ∙ ap (run_of (read file ∷ [])) (file-read file is.bytes (get files file) is.there is.small) in
    let valid : file_outcome file path is.bytes ≡ value m =
    valid-outcome file path is.bytes (fact_fault path is.bytes) refl is.passed
    ∙ ap value (sym is.read) in
    ap (λ b. (when b then ends (Refused (Compressed file)) else reads_plain folder path).run files)
    (plain-path path is.bytes is.passed)
    ∙ run-then (reads file) (checked file path) files (read file ∷ []) is.bytes there
    ∙ ap (joined (read file ∷ [])) (run-given (file_outcome file path is.bytes) files)
    ∙ ap (λ o. run_of (read file ∷ []) o) valid

-- what was read is the module of a file
pub file-there : (path bytes : List ℕ) (found : Option (List ℕ))
    → read_outcome (end (NoFile path)) path found ≡ value bytes
    → (found ≡ Some bytes) × (length bytes ≤ file_limit)
file-there path bytes None is = cc
file-there path bytes (Some there) is = by_size (nat_lt file_limit (length there)) refl is
  where
    by_size : (b : Bool) → nat_lt file_limit (length there) ≡ b
        → cond b (end (TooLarge path)) (value there) ≡ value bytes
        → (Some there ≡ Some bytes) × (length bytes ≤ file_limit)
    by_size true large is = cc
    by_size false small is =
        let same : there ≡ bytes = cc in (
          ap Some same,
          subst (λ bs. length bs ≤ file_limit) same
              (ltb-false file_limit (length there) small),
        )

outcome-valid : (file path bytes : List ℕ) (fault : Option ModuleFault)
    (is : fact_fault path bytes ≡ fault) (m : Module)
    → module_outcome file path bytes fault is ≡ value m
    → (passed : fact_fault path bytes ≡ None) × (m ≡ module_at path bytes passed)
unfolding module_outcome
outcome-valid file path bytes None is m given' = (is, cc)
outcome-valid file path bytes (Some fault) is m given' = cc

-- a stage that read the module of a file, and what it did
pub record HasReadModule (files : Contents) (folder path : List ℕ) (m : Module) : Type 0 where
  pub file : IsFileModule files folder path m
  pub acts : ((reads_module folder path).run files).acts ≡ read (path_below folder path) ∷ []

-- what isn't ended at once
pub past-test : {X : Type 0} (test : Bool) (e : End) (other : Stage X) (files : Contents) (x : X)
    → ((when test then ends e else other).run files).outcome ≡ value x
    → (other.run files).outcome ≡ value x
unfolding given
past-test true e other files x is = cc
past-test false e other files x is = is

plain-read : (files : Contents) (folder path : List ℕ) (m : Module) → is_module_path path ≡ true
    → ((reads_plain folder path).run files).outcome ≡ value m → IsFileModule files folder path m
plain-read files folder path m kind is =
    let file = path_below folder path in
    let h = goes-on (reads file) (checked file path) files m is in
    let bytes : List ℕ = h.mid in
    let found : read_outcome (end (NoFile file)) file (get files file) ≡ value bytes
    = ap (λ r. r.outcome) (sym (run-read (end (NoFile file)) file files)) ∙ h.first in
    let there = file-there file bytes (get files file) found in
    let valid : file_outcome file path bytes ≡ value m =
    ap (λ r. r.outcome)
    (sym (run-given (file_outcome file path bytes)
    (after ((reads file).run files).acts files)))
    ∙ h.rest in
    let good = outcome-valid file path bytes (fact_fault path bytes) refl m valid in
    record {
      kind = kind;
      bytes = bytes;
      there = there.0;
      small = there.1;
      passed = good.0;
      read = good.1;
    }

pub module-read : (files : Contents) (folder path : List ℕ) (m : Module)
    → is_module_path path ≡ true → ((reads_module folder path).run files).outcome ≡ value m
    → HasReadModule files folder path m
module-read files folder path m kind is =
    let told = Refused (Compressed (path_below folder path)) in
    let made : IsFileModule files folder path m
    = plain-read files folder path m kind
    (past-test (is_compressed path) told (reads_plain folder path) files m is) in
    record { file = made; acts = ap (λ r. r.acts) (reads-module files folder path m made) }

-- ---- dependency lines

line-found : (text path : List ℕ) → line_path text ≡ Some path
    → (is_dependency_line text ≡ true) × (own_path text ≡ path)
unfolding line_path
line-found text path is = by_test (is_dependency_line text) refl is
  where
    by_test : (b : Bool) → is_dependency_line text ≡ b
        → cond b (Some (own_path text)) None ≡ Some path
        → (is_dependency_line text ≡ true) × (own_path text ≡ path)
    by_test true holds is = (holds, cc)
    by_test false holds is = cc

-- the first path of a dependency line is one of a module
pub line-module : (text path : List ℕ) → line_path text ≡ Some path
    → (own_path text ≡ path) × (is_module_path path ≡ true)
unfolding is_dependency_line
line-module text path is =
    let h = line-found text path is in
    let whole = (and_parts (list_any (λ b. b == 58) text) _ h.0).1 in
    let own = (and_parts (is_line_path (own_path text)) _ whole).0 in (
      h.1,
      subst (λ p. is_module_path p ≡ true) h.1
          (and_parts (is_module_path (own_path text)) _ own).0,
    )
