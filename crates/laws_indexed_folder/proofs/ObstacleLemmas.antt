-- Over the dependency lines of a tree no request stops for a bad one.
use Rattle.std.proofs.Common.{◌≡◌, ◌∙◌, ◌<◌, ℕ, suc, Bool, true, false, ◌||◌, List, [], ◌∷◌, length}
use Rattle.std.proofs.Common.{map, get_or, Option, Some, None, option_map, refl, sym, ap, inl, inr}
use Rattle.std.proofs.Common.{arith}
use Rattle.std.specs.Prelude.{◌==◌, not, slice_get}
use Rattle.std.specs.List.{AllByRecursion, find, list_all, list_any}
use Rattle.std.proofs.lemmas.Bool.{and_from}
use Rattle.std.proofs.lemmas.Slice.Eq.{bytes_eq-Decides}
use Rattle.km_names.specs.First.{first}
use Rattle.km_names.specs.Path.{module_name}
use Rattle.index_format.specs.Map.{Value, KeyValues, values_of}
use Rattle.index_format.specs.Listing.{KeyValue}
use Rattle.mod_tree.specs.DependencyLine.{line_needs, own_path}
use Rattle.module_facts.specs.declared.facts.Facts.{Facts}
use Rattle.symbol_binding.specs.declared.unbound.Unbound.{Unbound}
use Rattle.kernel_exports.specs.declared.kernel.Kernel.{Kernel}
use Rattle.name_lookup.specs.Maps.{has_value}
use Rattle.name_lookup.specs.declared.found.Found.{Found}
use Rattle.plan_builder.specs.Requested.{found_for}
use Rattle.dependency_lines.specs.Modules.{bad_name, first_values, is_line_of, module_at}
use Rattle.dependency_lines.specs.Modules.{modules_of, name_at}
use Rattle.plan_sources.specs.Sources.{Sources}
use Rattle.planned_modules.specs.Members.{all_names, is_unfound, is_unknown}
use Rattle.plan_builder.specs.Obstacles.{PlanObstacle, bad_dep_line, unbound_line, cycle_obstacle}
use Rattle.plan_builder.specs.Obstacles.{not_found, obstacle_of, plan_tests}
use Rattle.dependency_lines.proofs.Firsts.{any-by, modules-are}
use Rattle.dependency_lines.proofs.Keys.{module-first}
use Rattle.laws_closed_plans.specs.Members.{Member}
use Rattle.laws_closed_plans.proofs.ListLemmas.{find-none, none_passes}
use Rattle.laws_indexed_folder.specs.Binding.{StandsAsIndexed}
use Rattle.laws_indexed_folder.specs.Standing.{LinesAreNoObstacle}
use Rattle.laws_indexed_folder.proofs.NamedLemmas.{lines-are-of-tree}

any-none : {X : Type 0} (p : X → Bool) (xs : List X) (d : X)
    → ((i : ℕ) → i < length xs → p (get_or xs i d) ≡ false) → list_any p xs ≡ false
any-none p [] d each = refl
any-none p (x ∷ xs) d each =
    ap (λ b. b || list_any p xs) (each 0 (omega arith))
    ∙ any-none p xs d (λ i less. each (suc i) (omega (arith, less)))

-- ---- each value is the dependency line of its name

module _ (tree : List Facts) (kernel : Kernel) (dep : KeyValues)
    (indexed : StandsAsIndexed tree kernel dep) where
  has-one : (f : Facts) → Member f tree → has_value dep f.name ≡ true
  has-one f in' =
      let one = (lines-are-of-tree tree kernel dep indexed).1 f in' in
      ap (λ (vs : List Value). not (length vs == 0)) one.1

  has-needed : (paths : List (List ℕ))
      → ((path : List ℕ) → Member path paths
      → (other : Facts) × Member other tree × (other.path ≡ path)
      × (other.name ≡ module_name path))
      → list_all (has_value dep) (map module_name paths) ≡ true
  has-needed [] each = refl
  has-needed (path ∷ paths) each =
      let other = each path (inl refl) in
      and_from _ _ (ap (has_value dep) (sym other.3) ∙ has-one other.0 other.1)
      (has-needed paths (λ p in'. each p (inr in')))

  line-good : (name : List ℕ) (v : Value) → slice_get (values_of dep name) 0 ≡ Some v
      → is_line_of (has_value dep) name v.1 ≡ true
  line-good name v at =
      let line = (lines-are-of-tree tree kernel dep indexed).0 name v at in
      and_from _ _ line.is_line
      (and_from _ _ ((bytes_eq-Decides (module_name (own_path v.1)) name).1 line.own_name)
      (has-needed (line_needs v.1) line.others))

  abbrev bad : KeyValue → Bool
  bad m = not (is_line_of (has_value dep) m.0 m.1.1)

  none-bad : list_any bad (first_values dep) ≡ false
  none-bad =
      sym (any-by bad (first_values dep)) ∙ ap (list_any bad) (modules-are dep)
      ∙ any-none bad (modules_of dep) ([], (0, []))
      (λ x less. ap not
      (line-good (name_at (modules_of dep) x) (module_at (modules_of dep) x).1
      (module-first dep x less)))

  pub no-bad-name : bad_name dep ≡ None
  no-bad-name =
      ap (option_map (λ (m : KeyValue). m.0))
      (find-none bad (first_values dep)
      (λ m in'. none_passes bad m (first_values dep) none-bad in'))

-- ---- no other test is for a dependency line

abbrev OtherThan : List ℕ → Option PlanObstacle → Type 0
OtherThan name o = o ≡ Some (bad_dep_line name) → ⊥

first-other : (name : List ℕ) (tests : List (Option PlanObstacle))
    → AllByRecursion (OtherThan name) tests → OtherThan name (first tests)
first-other name [] all = λ is. cc
first-other name (None ∷ tests) all = first-other name tests all.1
first-other name (Some o ∷ tests) all = all.0

unfound-other : (name : List ℕ) (o : Option (List ℕ)) → OtherThan name (option_map not_found o)
unfound-other name None = λ is. cc
unfound-other name (Some n) = λ is. cc

as-other : (name : List ℕ) (o : Option Unbound) → OtherThan name (option_map unbound_line o)
as-other name None = λ is. cc
as-other name (Some line) = λ is. cc

cycle-other : (name : List ℕ) (names : List (List ℕ)) → OtherThan name (cycle_obstacle names)
cycle-other name [] = λ is. cc
cycle-other name (n ∷ names) = λ is. cc

plan-other : (name : List ℕ) (s : Sources) (founds : List Found)
    → AllByRecursion (OtherThan name) (plan_tests s founds)
plan-other name s founds = (
  as-other name _,
  (
    as-other name _,
    (
      as-other name _,
      (
        as-other name _,
        (
          cycle-other name _,
          (as-other name _, tt),
        ),
      ),
    ),
  ),
)

pub lines-are-no-obstacle : LinesAreNoObstacle
unfolding obstacle_of
lines-are-no-obstacle tree kernel s request name indexed is =
    let bad : OtherThan name (option_map bad_dep_line (bad_name s.maps.dep)) =
    λ at. let never : None ≡ Some (bad_dep_line name)
    = sym (ap (option_map bad_dep_line) (no-bad-name tree kernel s.maps.dep indexed))
    ∙ at in cc in
    first-other name
    (option_map bad_dep_line (bad_name s.maps.dep)
    ∷ option_map not_found (find (is_unfound s) request.names)
    ∷ option_map not_found
    (find (is_unknown s request.ignore_install) (all_names (found_for s request)))
    ∷ plan_tests s (found_for s request)) (
      bad,
      (
        unfound-other name (find (is_unfound s) request.names),
        (
          unfound-other name
              (find (is_unknown s request.ignore_install) (all_names (found_for s request))),
          plan-other name s (found_for s request),
        ),
      ),
    ) is
