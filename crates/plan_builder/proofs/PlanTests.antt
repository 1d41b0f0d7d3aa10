-- What the tests of a request say one by one, where all pass.
use Rattle.std.proofs.Common.{◌≡◌, ℕ, List, [], ◌∷◌, map, Option, Some, None, refl}
use Rattle.std.specs.List.{find}
use Rattle.std.specs.Option.{option_map}
use Rattle.km_names.specs.First.{first}
use Rattle.relation_order.specs.Cycle.{cycle}
use Rattle.plan_order.specs.Lists.{among}
use Rattle.unmet_file.specs.declared.kind.LineKind.{LineKind}
use Rattle.unmet_file.specs.declared.kind.LineKind.TheVariants as kinds
use Rattle.plan_builder.specs.declared.request.Request.{Request}
use Rattle.dependency_lines.specs.Modules.{bad_name, name_at}
use Rattle.plan_sources.specs.Sources.{Sources, modules}
use Rattle.planned_modules.specs.Needs.{before}
use Rattle.planned_modules.specs.Members.{planned, is_unfound, is_unknown, all_names}
use Rattle.plan_builder.specs.Requested.{found_for}
use Rattle.plan_builder.specs.Obstacles.{bad_dep_line, unbound_line, not_found, is_path_of, stands}
use Rattle.plan_builder.specs.Obstacles.{is_obstacle, line_of, cycle_obstacle, plan_tests}
use Rattle.plan_builder.specs.Obstacles.{obstacle_of}
use Rattle.dependency_lines.proofs.Finds.{option-none}

first-two : {F : Type 0} (t : Option F) (ts : List (Option F)) → first (t ∷ ts) ≡ None
    → (t ≡ None) × (first ts ≡ None)
first-two None ts none = (refl, none)
first-two (Some f) ts none = absurd (let bad = none in cc)

cycle-none : (f : ℕ → List ℕ) (xs : List ℕ) → cycle_obstacle (map f xs) ≡ None → xs ≡ []
cycle-none f [] none = refl
cycle-none f (x ∷ xs) none = absurd (let bad = none in cc)

-- the tests of what is planned, and that of the dependency lines
pub sound-lines : (s : Sources) (request : Request) → obstacle_of s request ≡ None
    → (bad_name s.maps.dep ≡ None) × (first (plan_tests s (found_for s request)) ≡ None)
unfolding obstacle_of
sound-lines s request none =
    let unfound = option_map not_found (find (is_unfound s) request.names) in
    let unknown
    = option_map not_found
    (find (is_unknown s request.ignore_install) (all_names (found_for s request))) in
    let a
    = first-two (option_map bad_dep_line (bad_name s.maps.dep))
    (unfound ∷ unknown ∷ plan_tests s (found_for s request)) none in
    let b = first-two unfound (unknown ∷ plan_tests s (found_for s request)) a.1 in
    let c = first-two unknown (plan_tests s (found_for s request)) b.1 in
    (option-none bad_dep_line (bad_name s.maps.dep) a.0, c.1)

-- no line of a kind is an obstacle to what is planned
abbrev NoLine : Sources → Request → LineKind → Type 0
NoLine s request kind =
    find (is_obstacle kind (is_path_of (modules s) (planned s (found_for s request))) (stands s))
    s.unmet
    ≡ None

-- there is none, and nothing planned comes before itself
pub record NoLines (s : Sources) (request : Request) : Type 0 where
  pub missing : NoLine s request kinds.Missing
  pub gpl : NoLine s request kinds.Gpl
  pub version : NoLine s request kinds.Version
  pub namespace : NoLine s request kinds.Namespace
  pub acyclic : cycle (among (before s)) (planned s (found_for s request)) ≡ []
  pub double : NoLine s request kinds.Double

pub lines-none : (s : Sources) (request : Request)
    → first (plan_tests s (found_for s request)) ≡ None → NoLines s request
lines-none s request tests =
    let line = line_of s (found_for s request) in
    let order
    = cycle_obstacle
    (map (name_at (modules s)) (cycle (among (before s)) (planned s (found_for s request))))
    in
    let a
    = first-two (line kinds.Missing)
    (line kinds.Gpl ∷ line kinds.Version ∷ line kinds.Namespace ∷ order ∷ line kinds.Double
    ∷ []) tests in
    let b
    = first-two (line kinds.Gpl)
    (line kinds.Version ∷ line kinds.Namespace ∷ order ∷ line kinds.Double ∷ []) a.1 in
    let c
    = first-two (line kinds.Version) (line kinds.Namespace ∷ order ∷ line kinds.Double ∷ []) b.1
    in
    let d = first-two (line kinds.Namespace) (order ∷ line kinds.Double ∷ []) c.1 in
    let e = first-two order (line kinds.Double ∷ []) d.1 in
    let f = first-two (line kinds.Double) [] e.1 in
    record {
      missing = option-none unbound_line _ a.0;
      gpl = option-none unbound_line _ b.0;
      version = option-none unbound_line _ c.0;
      namespace = option-none unbound_line _ d.0;
      acyclic = cycle-none (name_at (modules s)) _ e.0;
      double = option-none unbound_line _ f.0;
    }
