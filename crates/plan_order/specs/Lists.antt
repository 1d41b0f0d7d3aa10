-- What modules need, as lists of numbers.
use Rattle.std.specs.Prelude.{ℕ, List, true, ◌≡◌, map, length}
use Rattle.std.specs.Global.{Vec}
use Rattle.relation_order.specs.Sets.{Relation, has, marked, successors}
use Rattle.relation_order.specs.Search.{Inside}
use Rattle.plan_order.specs.Plan.{planned}
use Rattle.plan_order.specs.declared.needs.Planned.{Planned}

-- The items of the lists.
abbrev pub items_of : List (Vec ℕ) → List (List ℕ)
items_of lists = map (λ (v : Vec ℕ). v.items) lists

-- Each module goes to the modules in its list.
abbrev pub among : (ℕ → List ℕ) → Relation
among before x y = has (before x) y

-- Exactly what is planned is marked, and for each planned module the lists have what it needs. All
-- lists have only modules below a number.
pub record IsPlanned (count : ℕ) (before : ℕ → List ℕ) (set : List ℕ) (after : ℕ → List ℕ)
    (requests : List (List ℕ)) (p : Planned) : Type 0 where
  pub marks : marked p.marks.items ≡ planned (among before) set after requests
  pub comes_before : (x : ℕ) → has (planned (among before) set after requests) x ≡ true
      → successors p.before x ≡ before x
  pub wanted_after : (x : ℕ) → has (planned (among before) set after requests) x ≡ true
      → successors p.after x ≡ after x
  pub marks_long : length p.marks.items ≡ count
  pub before_long : length p.before ≡ count
  pub after_long : length p.after ≡ count
  pub before_inside : Inside count p.before
  pub after_inside : Inside count p.after

-- There are needs such that this is what is planned.
abbrev pub AreKnown : ℕ → List ℕ → List (List ℕ) → Planned → Type 0
AreKnown count set requests p =
    (before : ℕ → List ℕ) × ((after : ℕ → List ℕ) × IsPlanned count before set after requests p)
