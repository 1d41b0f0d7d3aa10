-- Values in groups, each under a name.
use Rattle.std.specs.Prelude.{ℕ, List, [], map, unwrap_or, Vec}
use Rattle.std.specs.Borrow.{Bor}
use Rattle.std.specs.Map.{lookup}
use Rattle.std.specs.Str.{bytes_eq}
use Rattle.std.specs.declared.alloc.Global.{Global}

-- The values of a name, and none if it has none.
abbrev pub group_of : {X : Type 0} → List (List ℕ × List X) → List ℕ → List X
group_of groups name = unwrap_or (lookup (bytes_eq name) groups) []

-- Vectors by references to names, as lists by names.
abbrev pub shown_groups : {X : Type 0} → List (Bor (List ℕ) × Vec X Global) → List (List ℕ × List X)
shown_groups entries = map (λ e. (e.0.now, e.1.items)) entries
