-- The choice among paths of one module name, as the code makes it: paths in order, and the first of
-- each name.
-- It belongs to the code: no public meaning rests on it.
use Rattle.std.specs.Prelude.{◌≡◌, ℕ, ◌≤◌, List, [], ◌∷◌, Bool, false, if◌then◌else◌, Option, Some}
use Rattle.std.specs.Prelude.{None, length, filter}
use Rattle.std.specs.List.{list_any, count_by}
use Rattle.std.specs.Str.{bytes_eq}
use Rattle.km_names.specs.Path.{module_name}
use Rattle.mod_tree.specs.declared.chosen.Candidate.{Candidate}
use Rattle.mod_tree.specs.Tree.{rank, is_chosen, name_count}

-- The path of a candidate.
abbrev pub path_of : Candidate → List ℕ
path_of c = c.path.now

-- The name and the rank are the path's.
pub record IsCandidate (search : List (List ℕ)) (c : Candidate) : Type 0 where
  pub name : c.name.items ≡ module_name c.path.now
  pub rank_is : c.rank ≡ rank search c.path.now

-- Whether a name is the same as the one before.
abbrev pub is_name : Option (List ℕ) → List ℕ → Bool
is_name None name = false
is_name (Some previous) name = bytes_eq previous name

-- The paths whose name differs from the name of the path before.
abbrev pub heads : Option (List ℕ) → List (List ℕ) → List (List ℕ)
heads previous [] = []
heads previous (p ∷ ps) =
    if is_name previous (module_name p)
    then heads (Some (module_name p)) ps
    else p ∷ heads (Some (module_name p)) ps

-- The list has exactly the chosen paths of some paths, each once, and as many as there are names.
pub record HasChosen (search paths chosen : List (List ℕ)) : Type 0 where
  pub members : (q : List ℕ)
      → list_any (bytes_eq q) chosen ≡ list_any (bytes_eq q) (filter (is_chosen search paths) paths)
  pub once : (q : List ℕ) → count_by (bytes_eq q) chosen ≤ 1
  pub count : length chosen ≡ name_count paths
