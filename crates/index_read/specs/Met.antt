-- The values that a lookup met, without those that it met before at the same place.
-- It belongs to the code: no public meaning rests on it.
use Rattle.std.specs.Prelude.{◌≡◌, ℕ, List, ◌++◌, map, All}
use Rattle.std.specs.List.{IsAmong}
use Rattle.std.specs.HashMap as hash
use Rattle.index_format.specs.Map.{Value}
use Rattle.index_nodes.specs.declared.run.Run.{Run}
use Rattle.index_nodes.specs.Runs.{IsRunOf, run_values}
use Rattle.name_table.specs.FirstSeen.{first_seen}
use Rattle.index_read.specs.Contents.{by_priority}
use Rattle.index_read.specs.declared.met.MetValue.{MetValue}
use Rattle.index_read.specs.declared.met.MetValues.{MetValues}

-- The names that values give: by rising priority, each once.
abbrev pub names_of : List Value → List (List ℕ)
names_of vs = first_seen (map (λ v. v.1) (by_priority vs))

-- Some values give the names that others give, whatever comes after both.
abbrev pub StandFor : List Value → List Value → Type 0
StandFor few all = (more : List Value) → names_of (few ++ more) ≡ names_of (all ++ more)

-- The values that were met, and those that are kept of them.
abbrev pub met_values : List MetValue → List Value
met_values vs = map (λ v. (v.priority, v.text.now)) vs

abbrev pub kept : MetValues → List Value
kept m = met_values m.found.items

-- The run is one of the file, and each of its values is among these.
pub record IsMetRun (b : List ℕ) (vs : List Value) (r : Run) : Type 0 where
  pub run : IsRunOf b r
  pub among : All (IsAmong vs) (run_values b r)

-- Each run that was met is one.
abbrev pub HasRuns : List ℕ → MetValues → Type 0
HasRuns b m = All (IsMetRun b (kept m)) (hash.values m.runs)
