-- Values that follow one another in a file. kmod's index format 2.1, "node".
use Rattle.std.specs.Prelude.{◌≡◌, ℕ, zero, suc, ◌<◌, ◌≤◌, true, List, length, drop}
use Rattle.index_format.specs.Map.{Value}
use Rattle.index_format.specs.Node.{after_text}
use Rattle.index_format.specs.Check.{whole_values}
use Rattle.index_format.specs.Nodes.{values_from}
use Rattle.index_nodes.specs.declared.place.Place.{Place}
use Rattle.index_nodes.specs.declared.run.Run.{Run}

-- The bytes after this many values.
unfoldable pub after_values : ℕ → List ℕ → List ℕ
after_values zero bytes = bytes
after_values (suc n) bytes = after_values n (after_text (drop 4 bytes))

-- Where a place is in its file, and where a run begins and ends.
abbrev pub start_of : Place → ℕ
start_of p = p.start

abbrev pub run_start : Run → ℕ
run_start r = r.start

abbrev pub run_end : Run → ℕ
run_end r = r.end

-- The values of a run.
abbrev pub run_values : List ℕ → Run → List Value
run_values b r = values_from b r.start r.count

-- The run is one of the file: it has a value, all of its values are whole, and the last one ends
-- where the run does.
pub record IsRunOf (b : List ℕ) (r : Run) : Type 0 where
  pub some : 0 < r.count
  pub whole : whole_values r.count (drop r.start b) ≡ true
  pub within : r.end ≤ length b
  pub end : drop r.end b ≡ after_values r.count (drop r.start b)
