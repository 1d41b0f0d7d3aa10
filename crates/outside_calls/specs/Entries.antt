-- The files that the entries of an ordered map hold, each a path and the bytes there.
use Rattle.std.specs.Prelude.{ℕ, List, map}
use Rattle.std.specs.FinMap.{from_entries}
use Rattle.std.specs.Global.{Vec}
use Rattle.outside_calls.specs.Contents.{Contents}

-- The files by their paths, if each key is a vector of a path's bytes.
abbrev pub files_of : List (Vec ℕ × List ℕ) → Contents
files_of entries = from_entries (map (λ e. (e.0.items, e.1)) entries)
