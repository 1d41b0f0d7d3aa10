-- The map of the built-in aliases, and its index. modprobe.d(5), "alias"; kmod's index format 2.1.
use Rattle.std.specs.Prelude.{ℕ, ◌≤◌, List, length}
use Rattle.km_names.specs.Limit.{file_limit}
use Rattle.index_format.specs.File.{file}
use Rattle.index_format.specs.Holds.{Holds}
use Rattle.index_format.specs.Map.{values_of}
use Rattle.index_format.specs.Listing.{under, IsByPriority}
use Rattle.builtin_index.specs.Fields.{fields_of}
use Rattle.builtin_index.specs.Aliases.{alias_values, alias_map}

-- Each key leads to the modules of exactly the fields whose alias has it as its normal form. They
-- are ordered by the places of the modules, and the values of one module are in the order of the
-- file.
abbrev pub AreByPlace : Type 0
AreByPlace =
    (bytes key : List ℕ)
    → IsByPriority (under key (alias_values (fields_of bytes)))
    (values_of (alias_map bytes) key)

-- The file written from the map holds exactly the map, if neither file is longer than files may be.
abbrev pub AreHeld : Type 0
AreHeld =
    (bytes : List ℕ) → length bytes ≤ file_limit → length (file (alias_map bytes)) ≤ file_limit
    → Holds (file (alias_map bytes)) (alias_map bytes)
