use Rattle.std.proofs.Common.{◌≡◌, map, take}
use Rattle.std.specs.List.{filter_map}
use Rattle.index_format.specs.Listing.{map_of}
use Rattle.builtin_index.specs.Parts.{alias_shown, value_at}
use Rattle.builtin_index.proofs.aliases.map_of_aliases.Given as goal

abbrev pub invariant-loop-stated : goal.invariant-loop-stated
invariant-loop-stated l =
    l.key_map ≡ map_of (filter_map value_at (map alias_shown (take l.stated-index l.list)))
