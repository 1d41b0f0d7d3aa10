-- The six lists of a name as the code has them.
-- It belongs to the code: no public meaning rests on it. modprobe(8).
use Rattle.std.specs.Prelude.{ℕ, List, slice_set}
use Rattle.index_read.specs.Contents.{wild_values}
use Rattle.modprobe_conf.specs.declared.rule.Rule.{Rule}
use Rattle.name_table.specs.FirstSeen.{first_seen}
use Rattle.name_lookup.specs.Maps.{Maps, texts}
use Rattle.name_lookup.specs.Found.{lists}

-- The lists, with each name once in that of modules' own aliases.
abbrev pub seen_lists : List Rule → Maps → List ℕ → List (List (List ℕ))
seen_lists rules maps x =
    slice_set (lists rules maps x) 4 (first_seen (texts (wild_values maps.alias x)))
