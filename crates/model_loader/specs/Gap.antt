-- The place of a module: the lowest page of the region such that its image meets no other. That it
-- is the lowest is this project's choice.
use Rattle.std.specs.Prelude.{ℕ, ◌+◌, ◌*◌, ◌/◌, ◌&&◌, nat_le, nat_lt, not, Bool, List, map, find}
use Rattle.std.specs.Prelude.{length, Option}
use Rattle.std.specs.List.{list_any, range_with_len}
use Rattle.elf_format.specs.declared.section.TheConstants.{PAGE}
use Rattle.model_loader.specs.declared.entry.Entry.{Entry}
use Rattle.module_region.specs.declared.region.Region.{Region}
use Rattle.model_loader.specs.Machine.{Machine}

-- Whether this many bytes from one place on, and this many from another, share a byte.
abbrev pub meets : ℕ → ℕ → ℕ → ℕ → Bool
meets one n other m = nat_lt one (other + m) && nat_lt other (one + n)

-- Whether this many bytes from a place on meet the image of an entry.
abbrev pub meets_entry : ℕ → ℕ → Entry → Bool
meets_entry at n e = meets at n e.loaded.base (length e.image)

-- Whether this many bytes from a place on lie in the region and meet no entry's image.
abbrev pub is_gap : Region → List Entry → ℕ → ℕ → Bool
is_gap region entries n at =
    nat_le (at + n) (region.base + region.size) && not (list_any (meets_entry at n) entries)

-- The pages of a region.
abbrev pub pages : Region → List ℕ
pages region = map (λ k. region.base + PAGE * k) (range_with_len 0 (region.size / PAGE))

-- The lowest page of a region such that this many bytes from there on are free, among these
-- entries.
unfoldable pub gap_among : Region → List Entry → ℕ → Option ℕ
gap_among region entries n = find (is_gap region entries n) (pages region)

-- The lowest gap of a machine for this many bytes.
abbrev pub gap : Machine → ℕ → Option ℕ
gap machine n = gap_among machine.region machine.entries n
