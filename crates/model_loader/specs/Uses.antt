-- What a need binds to, by the tables of a machine.
-- It belongs to the code: no public meaning rests on it.
use Rattle.std.specs.Prelude.{◌≡◌, ℕ, ◌&&◌, nat_eq, nat_lt, Bool, false, List, Option, Some, None}
use Rattle.std.specs.Prelude.{length, map, slice_get, option_and_then, if◌then◌else◌}
use Rattle.std.specs.List.{list_any}
use Rattle.std.specs.Option.{option_map_or}
use Rattle.std.specs.Str.{bytes_eq}
use Rattle.name_table.specs.NameTable.{Table, place_of}
use Rattle.symbol_binding.specs.Needs.{is_seen}
use Rattle.model_loader.specs.declared.entry.BoundNeed.{BoundNeed}
use Rattle.model_loader.specs.declared.entry.Entry.{Entry}
use Rattle.export_table.specs.declared.standing.Standing.{Standing}
use Rattle.export_table.specs.declared.standing.ExportTable.{ExportTable}
use Rattle.export_table.specs.Standing.{standing_of}

-- Whether the owner of an export is the module of this name.
abbrev pub is_owner : List ℕ → Standing → Bool
is_owner name s = option_map_or (λ owner. bytes_eq owner name) s.owner false

-- Whether the module of this name exports a need, by a table.
abbrev pub is_met_named : ExportTable → Bool → List ℕ → BoundNeed → Bool
is_met_named t free name n =
    option_map_or (λ s. is_owner name s && is_seen free s.gpl) (standing_of t n.name) false

-- The name that each entry states.
abbrev pub stated_names : List Entry → List (Option (List ℕ))
stated_names entries = map (λ e. Some e.loaded.name) entries

-- The place of the owner of an export that is seen.
abbrev pub owner_place : Table → Bool → Standing → Option ℕ
owner_place places free s =
    if is_seen free s.gpl then option_and_then (place_of places) s.owner else None

-- The place of the module that exports a need.
abbrev pub met_place : ExportTable → Table → Bool → BoundNeed → Option ℕ
met_place t places free n = option_and_then (owner_place places free) (standing_of t n.name)

-- The place, if it is below a number.
abbrev pub below : ℕ → ℕ → Option ℕ
below k j = if nat_lt j k then Some j else None

abbrev pub bound_place : ExportTable → Table → Bool → ℕ → BoundNeed → Option ℕ
bound_place t places free k n = option_and_then (below k) (met_place t places free n)

-- Whether an optional place is this one.
abbrev pub is_place : ℕ → Option ℕ → Bool
is_place j o = option_map_or (nat_eq j) o false

-- Whether a need binds to the entry at a place.
abbrev pub is_bound_at : ExportTable → Table → Bool → ℕ → ℕ → BoundNeed → Bool
is_bound_at t places free k j n = is_place j (bound_place t places free k n)

-- For each entry the places that its needs bind to, by the tables.
pub record AreBoundPlaces (t : ExportTable) (places : Table) (entries : List Entry)
    (all : List (List ℕ)) : Type 0 where
  pub counted : length all ≡ length entries
  pub at : (k j : ℕ) (e : Entry) → slice_get entries k ≡ Some e
      → option_map_or (list_any (nat_eq j)) (slice_get all k) false
      ≡ list_any (is_bound_at t places e.free k j) e.needs
