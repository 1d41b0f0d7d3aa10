-- Which modules in a machine use which, and a machine without one of them. The kernel's use_module
-- and delete_module, kernel/module/main.c.
use Rattle.std.specs.Prelude.{◌≡◌, ℕ, ◌&&◌, nat_eq, nat_lt, Bool, false, List, [], ◌∷◌, length}
use Rattle.std.specs.Prelude.{remove, slice_get}
use Rattle.std.specs.List.{list_any, range_with_len}
use Rattle.std.specs.Option.{option_map_or}
use Rattle.symbol_binding.specs.Needs.{is_seen}
use Rattle.model_loader.specs.declared.entry.BoundNeed.{BoundNeed}
use Rattle.model_loader.specs.declared.entry.Entry.{Entry}
use Rattle.model_loader.specs.Machine.{Machine}
use Rattle.export_table.specs.Exports.{export_named}

-- Whether the other entry exports a need of the user, with an export that the user sees.
abbrev pub is_met_by : Entry → Entry → BoundNeed → Bool
is_met_by user other n =
    option_map_or (λ x. is_seen user.free x.gpl) (export_named n.name other.exports) false

-- Whether one entry uses the other: the other exports one of its needs, and it sees the export.
abbrev pub uses_entry : Entry → Entry → Bool
uses_entry user other = list_any (is_met_by user other) user.needs

-- Whether the entry k binds to the entry j: j is below k, and k uses it.
abbrev pub binds : Machine → ℕ → ℕ → Bool
binds machine k j =
    nat_lt j k
    && option_map_or (λ user. option_map_or (uses_entry user) (slice_get machine.entries j) false)
    (slice_get machine.entries k) false

-- All places of a machine's entries, oldest first, and the name of the entry at one.
abbrev pub places : Machine → List ℕ
places machine = range_with_len 0 (length machine.entries)

abbrev pub name_at : Machine → ℕ → List ℕ
name_at machine k = option_map_or (λ e. e.loaded.name) (slice_get machine.entries k) []

-- For each entry the places of the entries that it binds to, in any order, each at least once.
pub record AreUses (machine : Machine) (uses : List (List ℕ)) : Type 0 where
  pub counted : length uses ≡ length machine.entries
  pub at : (k j : ℕ)
      → option_map_or (list_any (nat_eq j)) (slice_get uses k) false ≡ binds machine k j

-- No entry binds to the entry j.
abbrev pub IsUnused : Machine → ℕ → Type 0
IsUnused machine j = (k : ℕ) → binds machine k j ≡ false

-- The machine without its entry j. All other entries are as they were, in their order.
abbrev pub without : Machine → ℕ → Machine
without machine j = record machine { entries = remove machine.entries j }

-- The machine without the entries at these places, each removed from what the earlier ones left.
abbrev pub without_all : Machine → List ℕ → Machine
without_all machine [] = machine
without_all machine (j ∷ js) = without_all (without machine j) js

-- None of them is used at its turn.
abbrev pub AreUnused : Machine → List ℕ → Type 0
AreUnused machine [] = Unit {0}
AreUnused machine (j ∷ js) = IsUnused machine j × AreUnused (without machine j) js
