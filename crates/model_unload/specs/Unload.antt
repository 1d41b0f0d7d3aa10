-- Modules removed from a machine by name. The kernel's delete_module, kernel/module/main.c.
use Rattle.std.specs.Prelude.{◌≡◌, ◌<◌, ℕ, Bool, false, List, [], ◌∷◌, length, find, map, slice_get}
use Rattle.std.specs.Prelude.{Option, Result, Ok, Err}
use Rattle.std.specs.List.{IsDistinct}
use Rattle.std.specs.Option.{option_map_or}
use Rattle.std.specs.Str.{bytes_eq}
pub use Rattle.model_loader.specs.Chain.{unless_refused}
use Rattle.model_loader.specs.Machine.{Machine}
use Rattle.model_loader.specs.Sound.{entry_names}
use Rattle.model_loader.specs.Use.{AreUnused, binds, name_at, places, without, without_all}
use Rattle.model_unload.specs.declared.UnloadFault.{UnloadFault}
use Rattle.model_unload.specs.declared.UnloadFault.TheVariants.{NotLoaded, InUse}

-- Whether the entry k has this name.
abbrev pub is_named_at : Machine → List ℕ → ℕ → Bool
is_named_at machine name k =
    option_map_or (λ e. bytes_eq e.loaded.name name) (slice_get machine.entries k) false

-- The place of the module of this name.
abbrev pub place_of : Machine → List ℕ → Option ℕ
place_of machine name = find (is_named_at machine name) (places machine)

-- The oldest entry that binds to the entry j.
abbrev pub first_user : Machine → ℕ → Option ℕ
first_user machine j = find (λ k. binds machine k j) (places machine)

-- The machine without the module of a name, or the refusal: it isn't loaded, or an entry binds to
-- it.
abbrev pub unloaded_at : Machine → ℕ → Result Machine UnloadFault
unloaded_at machine j =
    option_map_or (λ k. Err (InUse k)) (first_user machine j) (Ok (without machine j))

abbrev pub unloaded : Machine → List ℕ → Result Machine UnloadFault
unloaded machine name = option_map_or (unloaded_at machine) (place_of machine name) (Err NotLoaded)

-- The machine after the modules of these names were removed one after the other, or the first
-- refusal.
abbrev pub unload_all : Machine → List (List ℕ) → Result Machine UnloadFault
unload_all machine [] = Ok machine
unload_all machine (name ∷ names) =
    unless_refused (λ next. unload_all next names) (unloaded machine name)

-- Places below a number, each below the ones before it.
abbrev pub AreFallingFrom : ℕ → List ℕ → Type 0
AreFallingFrom n [] = Unit {0}
AreFallingFrom n (k ∷ ks) = (k < n) × AreFallingFrom k ks

-- Entries, the younger ones first, are removed by their names if none is used at its turn.
abbrev pub UnusedAreUnloaded : Type 0
UnusedAreUnloaded =
    (machine : Machine) (ks : List ℕ) → IsDistinct bytes_eq (entry_names machine)
    → AreFallingFrom (length machine.entries) ks
    → AreUnused machine ks
    → unload_all machine (map (name_at machine) ks) ≡ Ok (without_all machine ks)
