-- Machines whose entries are bound, and sound machines.
use Rattle.std.specs.Prelude.{◌≡◌, ℕ, ◌+◌, ◌%◌, ◌≤◌, ◌⊎◌, true, false, List, [], ◌∷◌, ◌++◌, length}
use Rattle.std.specs.Prelude.{map, flat_map, All, AllPairs, Some}
use Rattle.std.specs.List.{IsDistinct}
use Rattle.std.specs.Str.{bytes_eq}
use Rattle.module_facts.specs.declared.module.Module.{Module}
use Rattle.symbol_binding.specs.Symbols.{Export, Need, Face}
use Rattle.symbol_binding.specs.Needs.{sees, may_use, agree}
use Rattle.model_loader.specs.declared.entry.Entry.{Entry}
use Rattle.model_loader.specs.Machine.{Machine, bound_export, entry_face}
use Rattle.model_loader.specs.Step.{entry_at}

-- A need is bound in a machine: its name has an export, the module sees it and may use it, and its
-- version agrees.
pub record IsBound (machine : Machine) (m : Face) (n : Need) : Type 0 where
  pub export : Export
  pub found : bound_export machine n.name ≡ Some export
  pub seen : sees m export ≡ true
  pub agreeing : agree n.crc export.crc ≡ true
  pub allowed : may_use m export ≡ true

-- A need agrees with a machine: if the module sees the export of its name, the version agrees and
-- the module may use it.
abbrev pub Agrees : Machine → Face → Need → Type 0
Agrees machine m n =
    (e : Export) → bound_export machine n.name ≡ Some e → sees m e ≡ true
    → (agree n.crc e.crc ≡ true) × (may_use m e ≡ true)

-- An entry is a module's over a machine, and each strong need of the module is bound there.
pub record IsEntryOf (machine : Machine) (m : Module) (e : Entry) : Type 0 where
  -- Its names, its exports at their addresses, and its image, with the word of each relocation at
  -- its place.
  pub entry : e ≡ entry_at machine m e.loaded.base
  -- Each strong need is bound.
  pub strong : All (λ (n : Need). n.weak ≡ false → IsBound machine (entry_face e) n)
      (entry_face e).needs
  -- Each need that is exported and seen agrees in version, and may be used.
  pub agreeing : All (Agrees machine (entry_face e)) (entry_face e).needs

-- Each of these entries is its module's, over the machine with the entries before it.
abbrev pub AreBoundAfter : Machine → List Entry → List Module → List Entry → Type 0
AreBoundAfter machine before [] [] = Unit {0}
AreBoundAfter machine before [] (e ∷ es) = ⊥
AreBoundAfter machine before (m ∷ ms) [] = ⊥
AreBoundAfter machine before (m ∷ ms) (e ∷ es) =
    IsEntryOf (record machine { entries = before }) m e
    × AreBoundAfter machine (before ++ e ∷ []) ms es

-- All entries of a machine of these modules are bound.
abbrev pub AllBound : Machine → List Module → Type 0
AllBound machine ms = AreBoundAfter machine [] ms machine.entries

-- The names of modules, and the names that the kernel and modules export.
abbrev pub entry_names : Machine → List (List ℕ)
entry_names machine = map (λ e. e.loaded.name) machine.entries

abbrev pub exported_names : Machine → List (List ℕ)
exported_names machine =
    map (λ e. e.name) machine.kernel.exports
    ++ flat_map (λ e. map (λ x. x.name) e.exports) machine.entries

-- The image of an entry has whole pages, and lies in the region.
pub record IsPlaced (machine : Machine) (e : Entry) : Type 0 where
  pub size : e.loaded.size ≡ length e.image
  pub begins : e.loaded.base % 4096 ≡ 0
  pub whole : length e.image % 4096 ≡ 0
  pub low : machine.region.base ≤ e.loaded.base
  pub high : e.loaded.base + length e.image ≤ machine.region.base + machine.region.size

-- The images of two entries share no byte.
abbrev pub AreApart : Entry → Entry → Type 0
AreApart a b =
    (a.loaded.base + length a.image ≤ b.loaded.base)
    ⊎ (b.loaded.base + length b.image ≤ a.loaded.base)

-- A machine of these modules is sound: all entries are bound, no two modules have one name, and no
-- name is exported twice. The images are in the region, on whole pages, and no two share a byte.
pub record IsSound (machine : Machine) (ms : List Module) : Type 0 where
  pub bound : AllBound machine ms
  pub names : IsDistinct bytes_eq (entry_names machine)
  pub exports : IsDistinct bytes_eq (exported_names machine)
  pub placed : All (IsPlaced machine) machine.entries
  pub apart : AllPairs AreApart machine.entries
