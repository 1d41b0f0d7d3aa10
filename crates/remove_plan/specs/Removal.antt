-- Which modules a removal takes out of a machine: those that are asked for, and those that only
-- they used. modprobe(8), `-r`.
use Rattle.std.specs.Prelude.{◌≡◌, ℕ, zero, suc, ◌&&◌, ◌||◌, ◌<◌, not, Bool, true, false, List, []}
use Rattle.std.specs.Prelude.{◌∷◌, ◌++◌, ◌+◌, length, map, find, slice_get, Option, None}
use Rattle.std.specs.Prelude.{option_map, is_none, nat_eq, if◌then◌else◌}
use Rattle.std.specs.List.{list_any}
use Rattle.std.specs.Option.{option_map_or}
use Rattle.km_names.specs.First.{first}
use Rattle.name_table.specs.FirstSeen.{is_among}
use Rattle.model_loader.specs.Machine.{Machine}
use Rattle.model_loader.specs.Use.{binds, places}

-- A set of places of a machine's entries, as a test.
abbrev pub Places : Type 0
Places = ℕ → Bool

-- The set of a list of places.
abbrev pub among : List ℕ → Places
among ks k = list_any (λ j. nat_eq j k) ks

-- Whether the entry k has one of these names. No entry has a name that isn't loaded.
abbrev pub is_asked : Machine → List (List ℕ) → Places
is_asked machine names k =
    option_map_or (λ e. is_among names e.loaded.name) (slice_get machine.entries k) false

-- The oldest entry outside a set that binds to the entry j.
abbrev pub user_outside : Machine → Places → ℕ → Option ℕ
user_outside machine set j = find (λ k. binds machine k j && not (set k)) (places machine)

-- The oldest member of a set with a user outside it, and the oldest such user.
abbrev pub used_member : Machine → Places → ℕ → Option (ℕ × ℕ)
used_member machine set j =
    if set j then option_map (λ k. (j, k)) (user_outside machine set j) else None

abbrev pub in_use : Machine → Places → Option (ℕ × ℕ)
in_use machine set = first (map (used_member machine set) (places machine))

-- Whether only members of a set use the entry k: some member binds to it, and no entry outside
-- does.
abbrev pub is_used_only : Machine → Places → ℕ → Bool
is_used_only machine set k =
    list_any (λ u. set u && binds machine u k) (places machine)
    && is_none (user_outside machine set k)

-- A set has the entries that are asked for, and each entry that only its members use.
pub record IsRemovalSet (machine : Machine) (r set : Places) : Type 0 where
  pub asked : (k : ℕ) → r k ≡ true → set k ≡ true
  pub used_only : (k : ℕ) → is_used_only machine set k ≡ true → set k ≡ true

-- A set is the least of these.
pub record IsLeast (machine : Machine) (r set : Places) : Type 0 where
  pub closed : IsRemovalSet machine r set
  pub least : (other : Places) → IsRemovalSet machine r other → (k : ℕ) → set k ≡ true
      → other k ≡ true

-- Each place is below the ones before it: the youngest entry comes first.
abbrev pub AreFalling : List ℕ → Type 0
AreFalling [] = Unit {0}
AreFalling (k ∷ ks) = ((u : ℕ) → among ks u ≡ true → u < k) × AreFalling ks

-- The places of the entries that are removed if the ones of a set are asked for: the least set,
-- youngest first.
pub record AreRemoved (machine : Machine) (r : Places) (ks : List ℕ) : Type 0 where
  pub least : IsLeast machine r (among ks)
  pub falling : AreFalling ks

-- The members below k, after those from k on, youngest first. An entry's users are younger than it,
-- so each entry is decided by those before it.
abbrev pub members_below : Machine → Places → ℕ → List ℕ → List ℕ
members_below machine r zero ks = ks
members_below machine r (suc k) ks =
    members_below machine r k
    (if r k || is_used_only machine (among ks) k then ks ++ k ∷ [] else ks)

-- The places of the entries that are removed, youngest first.
unfoldable pub removed : Machine → Places → List ℕ
removed machine r = members_below machine r (length machine.entries) []

-- The places of the entries that are removed, youngest first, if the modules of these names are
-- asked for.
abbrev pub removed_by : Machine → List (List ℕ) → List ℕ
removed_by machine names = removed machine (is_asked machine names)

-- The removed entries are the least set, youngest first.
abbrev pub RemovedAreLeast : Type 0
RemovedAreLeast =
    (machine : Machine) (names : List (List ℕ))
    → AreRemoved machine (is_asked machine names) (removed_by machine names)

-- There is only one such list.
abbrev pub RemovedAreOne : Type 0
RemovedAreOne =
    (machine : Machine) (r : Places) (ks ls : List ℕ) → AreRemoved machine r ks
    → AreRemoved machine r ls → ks ≡ ls

-- The items of a list outside a set. The first item is at place i.
abbrev pub items_outside : {X : Type 0} → Places → ℕ → List X → List X
items_outside set i [] = []
items_outside set i (x ∷ xs) =
    if set i then items_outside set (i + 1) xs else x ∷ items_outside set (i + 1) xs

-- The machine with the entries outside a set.
abbrev pub outside : Machine → Places → Machine
outside machine set = record machine { entries = items_outside set 0 machine.entries }

-- The machine that is left after the modules of these names are removed, and those that only
-- removed modules use.
abbrev pub left_after : Machine → List (List ℕ) → Machine
left_after machine names = outside machine (among (removed_by machine names))
