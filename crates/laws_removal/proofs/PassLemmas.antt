-- Those that go are taken out one after the other, and none is used when it is its turn.
use Rattle.std.proofs.Common.{◌≡◌, ◌≤◌, ◌<◌, ◌+◌, ◌∙◌, ◌⊎◌, inl, inr, ℕ, zero, suc, Bool, true}
use Rattle.std.proofs.Common.{false, List, [], ◌∷◌, Option, Some, None, refl, sym, ap, arith}
use Rattle.std.proofs.Common.{length, cond, map}
use Rattle.std.specs.Prelude.{◌&&◌, ◌||◌, not, slice_get, is_none, nat_eq, nat_lt, option_map}
use Rattle.std.specs.Prelude.{remove}
use Rattle.std.specs.List.{list_any, range_with_len}
use Rattle.std.specs.Option.{option_map_or}
use Rattle.std.proofs.lemmas.Bool.{cases_Bool, false≢true, or_cases, or_left, or_right}
use Rattle.std.proofs.lemmas.Bool.Decides.{nat_tests}
use Rattle.km_names.specs.First.{first}
use Rattle.model_loader.specs.declared.entry.Entry.{Entry}
use Rattle.model_loader.specs.Machine.{Machine}
use Rattle.model_loader.specs.Use.{AreUnused, binds, places, uses_entry, without, without_all}
use Rattle.model_loader.proofs.PlaceLemmas.{above-cut, at-or-above, below-cut, in-place}
use Rattle.model_loader.proofs.PlaceLemmas.{none-within, none≢some, below-or-above}
use Rattle.remove_plan.specs.Removal.{AreFalling, Places, among, items_outside, in_use, is_asked}
use Rattle.remove_plan.specs.Removal.{outside, removed_by, used_member, user_outside}
use Rattle.remove_plan.proofs.RemovalLemmas.{asked-inside, both-true, removed-are-least}
use Rattle.remove_plan.proofs.RemovalLemmas.{removed-why, younger, here-first}
use Rattle.laws_removal.specs.Removals.{RemovalsPass}

-- Whoever uses one of them is one of them.
abbrev OwnUsers : Machine → List ℕ → Type 0
OwnUsers machine ks = (k u : ℕ) → among ks k ≡ true → binds machine u k ≡ true → among ks u ≡ true

abbrev used_by : Option Entry → Option Entry → Bool
used_by user other = option_map_or (λ u. option_map_or (uses_entry u) other false) user false

-- Who binds after one above was taken out bound before, from the same place or the next one.
bound-below : (machine : Machine) (k j u : ℕ) → j < k → u < k → binds (without machine k) u j ≡ true
    → binds machine u j ≡ true
bound-below machine k j u low less is =
    ap (λ o. nat_lt j u && used_by o (slice_get machine.entries j))
    (sym (below-cut machine.entries k u less))
    ∙ ap (λ o. nat_lt j u && used_by (slice_get (remove machine.entries k) u) o)
    (sym (below-cut machine.entries k j low))
    ∙ is

bound-above : (machine : Machine) (k j u : ℕ) → j < k → k ≤ u → binds (without machine k) u j ≡ true
    → binds machine (suc u) j ≡ true
bound-above machine k j u low le is =
    let now : nat_lt j (suc u) ≡ true = grind (arith, nat_tests) in
    let was : nat_lt j u ≡ true = grind (arith, nat_tests) in
    ap (λ b. b && used_by (slice_get machine.entries (suc u)) (slice_get machine.entries j))
    (now ∙ sym was)
    ∙ ap (λ o. nat_lt j u && used_by o (slice_get machine.entries j))
    (sym (above-cut machine.entries k u le))
    ∙ ap (λ o. nat_lt j u && used_by (slice_get (remove machine.entries k) u) o)
    (sym (below-cut machine.entries k j low))
    ∙ is

pass : (machine : Machine) (ks : List ℕ) → AreFalling ks → OwnUsers machine ks
    → AreUnused machine ks
pass machine [] fall own = tt
pass machine (k ∷ ks) fall own = (
  (λ u.
      elim (cases_Bool (binds machine u k)) [
        | inl is ↦
            let less = younger machine u k is in
            absurd
            (elim (or_cases (nat_eq k u) (among ks u) (own k u (here-first k ks) is)) [
              | inl same ↦ let e : k ≡ u = grind (arith, nat_tests) in omega (arith, less, e)
              | inr member ↦ omega (arith, less, fall.0 u member)
            ])
        | inr other ↦ other
      ]),
  pass (without machine k) ks fall.1
      (λ j u member is.
      let low : j < k = fall.0 j member in
      elim (below-or-above u k) [
        | inl less ↦
            elim (or_cases (nat_eq k u) (among ks u)
            (own j u (or_right (nat_eq k j) (among ks j) member)
            (bound-below machine k j u low less is))) [
              | inl same ↦ absurd
                  (let e : k ≡ u = grind (arith, nat_tests) in omega (arith, less, e))
              | inr there ↦ there
            ]
        | inr le ↦
            absurd
            (elim (or_cases (nat_eq k (suc u)) (among ks (suc u))
            (own j (suc u) (or_right (nat_eq k j) (among ks j) member)
            (bound-above machine k j u low le is))) [
              | inl same ↦ let e : k ≡ suc u = grind (arith, nat_tests) in omega (arith, le, e)
              | inr there ↦ omega (arith, le, fall.0 (suc u) there)
            ])
      ]),
)

-- What is left of a list.
outside-all : {X : Type 0} (set : Places) (i : ℕ) (xs : List X) → ((u : ℕ) → i ≤ u → set u ≡ false)
    → items_outside set i xs ≡ xs
outside-all set i [] none = refl
outside-all set i (x ∷ xs) none =
    ap (λ b. cond b (items_outside set (i + 1) xs) (x ∷ items_outside set (i + 1) xs))
    (none i (omega arith))
    ∙ ap (λ l. x ∷ l) (outside-all set (i + 1) xs (λ u le. none u (omega (arith, le))))

not-among : (ks : List ℕ) (i u : ℕ) → ((v : ℕ) → among ks v ≡ true → v < i) → i ≤ u
    → among ks u ≡ false
not-among ks i u small le =
    elim (cases_Bool (among ks u))
    [ inl member ↦ absurd (omega (arith, small u member, le)) | inr other ↦ other ]

outside-cut : {X : Type 0} (ks : List ℕ) (i j k : ℕ) (xs : List X) → k ≡ i + j
    → ((u : ℕ) → among ks u ≡ true → u < k)
    → items_outside (among ks) i (remove xs j) ≡ items_outside (among (k ∷ ks)) i xs
outside-cut ks i zero k [] at small = refl
outside-cut ks i (suc j) k [] at small = refl
outside-cut ks i zero k (x ∷ xs) at small =
    let here : among (k ∷ ks) i ≡ true
    = or_left (nat_eq k i) (among ks i) (grind (arith, nat_tests)) in
    outside-all (among ks) i xs (λ u le. not-among ks k u small (omega (arith, at, le)))
    ∙ sym (outside-all (among (k ∷ ks)) (i + 1) xs (λ u le. apart u le))
    ∙ sym (ap (λ b. cond b (items_outside (among (k ∷ ks)) (i + 1) xs)
    (x ∷ items_outside (among (k ∷ ks)) (i + 1) xs)) here)
  where
    apart : (u : ℕ) → i + 1 ≤ u → among (k ∷ ks) u ≡ false
    apart u le =
        let other : nat_eq k u ≡ false = grind (arith, nat_tests) in
        ap (λ b. b || among ks u) other ∙ not-among ks k u small (omega (arith, at, le))
outside-cut ks i (suc j) k (x ∷ xs) at small =
    let other : nat_eq k i ≡ false = grind (arith, nat_tests) in
    ap (λ l. cond (among ks i) l (x ∷ l)) (outside-cut ks (i + 1) j k xs (omega (arith, at)) small)
    ∙ ap (λ b. cond (b || among ks i) (items_outside (among (k ∷ ks)) (i + 1) xs)
    (x ∷ items_outside (among (k ∷ ks)) (i + 1) xs)) (sym other)

-- A list without the items at these places, each taken out of what the earlier ones left.
abbrev pub remove_all : {X : Type 0} → List X → List ℕ → List X
remove_all xs [] = xs
remove_all xs (k ∷ ks) = remove_all (remove xs k) ks

pub left-items : {X : Type 0} (xs : List X) (ks : List ℕ) → AreFalling ks
    → remove_all xs ks ≡ items_outside (among ks) 0 xs
left-items xs [] fall = sym (outside-all (among []) 0 xs (λ u le. refl))
left-items xs (k ∷ ks) fall =
    left-items (remove xs k) ks fall.1 ∙ outside-cut ks 0 k k xs (omega arith) fall.0

-- What is left of a machine.
without-items : (machine : Machine) (ks : List ℕ)
    → without_all machine ks ≡ record machine { entries = remove_all machine.entries ks }
without-items machine [] = refl
without-items machine (k ∷ ks) = without-items (without machine k) ks

pub left-outside : (machine : Machine) (ks : List ℕ) → AreFalling ks
    → without_all machine ks ≡ outside machine (among ks)
left-outside machine ks fall =
    without-items machine ks
    ∙ ap (λ (es : List Entry). record machine { entries = es })
    (left-items machine.entries ks fall)

-- Nobody outside uses those that go.
pub user-inside : (machine : Machine) (u k : ℕ) → binds machine u k ≡ true
    → u < length machine.entries
user-inside machine u k is =
    by (slice_get machine.entries u) refl
    (both-true (nat_lt k u)
    (used_by (slice_get machine.entries u) (slice_get machine.entries k)) is).1
  where
    by : (o : Option Entry) → slice_get machine.entries u ≡ o
        → used_by (slice_get machine.entries u) (slice_get machine.entries k) ≡ true
        → u < length machine.entries
    by None at used
        = absurd (false≢true (sym (ap (λ o. used_by o (slice_get machine.entries k)) at) ∙ used))
    by (Some x) at used = in-place machine.entries u x at

none-outside : (machine : Machine) (set : Places) (k u : ℕ) → user_outside machine set k ≡ None
    → binds machine u k ≡ true → set u ≡ true
none-outside machine set k u none is =
    by (set u) (sym (ap (λ b. b && not (set u)) is)
    ∙ none-within (λ v. binds machine v k && not (set v)) 0 (length machine.entries) u none
    (omega arith) (omega (arith, user-inside machine u k is)))
  where
    by : (b : Bool) → (true && not b) ≡ false → b ≡ true
    by true is = refl
    by false is = absurd (false≢true (sym is))

-- Where no member is used from outside, none of them is.
none-head : {X : Type 0} (o : Option X) (os : List (Option X)) → first (o ∷ os) ≡ None
    → (o ≡ None) × (first os ≡ None)
none-head None os none = (refl, none)
none-head (Some x) os none = absurd (none≢some (sym none))

none-first : {X : Type 0} (f : ℕ → Option X) (i n j : ℕ) → first (map f (range_with_len i n)) ≡ None
    → i ≤ j → j < i + n → f j ≡ None
none-first f i zero j none low high = absurd (omega (arith, low, high))
none-first f i (suc n) j none low high =
    let parts = none-head (f i) (map f (range_with_len (i + 1) n)) none in
    elim (at-or-above i j low) [
      | inl same ↦ ap f (sym same) ∙ parts.0
      | inr above ↦ none-first f (i + 1) n j parts.1 above (omega (arith, high))
    ]

unused-asked : (machine : Machine) (set : Places) (j : ℕ) → in_use machine set ≡ None
    → j < length machine.entries → set j ≡ true → user_outside machine set j ≡ None
unused-asked machine set j none less member =
    by (user_outside machine set j)
    (sym (ap (λ b. cond b (option_map {U = ℕ × ℕ} (λ k. (j, k)) (user_outside machine set j))
    None) member)
    ∙ none-first (used_member machine set) 0 (length machine.entries) j none (omega arith)
    (omega (arith, less)))
  where
    by : (o : Option ℕ) → option_map {U = ℕ × ℕ} (λ k. (j, k)) o ≡ None → o ≡ None
    by None is = refl
    by (Some k) is = absurd (none≢some (sym is))

pub removals-pass : RemovalsPass
removals-pass machine names free =
    let r = is_asked machine names in
    let ks = removed_by machine names in
    let are = removed-are-least machine names in (
      pass machine ks are.falling
          (λ k u member is.
          elim (removed-why machine names k member) [
            | inl in_r ↦ are.least.closed.asked u
                (none-outside machine r k u
                (unused-asked machine r k free (asked-inside machine names k in_r) in_r) is)
            | inr is_so ↦
                let none : user_outside machine (among ks) k ≡ None
                = no-one (user_outside machine (among ks) k)
                (both-true
                (list_any (λ v. among ks v && binds machine v k) (places machine))
                (is_none (user_outside machine (among ks) k)) is_so).1 in
                none-outside machine (among ks) k u none is
          ]),
      left-outside machine ks are.falling,
    )
  where
    no-one : (o : Option ℕ) → is_none o ≡ true → o ≡ None
    no-one None is = refl
    no-one (Some k) is = absurd (false≢true is)
