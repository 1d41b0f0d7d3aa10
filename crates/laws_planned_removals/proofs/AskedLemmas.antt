-- A removal that asks for all that was loaded last, and nothing else: none of it is in use, and
-- unless only it uses an older module, it is all that is removed.
use Rattle.std.proofs.Common.{◌≡◌, ◌≤◌, ◌<◌, ◌+◌, ◌∙◌, ◌⊎◌, inl, inr, ℕ, zero, suc, Bool, true}
use Rattle.std.proofs.Common.{false, cond, List, [], ◌∷◌, ◌++◌, Option, Some, None, length, map}
use Rattle.std.proofs.Common.{reverse, refl, sym, ap, subst, arith, append_assoc, append-nil}
use Rattle.std.specs.Prelude.{◌&&◌, ◌||◌, not, nat_eq, is_none, option_map, slice_get, Result, Ok}
use Rattle.std.specs.Prelude.{Err}
use Rattle.std.specs.List.{AllByRecursion, IsDistinct, list_any, range_with_len}
use Rattle.std.specs.Option.{option_map_or}
use Rattle.std.specs.Str.{bytes_eq}
use Rattle.std.proofs.lemmas.Bool.{cases_Bool, false≢true, or_cases, or_left, or_right}
use Rattle.std.proofs.lemmas.Bool.Decides.{nat_tests}
use Rattle.std.proofs.lemmas.List.{length-append}
use Rattle.std.proofs.lemmas.List.Sorted.{IsPermutation-reverse, list_any-IsPermutation}
use Rattle.std.proofs.lemmas.Slice.Eq.{bytes_eq-Decides}
use Rattle.km_names.specs.First.{first}
use Rattle.module_facts.specs.declared.module.Module.{Module}
use Rattle.name_table.specs.FirstSeen.{is_among}
use Rattle.model_loader.specs.declared.entry.Entry.{Entry}
use Rattle.load_fault.specs.declared.fault.LoadFault.{LoadFault}
use Rattle.model_loader.specs.Machine.{Machine}
use Rattle.model_loader.specs.Sound.{entry_names}
use Rattle.model_loader.specs.Step.{entry_at, module_base, step, with_entry}
use Rattle.model_loader.specs.Use.{binds, name_at, places}
use Rattle.model_loader.proofs.PlaceLemmas.{at-or-above, item, none≢some, below-or-above}
use Rattle.model_unload.specs.Unload.{AreFallingFrom}
use Rattle.remove_plan.specs.Removal.{AreFalling, AreRemoved, Places, among, in_use, is_asked}
use Rattle.remove_plan.specs.Removal.{is_used_only, removed_by, used_member, user_outside}
use Rattle.remove_plan.proofs.RemovalLemmas.{asked-inside, both-true, removed-are-least}
use Rattle.remove_plan.proofs.RemovalLemmas.{removed-are-one, younger}
use Rattle.laws_closed_plans.specs.Binding.{names_of}
use Rattle.laws_closed_plans.specs.Loads.{load_all, unless_refused}
use Rattle.laws_removal.specs.Loads.{added}
use Rattle.laws_removal.proofs.LoadLemmas.{are-added, entry-name}
use Rattle.laws_removal.proofs.PassLemmas.{user-inside}
use Rattle.laws_planned_removals.specs.Courses.{removed_names}
use Rattle.laws_planned_removals.specs.Join.{AreAskedFor}
use Rattle.laws_closed_plans.proofs.LoadLemmas.{step-next}
use Rattle.model_loader.proofs.ListedLemmas.{name_of}
use Rattle.laws_removal.proofs.UnloadedLemmas.{some-passes}
use Rattle.model_unload.proofs.NameLemmas.{none-found}

-- ---- what loads enter

-- The entries that loads of modules add.
record AreEntered (machine after : Machine) (ms : List Module) : Type 0 where
  entries : List Entry
  newer : after.entries ≡ machine.entries ++ entries
  named : map name_of entries ≡ names_of ms
  counted : length entries ≡ length ms

are-entered : (machine after : Machine) (ms : List Module) → load_all machine ms ≡ Ok after
    → AreEntered machine after ms
are-entered machine after [] is =
    let same : machine ≡ after = cc in
    record {
      entries = [];
      newer = ap (λ (m : Machine). m.entries) (sym same) ∙ sym (append-nil machine.entries);
      named = refl;
      counted = refl;
    }
are-entered machine after (m ∷ ms) is =
    go (step machine m) refl is (λ mid. are-entered mid after ms)
  where
    go : (r : Result Machine LoadFault) → step machine m ≡ r
        → unless_refused (λ mid. load_all mid ms) r ≡ Ok after
        → ((mid : Machine) → load_all mid ms ≡ Ok after → AreEntered mid after ms)
        → AreEntered machine after (m ∷ ms)
    go (Err fault) at done later
        = absurd (let e : ◌≡◌ {A = Result Machine LoadFault} (Err fault) (Ok after) = done in cc)
    go (Ok mid) at done later =
        let e = entry_at machine m (module_base machine m) in
        let next : mid ≡ with_entry machine e = (step-next machine m mid at).is in
        let rest = later mid done in
        record {
          entries = e ∷ rest.entries;
          newer
              = rest.newer ∙ ap (λ (x : Machine). x.entries ++ rest.entries) next
              ∙ append_assoc machine.entries (e ∷ []) rest.entries;
          named
              = ap (λ n. n ∷ map name_of rest.entries)
              (entry-name machine m (module_base machine m))
              ∙ ap (λ ns. m.facts.name ∷ ns) rest.named;
          counted = omega (arith, rest.counted);
        }

-- ---- names of older and newer entries

none-apart : (x : List ℕ) (before after : List Entry)
    → AllByRecursion (λ z. bytes_eq x z ≡ false) (map name_of (before ++ after))
    → is_among (map name_of after) x ≡ false
none-apart x [] [] all = refl
none-apart x [] (e ∷ after) all =
    ap (λ b. b || is_among (map name_of after) x) all.0 ∙ none-apart x [] after all.1
none-apart x (e ∷ before) after all = none-apart x before after all.1

older-apart : (before after : List Entry) (k : ℕ) → k < length before
    → IsDistinct bytes_eq (map name_of (before ++ after)) → (names : List (List ℕ))
    → ((name : List ℕ) → is_among names name ≡ is_among (map name_of after) name)
    → option_map_or (λ (e : Entry). is_among names e.loaded.name) (slice_get (before ++ after) k)
    false
    ≡ false
unfolding IsDistinct
older-apart [] after k less distinct names same = absurd (omega (arith, less))
older-apart (e ∷ before) after zero less distinct names same =
    same e.loaded.name ∙ none-apart e.loaded.name before after distinct.0
older-apart (e ∷ before) after (suc k) less distinct names same =
    older-apart before after k (omega (arith, less)) distinct.1 names same

newer-named : (after : List Entry) (k : ℕ) (e : Entry) → slice_get after k ≡ Some e
    → is_among (map name_of after) e.loaded.name ≡ true
newer-named [] k e at = absurd (none≢some at)
newer-named (y ∷ after) zero e at =
    let same : y ≡ e = cc in
    or_left (bytes_eq e.loaded.name y.loaded.name) (is_among (map name_of after) e.loaded.name)
    ((bytes_eq-Decides e.loaded.name y.loaded.name).1 (ap name_of (sym same)))
newer-named (y ∷ after) (suc k) e at =
    or_right (bytes_eq e.loaded.name y.loaded.name) (is_among (map name_of after) e.loaded.name)
    (newer-named after k e at)

later-named : (before after : List Entry) (k : ℕ) (e : Entry) → length before ≤ k
    → slice_get (before ++ after) k ≡ Some e → is_among (map name_of after) e.loaded.name ≡ true
later-named [] after k e le at = newer-named after k e at
later-named (y ∷ before) after zero e le at = absurd (omega (arith, le))
later-named (y ∷ before) after (suc k) e le at = later-named before after k e (omega (arith, le)) at

-- ---- places

range-in : (a n k : ℕ) → a ≤ k → k < a + n → among (range_with_len a n) k ≡ true
range-in a zero k low high = absurd (omega (arith, low, high))
range-in a (suc n) k low high =
    elim (at-or-above a k low) [
      | inl same ↦ or_left (nat_eq a k) (among (range_with_len (a + 1) n) k)
          (grind (arith, nat_tests))
      | inr above ↦ or_right (nat_eq a k) (among (range_with_len (a + 1) n) k)
          (range-in (a + 1) n k above (omega (arith, high)))
    ]

range-is : (a n k : ℕ) → among (range_with_len a n) k ≡ true → (a ≤ k) × (k < a + n)
range-is a zero k member = absurd (false≢true member)
range-is a (suc n) k member =
    elim (or_cases (nat_eq a k) (among (range_with_len (a + 1) n) k) member) [
      | inl here ↦ let same : a ≡ k
          = grind (arith, nat_tests) in (omega (arith, same), omega (arith, same))
      | inr later ↦ let h = range-is (a + 1) n k later in (omega (arith, h.0), omega (arith, h.1))
    ]

among-reversed : (ks : List ℕ) (k : ℕ) → among (reverse ks) k ≡ among ks k
among-reversed ks k =
    sym (list_any-IsPermutation (λ j. nat_eq j k) ks (reverse ks) (IsPermutation-reverse ks))

falling-below : (n : ℕ) (ks : List ℕ) → AreFallingFrom n ks → (u : ℕ) → among ks u ≡ true → u < n
falling-below n [] fall u member = absurd (false≢true member)
falling-below n (k ∷ ks) fall u member =
    elim (or_cases (nat_eq k u) (among ks u) member) [
      | inl here ↦ let same : k ≡ u = grind (arith, nat_tests) in omega (arith, same, fall.0)
      | inr later ↦ omega (arith, fall.0, falling-below k ks fall.1 u later)
    ]

are-falling : (n : ℕ) (ks : List ℕ) → AreFallingFrom n ks → AreFalling ks
are-falling n [] fall = tt
are-falling n (k ∷ ks) fall = (falling-below k ks fall.1, are-falling k ks fall.1)

none-first : {X : Type 0} (f : ℕ → Option X) (ks : List ℕ) → ((k : ℕ) → f k ≡ None)
    → first (map f ks) ≡ None
none-first f [] none = refl
none-first f (k ∷ ks) none = rw (none k) (none-first f ks none)

same-truth : (a b : Bool) → (a ≡ true → b ≡ true) → (b ≡ true → a ≡ true) → a ≡ b
same-truth true b there back = sym (there refl)
same-truth false true there back = absurd (false≢true (back refl))
same-truth false false there back = refl

-- ---- the newer ones are asked for

module _ (machine after : Machine) (ms : List Module) (loaded : load_all machine ms ≡ Ok after)
    (distinct : IsDistinct bytes_eq (entry_names after)) (names : List (List ℕ))
    (asks : AreAskedFor names (names_of ms)) where
  abbrev n : ℕ
  n = length machine.entries

  abbrev set : Places
  set = is_asked after names

  entered : AreEntered machine after ms
  entered = are-entered machine after ms loaded

  asks-newer : (name : List ℕ) → is_among names name ≡ is_among (map name_of entered.entries) name
  asks-newer name = asks name ∙ ap (λ ns. is_among ns name) (sym entered.named)

  asked-old : (k : ℕ) → k < n → set k ≡ false
  asked-old k less =
      ap (λ (es : List Entry). option_map_or (λ (e : Entry). is_among names e.loaded.name)
      (slice_get es k) false) entered.newer
      ∙ older-apart machine.entries entered.entries k less
      (subst (λ (es : List Entry). IsDistinct bytes_eq (map name_of es)) entered.newer distinct)
      names asks-newer

  asked-new : (k : ℕ) → n ≤ k → k < length after.entries → set k ≡ true
  asked-new k low high =
      let it = item after.entries k high in
      ap (λ o. option_map_or (λ (e : Entry). is_among names e.loaded.name) o false) it.1
      ∙ asks-newer it.0.loaded.name
      ∙ later-named machine.entries entered.entries k it.0 low
      (ap (λ (es : List Entry). slice_get es k) (sym entered.newer) ∙ it.1)

  asked-low : (k : ℕ) → set k ≡ true → n ≤ k
  asked-low k member =
      elim (below-or-above k n)
      [ inl less ↦ absurd (false≢true (sym (asked-old k less) ∙ member)) | inr le ↦ le ]

  -- who uses one of them is one of them
  user-asked : (u j : ℕ) → set j ≡ true → binds after u j ≡ true → set u ≡ true
  user-asked u j member used =
      asked-new u (omega (arith, asked-low j member, younger after u j used))
      (user-inside after u j used)

  no-user : (j : ℕ) → set j ≡ true → user_outside after set j ≡ None
  no-user j member = none-found (λ k. binds after k j && not (set k)) (places after) (λ k.
      elim (cases_Bool (binds after k j)) [
        | inl used ↦ ap (λ b. b && not (set k)) used ∙ ap (λ b. not b) (user-asked k j member used)
        | inr other ↦ ap (λ b. b && not (set k)) other
      ])

  no-member : (j : ℕ) → used_member after set j ≡ None
  no-member j =
      elim (cases_Bool (set j)) [
        | inl member ↦
            ap (λ b. cond b (option_map {U = ℕ × ℕ} (λ k. (j, k)) (user_outside after set j)) None)
            member
            ∙ ap (option_map {U = ℕ × ℕ} (λ k. (j, k))) (no-user j member)
        | inr other ↦ ap
            (λ b. cond b (option_map {U = ℕ × ℕ} (λ k. (j, k)) (user_outside after set j)) None)
            other
      ]

  pub newer-free : in_use after set ≡ None
  newer-free = none-first (used_member after set) (places after) no-member

  -- unless only they use an older one, they are all that is removed
  abbrev ks : List ℕ
  ks = added machine ms

  count : length after.entries ≡ n + length ms
  count =
      let whole : length after.entries ≡ n + length entered.entries
      = ap (λ (es : List Entry). length es) entered.newer
      ∙ length-append machine.entries entered.entries in
      omega (arith, whole, entered.counted)

  in-added : (k : ℕ) → n ≤ k → k < length after.entries → among ks k ≡ true
  in-added k low high
      = among-reversed (range_with_len n (length ms)) k
      ∙ range-in n (length ms) k low (omega (arith, high, count))

  added-in : (k : ℕ) → among ks k ≡ true → set k ≡ true
  added-in k member =
      let h
      = range-is n (length ms) k
      (sym (among-reversed (range_with_len n (length ms)) k) ∙ member) in
      asked-new k h.0 (omega (arith, h.1, count))

  in-asked : (k : ℕ) → set k ≡ true → among ks k ≡ true
  in-asked k member = in-added k (asked-low k member) (asked-inside after names k member)

  same-set : (k : ℕ) → among ks k ≡ set k
  same-set k = same-truth (among ks k) (set k) (added-in k) (in-asked k)

  module _ (alone : (j : ℕ) → j < n → is_used_only after set j ≡ false) where
    used-added : (k : ℕ) → is_used_only after (among ks) k ≡ true → among ks k ≡ true
    used-added k is =
        elim (below-or-above k n) [
          | inl less ↦ absurd
              (false≢true
              (sym (alone k less) ∙ (λ i. is_used_only after (λ u. sym (same-set u) i) k) ∙ is))
          | inr le ↦
              let user
              = some-passes (λ u. among ks u && binds after u k) (places after)
              (both-true (list_any (λ u. among ks u && binds after u k) (places after))
              (is_none (user_outside after (among ks) k)) is).0 in
              let used = (both-true (among ks user.0) (binds after user.0 k) user.1).1 in
              in-added k le
              (omega (arith, younger after user.0 k used, user-inside after user.0 k used))
        ]

    are-removed : AreRemoved after set ks
    are-removed = record {
      least
          = record {
            closed = record { asked = in-asked; used_only = used-added };
            least = λ other closed k member. closed.asked k (added-in k member);
          };
      falling = are-falling (length after.entries) ks (are-added machine after ms loaded).falling;
    }

    pub newer-removed : removed_names after names ≡ reverse (names_of ms)
    newer-removed =
        ap (λ js. map (name_at after) js)
        (removed-are-one after set (removed_by after names) ks (removed-are-least after names)
        are-removed)
        ∙ (are-added machine after ms loaded).names
