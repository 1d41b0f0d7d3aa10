-- Loads are undone by taking the modules out, youngest first.
use Rattle.std.proofs.Common.{◌≡◌, ◌∙◌, ◌≤◌, ◌<◌, ◌+◌, map, inl, inr, ℕ, false, List, [], ◌∷◌, ◌++◌}
use Rattle.std.proofs.Common.{None, refl, sym, ap, subst, arith, length}
use Rattle.std.specs.Prelude.{◌&&◌, nat_lt, reverse, slice_get, Result, Ok, Err}
use Rattle.std.specs.List.{range_with_len}
use Rattle.std.specs.Option.{option_map_or}
use Rattle.std.proofs.lemmas.Bool.{cases_Bool}
use Rattle.std.proofs.lemmas.List.{map-append, reverse-append}
use Rattle.std.proofs.lemmas.Bool.Decides.{nat_tests}
use Rattle.module_facts.specs.declared.module.Module.{Module}
use Rattle.model_loader.specs.declared.entry.Entry.{Entry}
use Rattle.load_fault.specs.declared.fault.LoadFault.{LoadFault}
use Rattle.model_loader.specs.Machine.{Machine}
use Rattle.model_loader.specs.Step.{entry_at, module_base, step, with_entry}
use Rattle.model_loader.specs.Use.{AreUnused, IsUnused, name_at, uses_entry, without, without_all}
use Rattle.laws_closed_plans.specs.Loads.{load_all, unless_refused}
use Rattle.model_loader.proofs.PlaceLemmas.{length-pushed, new-last, old-stays, past, remove-last}
use Rattle.model_unload.specs.Unload.{AreFallingFrom, unload_all}
use Rattle.model_unload.proofs.NameLemmas.{unused-are-unloaded}
use Rattle.laws_removal.specs.Loads.{LoadsAreUndone, LoadsAreUnloaded, added}
use Rattle.laws_closed_plans.specs.Binding.{names_of}
use Rattle.std.proofs.Math.Bool.{and-false}
use Rattle.laws_closed_plans.proofs.LoadLemmas.{step-next}

-- The last entry is used by none.
last-unused : (machine : Machine) (e : Entry)
    → IsUnused (with_entry machine e) (length machine.entries)
last-unused machine e k =
    elim (cases_Bool (nat_lt (length machine.entries) k)) [
      | inl above ↦
          let less : length machine.entries < k = grind (arith, nat_tests) in
          let none : slice_get (machine.entries ++ e ∷ []) k ≡ None
          = past (machine.entries ++ e ∷ []) k
          (omega (arith, less, length-pushed machine.entries e)) in
          ap (λ o. nat_lt (length machine.entries) k
          && option_map_or
          (λ user. option_map_or (uses_entry user)
          (slice_get (machine.entries ++ e ∷ []) (length machine.entries)) false) o
          false) none
          ∙ and-false (nat_lt (length machine.entries) k)
      | inr below ↦ ap
          (λ b. b
          && option_map_or
          (λ user. option_map_or (uses_entry user)
          (slice_get (machine.entries ++ e ∷ []) (length machine.entries)) false)
          (slice_get (machine.entries ++ e ∷ []) k) false) below
    ]

last-taken : (machine : Machine) (e : Entry)
    → without (with_entry machine e) (length machine.entries) ≡ machine
last-taken machine e = ap (λ es. record machine { entries = es }) (remove-last machine.entries e)

-- One place more, which is taken last.
all-push : (machine : Machine) (js : List ℕ) (j : ℕ)
    → without_all machine (js ++ j ∷ []) ≡ without (without_all machine js) j
all-push machine [] j = refl
all-push machine (i ∷ js) j = all-push (without machine i) js j

unused-push : (machine : Machine) (js : List ℕ) (j : ℕ) → AreUnused machine js
    → IsUnused (without_all machine js) j → AreUnused machine (js ++ j ∷ [])
unused-push machine [] j all last = (last, tt)
unused-push machine (i ∷ js) j all last = (all.0, unused-push (without machine i) js j all.1 last)

reverse-cons : (n : ℕ) (ns : List ℕ) → reverse (n ∷ ns) ≡ reverse ns ++ n ∷ []
reverse-cons n ns = reverse-append (n ∷ []) ns

abbrev Undone : Machine → Machine → List ℕ → Type 0
Undone machine after js = AreUnused after js × (without_all after js ≡ machine)

-- One load more, which came first.
undone-first : (machine after : Machine) (e : Entry) (js : List ℕ)
    → Undone (with_entry machine e) after js
    → Undone machine after (js ++ length machine.entries ∷ [])
undone-first machine after e js undone =
    let n = length machine.entries in (
      unused-push after js n undone.0
          (subst (λ (k : Machine). IsUnused k n) (sym undone.1) (last-unused machine e)),
      all-push after js n ∙ ap (λ (k : Machine). without k n) undone.1 ∙ last-taken machine e,
    )

pub loads-undone : LoadsAreUndone
loads-undone machine after [] is = (tt, let same : after ≡ machine = cc in same)
loads-undone machine after (m ∷ ms) is =
    go (step machine m) refl is (λ mid. loads-undone mid after ms)
  where
    go : (r : Result Machine LoadFault) → step machine m ≡ r
        → unless_refused (λ mid. load_all mid ms) r ≡ Ok after
        → ((mid : Machine) → load_all mid ms ≡ Ok after → Undone mid after (added mid ms))
        → Undone machine after (added machine (m ∷ ms))
    go (Err fault) at done later
        = absurd (let e : ◌≡◌ {A = Result Machine LoadFault} (Err fault) (Ok after) = done in cc)
    go (Ok mid) at done later =
        let n = length machine.entries in
        let e = entry_at machine m (module_base machine m) in
        let next : mid ≡ with_entry machine e = (step-next machine m mid at).is in
        let places : added (with_entry machine e) ms ≡ reverse (range_with_len (n + 1) (length ms))
        = ap (λ k. reverse (range_with_len k (length ms))) (length-pushed machine.entries e) in
        let undone : Undone (with_entry machine e) after
        (reverse (range_with_len (n + 1) (length ms)))
        =
        subst (Undone (with_entry machine e) after) places
        (subst (λ (k : Machine). Undone k after (added k ms)) next (later mid done)) in
        subst (Undone machine after) (sym (reverse-cons n (range_with_len (n + 1) (length ms))))
        (undone-first machine after e (reverse (range_with_len (n + 1) (length ms))) undone)

-- The same by names.
abbrev Each : (ℕ → Type 0) → List ℕ → Type 0
Each P [] = Unit {0}
Each P (j ∷ js) = P j × Each P js

fall-push : (m n : ℕ) (js : List ℕ) → AreFallingFrom m js → Each (λ j. n < j) js → n < m
    → AreFallingFrom m (js ++ n ∷ [])
fall-push m n [] fall over less = (less, tt)
fall-push m n (j ∷ js) fall over less = (fall.0, fall-push j n js fall.1 over.1 over.0)

each-push : (n : ℕ) (js : List ℕ) → Each (λ j. n < j) js → Each (λ j. n ≤ j) (js ++ n ∷ [])
each-push n [] over = (omega arith, tt)
each-push n (j ∷ js) over = (omega (arith, over.0), each-push n js over.1)

each-more : (n k : ℕ) (js : List ℕ) → k ≡ n + 1 → Each (λ j. k ≤ j) js → Each (λ j. n < j) js
each-more n k [] is over = tt
each-more n k (j ∷ js) is over = (omega (arith, is, over.0), each-more n k js is over.1)

-- What loads added to a machine.
pub record AreAdded (machine after : Machine) (ms : List Module) (js : List ℕ) : Type 0 where
  pub falling : AreFallingFrom (length after.entries) js
  pub low : Each (λ j. length machine.entries ≤ j) js
  pub names : map (name_at after) js ≡ reverse (names_of ms)
  pub stays : (k : ℕ) → k < length machine.entries
      → slice_get after.entries k ≡ slice_get machine.entries k
  pub more : length machine.entries ≤ length after.entries

pub entry-name : (machine : Machine) (m : Module) (base : ℕ)
    → (entry_at machine m base).loaded.name ≡ m.facts.name
unfolding entry_at
entry-name machine m base = refl

added-first : (machine after : Machine) (m : Module) (e : Entry) (ms : List Module) (js : List ℕ)
    → e.loaded.name ≡ m.facts.name → AreAdded (with_entry machine e) after ms js
    → AreAdded machine after (m ∷ ms) (js ++ length machine.entries ∷ [])
added-first machine after m e ms js named all =
    let n = length machine.entries in
    let longer : length (machine.entries ++ e ∷ []) ≡ n + 1 = length-pushed machine.entries e in
    let over : Each (λ j. n < j) js
    = each-more n (length (machine.entries ++ e ∷ [])) js longer all.low in
    let mine : name_at after n ≡ m.facts.name =
    ap (λ o. option_map_or (λ (x : Entry). x.loaded.name) o [])
    (all.stays n (omega (arith, longer)) ∙ new-last machine.entries e)
    ∙ named in
    record {
      falling
          = fall-push (length after.entries) n js all.falling over
          (omega (arith, longer, all.more));
      low = each-push n js over;
      names =
          map-append (name_at after) js (n ∷ [])
          ∙ ap (λ l. l ++ name_at after n ∷ []) all.names
          ∙ ap (λ x. reverse (names_of ms) ++ x ∷ []) mine
          ∙ sym (reverse-append (m.facts.name ∷ []) (names_of ms));
      stays
          = λ k less. all.stays k (omega (arith, longer, less))
          ∙ old-stays machine.entries e k less;
      more = omega (arith, longer, all.more);
    }

pub are-added : (machine after : Machine) (ms : List Module) → load_all machine ms ≡ Ok after
    → AreAdded machine after ms (added machine ms)
are-added machine after [] is =
    let same : machine ≡ after = cc in
    record {
      falling = tt;
      low = tt;
      names = refl;
      stays = λ k less. ap (λ (m : Machine). slice_get m.entries k) (sym same);
      more
          = subst (λ (m : Machine). length machine.entries ≤ length m.entries) same
          (omega arith);
    }
are-added machine after (m ∷ ms) is = go (step machine m) refl is (λ mid. are-added mid after ms)
  where
    go : (r : Result Machine LoadFault) → step machine m ≡ r
        → unless_refused (λ mid. load_all mid ms) r ≡ Ok after
        → ((mid : Machine) → load_all mid ms ≡ Ok after → AreAdded mid after ms (added mid ms))
        → AreAdded machine after (m ∷ ms) (added machine (m ∷ ms))
    go (Err fault) at done later
        = absurd (let e : ◌≡◌ {A = Result Machine LoadFault} (Err fault) (Ok after) = done in cc)
    go (Ok mid) at done later =
        let n = length machine.entries in
        let e = entry_at machine m (module_base machine m) in
        let next : mid ≡ with_entry machine e = (step-next machine m mid at).is in
        let places : added (with_entry machine e) ms ≡ reverse (range_with_len (n + 1) (length ms))
        = ap (λ k. reverse (range_with_len k (length ms))) (length-pushed machine.entries e) in
        let all : AreAdded (with_entry machine e) after ms
        (reverse (range_with_len (n + 1) (length ms)))
        =
        subst (AreAdded (with_entry machine e) after ms) places
        (subst (λ (k : Machine). AreAdded k after ms (added k ms)) next (later mid done)) in
        subst (AreAdded machine after (m ∷ ms))
        (sym (reverse-cons n (range_with_len (n + 1) (length ms))))
        (added-first machine after m e ms (reverse (range_with_len (n + 1) (length ms)))
        (entry-name machine m (module_base machine m)) all)

pub loads-unloaded : LoadsAreUnloaded
loads-unloaded machine after ms is distinct =
    let undone = loads-undone machine after ms is in
    let all = are-added machine after ms is in
    ap (unload_all after) (sym all.names)
    ∙ unused-are-unloaded after (added machine ms) distinct all.falling undone.0
    ∙ ap Ok undone.1
