-- A load keeps a machine sound.
use Rattle.std.proofs.Common.{◌≡◌, ◌≤◌, ◌<◌, ◌+◌, ◌∙◌, ◌⊎◌, inl, inr, ℕ, zero, suc, Bool, true}
use Rattle.std.proofs.Common.{false, List, [], ◌∷◌, ◌++◌, Option, Some, None, refl, sym, ap, subst}
use Rattle.std.proofs.Common.{arith, length, map, get_or, append_assoc, append-nil}
use Rattle.std.specs.Prelude.{find, option_map, unwrap_or, All, AllPairs, not, ◌&&◌, nat_lt}
use Rattle.std.specs.Prelude.{flat_map}
use Rattle.std.specs.List.{IsDistinct, AllByRecursion, list_any}
use Rattle.std.specs.Str.{bytes_eq}
use Rattle.std.proofs.lemmas.Bool.{cases_Bool, false≢true, or_parts}
use Rattle.std.proofs.lemmas.Bool.Decides.{nat_tests}
use Rattle.std.proofs.lemmas.Cmp.{nat_list_eq_equiv}
use Rattle.std.proofs.lemmas.List.{map-append}
use Rattle.std.proofs.lemmas.List.Concat.{flat_map-append}
use Rattle.std.proofs.lemmas.List.Elements.{All-map}
use Rattle.std.proofs.lemmas.List.Folds.{list_any-append}
use Rattle.std.proofs.lemmas.Map.Keys.{IsDistinct-push, IsDistinct-head, IsDistinct-tail}
use Rattle.km_names.specs.First.{first}
use Rattle.elf_sections.specs.Shape.{fault_if}
use Rattle.module_symbols.specs.declared.needs.Need.{Need as FactsNeed}
use Rattle.module_symbols.specs.declared.exports.Export.{Export as FactsExport}
use Rattle.module_facts.specs.declared.module.Module.{Module}
use Rattle.symbol_binding.specs.Symbols.{Export, Need, Face}
use Rattle.kernel_exports.specs.declared.kernel.Kernel.{Kernel as KernelTable}
use Rattle.kernel_exports.specs.declared.kernel.KernelExport.{KernelExport}
use Rattle.symbol_binding.specs.Needs.{NeedTest, sees, may_use, agree, is_missing, is_hidden}
use Rattle.symbol_binding.specs.Needs.{is_other_version, is_barred}
use Rattle.symbol_binding.specs.Unmet.{vmlinux}
use Rattle.export_table.specs.declared.placed.PlacedExport.{PlacedExport}
use Rattle.model_loader.specs.declared.entry.Entry.{Entry}
use Rattle.load_fault.specs.declared.fault.LoadFault.{LoadFault}
use Rattle.load_fault.specs.declared.fault.LoadFault.TheVariants.{AlreadyLoaded, MissingSymbol}
use Rattle.load_fault.specs.declared.fault.LoadFault.TheVariants.{GplOnly, VersionDiffers}
use Rattle.load_fault.specs.declared.fault.LoadFault.TheVariants.{NotImported, ExportTaken}
use Rattle.module_region.specs.declared.region.Region.{Region}
use Rattle.export_table.specs.declared.standing.Standing.{Standing}
use Rattle.export_table.specs.Exports.{export_named, kernel_placed, standing}
use Rattle.model_loader.specs.Machine.{Machine, bound_export, entry_face, facts_face, facts_need}
use Rattle.model_loader.specs.Machine.{is_loaded, need_face, new_machine, table}
use Rattle.model_loader.specs.Gap.{meets_entry}
use Rattle.model_loader.specs.Sound.{Agrees, AreApart, AreBoundAfter, IsBound, IsEntryOf, IsSound}
use Rattle.model_loader.specs.Sound.{entry_names, exported_names}
use Rattle.model_loader.specs.Step.{bound_need, entry_at, module_base, module_size}
use Rattle.model_loader.specs.Step.{name_tests, need_test, placed_export, refusal, symbol_addresses}
use Rattle.model_loader.specs.Step.{taken_test, with_entry}
use Rattle.model_loader.proofs.StandingLemmas.{same_name}
use Rattle.model_loader.proofs.StepLemmas.{refusal-split}
use Rattle.model_loader.proofs.KeptLemmas.{all-append, gap-at, length-laid, module-gap, placed-new}
use Rattle.model_loader.proofs.KeptLemmas.{placed-next}
use Rattle.model_loader.proofs.ListedLemmas.{flip, names_of, unlisted}

pub first-none : {F : Type 0} (t : Option F) (rest : List (Option F)) → first (t ∷ rest) ≡ None
    → (t ≡ None) × (first rest ≡ None)
first-none None rest none = (refl, none)
first-none (Some e) rest none = absurd cc

-- Six tests that all pass.
six-none : {F : Type 0} (a b c d e f : Option F) → first (a ∷ b ∷ c ∷ d ∷ e ∷ f ∷ []) ≡ None
    → (a ≡ None) × (b ≡ None) × (c ≡ None) × (d ≡ None) × (e ≡ None) × (f ≡ None)
six-none a b c d e f none =
    let h = first-none a (b ∷ c ∷ d ∷ e ∷ f ∷ []) none in
    let i = first-none b (c ∷ d ∷ e ∷ f ∷ []) h.1 in
    let j = first-none c (d ∷ e ∷ f ∷ []) i.1 in
    let k = first-none d (e ∷ f ∷ []) j.1 in
    let l = first-none e (f ∷ []) k.1 in
    (h.0, i.0, j.0, k.0, l.0, (first-none f [] l.1).0)

mapped-none : {X Y : Type 0} (f : X → Y) (o : Option X) → option_map f o ≡ None → o ≡ None
mapped-none f None none = refl
mapped-none f (Some x) none = absurd cc

-- What isn't found is nowhere.
nowhere : {X : Type 0} (p : X → Bool) (xs : List X) → find p xs ≡ None → All (λ x. p x ≡ false) xs
nowhere p [] none k d less = absurd (omega arith)
nowhere p (x ∷ xs) none k d less =
    elim (cases_Bool (p x)) [
      | inl here ↦ absurd (let e : ◌≡◌ {A = Option _} (Some x) None = rw here at none in cc)
      | inr other ↦ at_index p x xs other (nowhere p xs (rw other at none)) k d less
    ]
  where
    at_index : {X : Type 0} (p : X → Bool) (x : X) (xs : List X) → p x ≡ false
        → All (λ y. p y ≡ false) xs → All (λ y. p y ≡ false) (x ∷ xs)
    at_index p x xs other rest zero d less = other
    at_index p x xs other rest (suc k) d less = rest k d (omega arith)

-- The tests of one need, which all pass.
pub record Passes (found : Option Export) (m : Face) (n : Need) : Type 0 where
  pub missing : is_missing found m n ≡ false
  pub hidden : is_hidden found m n ≡ false
  pub other_version : is_other_version found m n ≡ false
  pub barred : is_barred found m n ≡ false

second-true : (a b : Bool) → a ≡ true → (a && not b) ≡ false → b ≡ true
second-true true true is fails = refl
second-true true false is fails = absurd (false≢true (sym fails))
second-true false b is fails = absurd (false≢true is)

agrees-by : (found : Option Export) (m : Face) (n : Need) (e : Export) → Passes found m n
    → found ≡ Some e → sees m e ≡ true → (agree n.crc e.crc ≡ true) × (may_use m e ≡ true)
agrees-by found m n e passes is seen = (
  second-true (sees m e) (agree n.crc e.crc) seen (rw is at passes.other_version),
  second-true (sees m e) (may_use m e) seen (rw is at passes.barred),
)

bound-by : (found : Option Export) (m : Face) (n : Need) → Passes found m n → n.weak ≡ false
    → (e : Export) × ((found ≡ Some e) × (sees m e ≡ true))
bound-by None m n passes strong = absurd (let e : true ≡ false = rw strong at passes.missing in cc)
bound-by (Some e) m n passes strong =
    let unseen : not (sees m e) ≡ false = rw strong at passes.hidden in
    (e, (refl, shown (sees m e) unseen))
  where
    shown : (b : Bool) → not b ≡ false → b ≡ true
    shown true is = refl
    shown false is = absurd (false≢true (sym is))

-- The needs of the entry of a module are the needs of the module.
pub needs-same : (ns : List FactsNeed) → map need_face (map bound_need ns) ≡ map facts_need ns
needs-same [] = refl
needs-same (n ∷ ns) = ap (λ rest. facts_need n ∷ rest) (needs-same ns)

module _ (machine : Machine) (m : Module) (passed : first (name_tests machine m.facts) ≡ None) where
  abbrev under : List ℕ → Option Export
  under x = bound_export machine x

  abbrev fails_at : NeedTest → FactsNeed → Bool
  fails_at test n = test (under n.name) (facts_face m.facts) (facts_need n)

  no_need : (test : NeedTest) (fault : List ℕ → LoadFault)
      → need_test machine m.facts test fault ≡ None
      → All (λ n. fails_at test n ≡ false) m.facts.needs
  no_need test fault none =
      nowhere (fails_at test) m.facts.needs
      (mapped-none (λ (n : FactsNeed). fault n.name) (find (fails_at test) m.facts.needs) none)

  all-none : (fault_if (is_loaded machine m.facts.name) AlreadyLoaded ≡ None)
      × (need_test machine m.facts is_missing MissingSymbol ≡ None)
      × (need_test machine m.facts is_hidden GplOnly ≡ None)
      × (need_test machine m.facts is_other_version VersionDiffers ≡ None)
      × (need_test machine m.facts is_barred NotImported ≡ None)
      × (first (map (taken_test machine) m.facts.exports) ≡ None)
  all-none =
      six-none (fault_if (is_loaded machine m.facts.name) AlreadyLoaded)
      (need_test machine m.facts is_missing MissingSymbol)
      (need_test machine m.facts is_hidden GplOnly)
      (need_test machine m.facts is_other_version VersionDiffers)
      (need_test machine m.facts is_barred NotImported)
      (first (map (taken_test machine) m.facts.exports)) passed

  pub named_none : is_loaded machine m.facts.name ≡ false
  named_none = by_test (is_loaded machine m.facts.name) all-none.0
    where
      by_test : (b : Bool) → fault_if b AlreadyLoaded ≡ None → b ≡ false
      by_test false none = refl
      by_test true none = absurd cc

  pub needs-pass : All (λ n. Passes (under n.name) (facts_face m.facts) n)
      (facts_face m.facts).needs
  needs-pass =
      All-map (λ n. Passes (under n.name) (facts_face m.facts) n) facts_need m.facts.needs
      (λ k d less. record {
        missing = no_need is_missing MissingSymbol all-none.1 k d less;
        hidden = no_need is_hidden GplOnly all-none.2 k d less;
        other_version = no_need is_other_version VersionDiffers all-none.3 k d less;
        barred = no_need is_barred NotImported all-none.4 k d less;
      })

  pub exports-pass : first (map (taken_test machine) m.facts.exports) ≡ None
  exports-pass = all-none.5

  pub entry-of : (base : ℕ) → IsEntryOf machine m (entry_at machine m base)
  unfolding entry_at
  entry-of base =
      let e = entry_at machine m base in
      let needs : (entry_face e).needs ≡ (facts_face m.facts).needs = needs-same m.facts.needs in
      record {
        entry = refl;
        strong =
            subst (All (λ (n : Need). n.weak ≡ false → IsBound machine (entry_face e) n))
            (sym needs)
            (λ k d less strong.
            let n = get_or (facts_face m.facts).needs k d in
            let passes = needs-pass k d less in
            let bound = bound-by (under n.name) (facts_face m.facts) n passes strong in
            let agreed
            = agrees-by (under n.name) (facts_face m.facts) n bound.0 passes bound.1.0 bound.1.1
            in
            record {
              export = bound.0;
              found = bound.1.0;
              seen = bound.1.1;
              agreeing = agreed.0;
              allowed = agreed.1;
            });
        agreeing =
            subst (All (Agrees machine (entry_face e))) (sym needs)
            (λ k d less x found seen.
            let n = get_or (facts_face m.facts).needs k d in
            agrees-by (under n.name) (facts_face m.facts) n x (needs-pass k d less) found seen);
      }

-- One module and its entry more.
bound-more : (machine : Machine) (before : List Entry) (ms : List Module) (es : List Entry)
    (m : Module) (e : Entry)
    → AreBoundAfter machine before ms es → IsEntryOf (record machine { entries = before ++ es }) m e
    → AreBoundAfter machine before (ms ++ m ∷ []) (es ++ e ∷ [])
bound-more machine before [] [] m e all here = (
  subst (λ (l : List Entry). IsEntryOf (record machine { entries = l }) m e) (append-nil before)
      here,
  tt,
)
bound-more machine before [] (f ∷ es) m e all here = absurd all
bound-more machine before (n ∷ ms) [] m e all here = absurd all
bound-more machine before (n ∷ ms) (f ∷ es) m e all here = (
  all.0,
  bound-more machine (before ++ f ∷ []) ms es m e all.1
      (subst (λ (l : List Entry). IsEntryOf (record machine { entries = l }) m e)
      (sym (append_assoc before (f ∷ []) es)) here),
)

bound-same : (machine : Machine) (e : Entry) (before : List Entry) (ms : List Module)
    (es : List Entry)
    → AreBoundAfter machine before ms es → AreBoundAfter (with_entry machine e) before ms es
bound-same machine e before [] [] all = all
bound-same machine e before [] (f ∷ es) all = absurd all
bound-same machine e before (n ∷ ms) [] all = absurd all
bound-same machine e before (n ∷ ms) (f ∷ es) all =
    (all.0, bound-same machine e (before ++ f ∷ []) ms es all.1)

other_names : (y x : List ℕ) → (y ≡ x → ⊥) → bytes_eq y x ≡ false
other_names y x apart =
    elim (cases_Bool (bytes_eq y x))
    [ inl is ↦ absurd (apart (same_name y x is)) | inr other ↦ other ]

join : (x : List ℕ) (xs ys : List (List ℕ)) → unlisted x xs → unlisted x ys → unlisted x (xs ++ ys)
join x xs ys one other = list_any-append (bytes_eq x) xs ys ∙ rw (one, other) refl

-- Each of these names passes.
abbrev Each : (List ℕ → Type 0) → List (List ℕ) → Type 0
Each P [] = Unit {0}
Each P (y ∷ ys) = P y × Each P ys

each-map : (P Q : List ℕ → Type 0) → ((y : List ℕ) → P y → Q y) → (ys : List (List ℕ)) → Each P ys
    → Each Q ys
each-map P Q f [] all = tt
each-map P Q f (y ∷ ys) all = (f y all.0, each-map P Q f ys all.1)

each-both : (P Q R : List ℕ → Type 0) → ((y : List ℕ) → P y → Q y → R y) → (ys : List (List ℕ))
    → Each P ys → Each Q ys → Each R ys
each-both P Q R f [] ps qs = tt
each-both P Q R f (y ∷ ys) ps qs = (f y ps.0 qs.0, each-both P Q R f ys ps.1 qs.1)

later-apart : (y : List ℕ) (ys : List (List ℕ)) → AllByRecursion (λ z. bytes_eq y z ≡ false) ys
    → Each (λ z. bytes_eq z y ≡ false) ys
later-apart y [] all = tt
later-apart y (z ∷ ys) all = (flip z y ∙ all.0, later-apart y ys all.1)

distinct-append : (xs ys : List (List ℕ)) → IsDistinct bytes_eq xs → IsDistinct bytes_eq ys
    → Each (λ y. unlisted y xs) ys → IsDistinct bytes_eq (xs ++ ys)
distinct-append xs [] d_xs d_ys apart = rw (append-nil xs) d_xs
distinct-append xs (y ∷ ys) d_xs d_ys apart =
    let pushed : IsDistinct bytes_eq (xs ++ y ∷ [])
    = IsDistinct-push nat_list_eq_equiv xs y d_xs apart.0 in
    let rest : Each (λ z. unlisted z (xs ++ y ∷ [])) ys =
    each-both (λ z. unlisted z xs) (λ z. bytes_eq z y ≡ false) (λ z. unlisted z (xs ++ y ∷ []))
    (λ z out other. join z xs (y ∷ []) out (rw other refl)) ys apart.1
    (later-apart y ys (IsDistinct-head bytes_eq y ys d_ys)) in
    rw (sym (append_assoc xs (y ∷ []) ys))
    (distinct-append (xs ++ y ∷ []) ys pushed (IsDistinct-tail bytes_eq y ys d_ys) rest)

-- Nothing is under a name: nobody exports it.
unexported-kernel : (x : List ℕ) (es : List KernelExport)
    → export_named x (map kernel_placed es) ≡ None
    → unlisted x (map (λ (e : KernelExport). e.name) es)
unexported-kernel x [] none = refl
unexported-kernel x (e ∷ es) none =
    elim (cases_Bool (bytes_eq e.name x)) [
      | inl is ↦ absurd
          (let w : ◌≡◌ {A = Option PlacedExport} (Some (kernel_placed e)) None
          = rw is at none in cc)
      | inr other ↦ rw (flip x e.name, other) (unexported-kernel x es (rw other at none))
    ]

unexported-by : (x : List ℕ) (es : List PlacedExport) → export_named x es ≡ None
    → unlisted x (map (λ (e : PlacedExport). e.name) es)
unexported-by x [] none = refl
unexported-by x (e ∷ es) none =
    elim (cases_Bool (bytes_eq e.name x)) [
      | inl is ↦ absurd (let w : ◌≡◌ {A = Option PlacedExport} (Some e) None = rw is at none in cc)
      | inr other ↦ rw (flip x e.name, other) (unexported-by x es (rw other at none))
    ]

unexported-entries : (x : List ℕ) (es : List Entry)
    → first (map (λ (e : Entry). option_map (standing (Some e.loaded.name))
    (export_named x e.exports)) es)
    ≡ None
    → unlisted x (flat_map names_of es)
unexported-entries x [] none = refl
unexported-entries x (e ∷ es) none =
    let h
    = first-none (option_map (standing (Some e.loaded.name)) (export_named x e.exports)) _ none
    in
    join x (names_of e) (flat_map names_of es)
    (unexported-by x e.exports
    (mapped-none (standing (Some e.loaded.name)) (export_named x e.exports) h.0))
    (unexported-entries x es h.1)

unexported : (machine : Machine) (x : List ℕ) → table machine x ≡ None
    → unlisted x (exported_names machine)
unfolding table
unexported machine x none =
    let kernel
    = option_map (standing None) (export_named x (map kernel_placed machine.kernel.exports)) in
    let entries
    = first (map
    (λ (e : Entry). option_map (standing (Some e.loaded.name)) (export_named x e.exports))
    machine.entries) in
    let h = first-none kernel (entries ∷ []) none in
    let k = first-none entries [] h.1 in
    join x (map (λ (e : KernelExport). e.name) machine.kernel.exports)
    (flat_map names_of machine.entries)
    (unexported-kernel x machine.kernel.exports
    (mapped-none (standing None) (export_named x (map kernel_placed machine.kernel.exports))
    h.0))
    (unexported-entries x machine.entries k.0)

untaken : (machine : Machine) (es : List FactsExport) → first (map (taken_test machine) es) ≡ None
    → Each (λ x. unlisted x (exported_names machine)) (map (λ (e : FactsExport). e.name) es)
untaken machine [] none = tt
untaken machine (e ∷ es) none =
    let h = first-none (taken_test machine e) _ none in
    let nothing
    = mapped-none (λ (s : Standing). ExportTaken e.name (unwrap_or s.owner vmlinux))
    (table machine e.name) h.0 in
    (unexported machine e.name nothing, untaken machine es h.1)

own-distinct : (es : List FactsExport) → AllPairs (λ (a b : FactsExport). a.name ≡ b.name → ⊥) es
    → IsDistinct bytes_eq (map (λ (e : FactsExport). e.name) es)
unfolding IsDistinct
own-distinct [] apart = tt
own-distinct (e ∷ es) apart = (
  head es (λ k d less. apart 0 (suc k) d (omega arith) (omega arith)),
  own-distinct es
      (λ i j d less inside. apart (suc i) (suc j) d (omega arith) (omega arith)),
)
  where
    head : (fs : List FactsExport)
        → ((k : ℕ) (d : FactsExport) → k < length fs → e.name ≡ (get_or fs k d).name → ⊥)
        → AllByRecursion (λ z. bytes_eq e.name z ≡ false) (map (λ (f : FactsExport). f.name) fs)
    head [] all = tt
    head (f ∷ fs) all
        = (
          other_names e.name f.name (all 0 f (omega arith)),
          head fs (λ k d less. all (suc k) d (omega arith)),
        )

kernel-distinct : (es : List KernelExport)
    → AllPairs (λ (a b : KernelExport). a.name ≡ b.name → ⊥) es
    → IsDistinct bytes_eq (map (λ (e : KernelExport). e.name) es)
unfolding IsDistinct
kernel-distinct [] apart = tt
kernel-distinct (e ∷ es) apart = (
  head es (λ k d less. apart 0 (suc k) d (omega arith) (omega arith)),
  kernel-distinct es
      (λ i j d less inside. apart (suc i) (suc j) d (omega arith) (omega arith)),
)
  where
    head : (fs : List KernelExport)
        → ((k : ℕ) (d : KernelExport) → k < length fs → e.name ≡ (get_or fs k d).name → ⊥)
        → AllByRecursion (λ z. bytes_eq e.name z ≡ false) (map (λ (f : KernelExport). f.name) fs)
    head [] all = tt
    head (f ∷ fs) all
        = (
          other_names e.name f.name (all 0 f (omega arith)),
          head fs (λ k d less. all (suc k) d (omega arith)),
        )

unnamed : (es : List Entry) (x : List ℕ)
    → list_any (λ (e : Entry). bytes_eq e.loaded.name x) es ≡ false
    → unlisted x (map (λ (e : Entry). e.loaded.name) es)
unnamed [] x none = refl
unnamed (e ∷ es) x none =
    let h
    = or_parts (bytes_eq e.loaded.name x)
    (list_any (λ (n : Entry). bytes_eq n.loaded.name x) es) none in
    rw (flip x e.loaded.name, h.0) (unnamed es x h.1)

-- The image of a gap meets no other.
apart_of : (a n b k : ℕ) → (nat_lt a (b + k) && nat_lt b (a + n)) ≡ false
    → (b + k ≤ a) ⊎ (a + n ≤ b)
apart_of a n b k none = grind (arith, nat_tests)

apart-more : (es : List Entry) (e : Entry) → AllPairs AreApart es
    → list_any (meets_entry e.loaded.base (length e.image)) es ≡ false
    → AllPairs AreApart (es ++ e ∷ [])
apart-more [] e apart free i zero d less inside = absurd (omega arith)
apart-more [] e apart free i (suc j) d less inside = absurd (omega arith)
apart-more (f ∷ es) e apart free zero zero d less inside = absurd (omega arith)
apart-more (f ∷ es) e apart free (suc i) zero d less inside = absurd (omega arith)
apart-more (f ∷ es) e apart free (suc i) (suc j) d less inside =
    let h
    = or_parts (meets_entry e.loaded.base (length e.image) f)
    (list_any (meets_entry e.loaded.base (length e.image)) es) free in
    apart-more es e (λ a b c one other. apart (suc a) (suc b) c (omega arith) (omega arith)) h.1 i j
    d (omega arith) (omega arith)
apart-more (f ∷ es) e apart free zero (suc j) d less inside =
    let h
    = or_parts (meets_entry e.loaded.base (length e.image) f)
    (list_any (meets_entry e.loaded.base (length e.image)) es) free in
    let here : AreApart f e =
    elim (apart_of e.loaded.base (length e.image) f.loaded.base (length f.image) h.0)
    [ inl before ↦ inl before | inr after ↦ inr after ] in
    all-append (AreApart f) es e (λ k c inside_k. apart 0 (suc k) c (omega arith) (omega arith))
    here j d (omega arith)

names-same : (machine : Machine) (m : Module) (base : ℕ) (es : List FactsExport)
    → map (λ (x : PlacedExport). x.name) (map (placed_export machine m base) es)
    ≡ map (λ (e : FactsExport). e.name) es
names-same machine m base [] = refl
names-same machine m base (e ∷ es) = ap (λ rest. e.name ∷ rest) (names-same machine m base es)

-- No two modules have one name with the entry of a module that isn't refused.
pub names-next : (machine : Machine) (m : Module) (base : ℕ)
    → first (name_tests machine m.facts) ≡ None → IsDistinct bytes_eq (entry_names machine)
    → IsDistinct bytes_eq (entry_names (with_entry machine (entry_at machine m base)))
unfolding entry_at
names-next machine m base passed distinct =
    subst (IsDistinct bytes_eq)
    (sym (map-append (λ (x : Entry). x.loaded.name) machine.entries
    (entry_at machine m base ∷ [])))
    (IsDistinct-push nat_list_eq_equiv (entry_names machine) m.facts.name distinct
    (unnamed machine.entries m.facts.name (named_none machine m passed)))

-- No name is exported twice with the entry of a module that isn't refused.
pub exports-next : (machine : Machine) (m : Module) (base : ℕ)
    → first (name_tests machine m.facts) ≡ None → IsDistinct bytes_eq (exported_names machine)
    → IsDistinct bytes_eq (exported_names (with_entry machine (entry_at machine m base)))
unfolding entry_at
exports-next machine m base passed distinct =
    let e = entry_at machine m base in
    let own = map (λ (x : FactsExport). x.name) m.facts.exports in
    let exports : exported_names (with_entry machine e) ≡ exported_names machine ++ own =
    ap (λ l. map (λ (x : KernelExport). x.name) machine.kernel.exports ++ l)
    (flat_map-append names_of machine.entries (e ∷ [])
    ∙ ap (λ l. flat_map names_of machine.entries ++ l)
    (append-nil (names_of e) ∙ names-same machine m base m.facts.exports))
    ∙ sym (append_assoc (map (λ (x : KernelExport). x.name) machine.kernel.exports)
    (flat_map names_of machine.entries) own) in
    subst (IsDistinct bytes_eq) (sym exports)
    (distinct-append (exported_names machine) own distinct
    (own-distinct m.facts.exports m.sound.distinct)
    (untaken machine m.facts.exports (exports-pass machine m passed)))

pub names-new : (kernel : KernelTable) (region : Region)
    → IsDistinct bytes_eq (entry_names (new_machine kernel region))
unfolding IsDistinct
names-new kernel region = tt

-- No name is exported twice in a machine without modules.
pub exports-new : (kernel : KernelTable) (region : Region)
    → IsDistinct bytes_eq (exported_names (new_machine kernel region))
exports-new kernel region =
    subst (IsDistinct bytes_eq)
    (sym (append-nil (map (λ (x : KernelExport). x.name) kernel.exports)))
    (kernel-distinct kernel.exports kernel.table.distinct)

pub sound-next : (machine : Machine) (ms : List Module) (m : Module) → refusal machine m ≡ None
    → IsSound machine ms
    → IsSound (with_entry machine (entry_at machine m (module_base machine m))) (ms ++ m ∷ [])
unfolding entry_at
sound-next machine ms m none sound =
    let tests = refusal-split machine m none in
    let base = module_base machine m in
    let e = entry_at machine m base in
    let hole = module-gap machine m tests.1 in
    let at = gap-at machine.region machine.entries (module_size m) base hole in
    let long = length-laid m.object base (symbol_addresses machine m base) in
    record {
      bound
          = bound-more (with_entry machine e) [] ms machine.entries m e
          (bound-same machine e [] ms machine.entries sound.bound)
          (entry-of machine m tests.0 base);
      names = names-next machine m base tests.0 sound.names;
      exports = exports-next machine m base tests.0 sound.exports;
      placed = placed-next machine e sound.placed (placed-new machine m base hole);
      apart
          = apart-more machine.entries e sound.apart
          (ap (λ n. list_any (meets_entry base n) machine.entries) long ∙ at.free);
    }
