-- What the tests say of the facts that pass them.
use Rattle.std.proofs.Common.{◌≡◌, ℕ, suc, ◌+◌, ◌<◌, ◌≤◌, Bool, true, false, ◌&&◌, cond, List, []}
use Rattle.std.proofs.Common.{◌∷◌, length, map, take, get_or, slice_index_or, find, Option, Some}
use Rattle.std.proofs.Common.{None, is_none, option_map, unwrap_or, All, AllPairs, IsTrue, refl}
use Rattle.std.proofs.Common.{sym, ap, ◌∙◌, inl, inr, true≢false, not, ltb, arith}
use Rattle.std.proofs.lemmas.Bool.{cases_lt, lt-ltb}
use Rattle.std.proofs.lemmas.List.{get_or-take, length-take-le}
use Rattle.std.proofs.lemmas.List.Elements.{All-cons, All-filter, All-map, All-nil}
use Rattle.std.proofs.lemmas.List.Sums.{get_or-le-sum_by, sum_by_more_le}
use Rattle.std.proofs.lemmas.Slice.Eq.{bytes_eq-Decides}
use Rattle.std.specs.List.{count_by, enumerate_from, filter, filter_map, list_all}
use Rattle.std.specs.Str.{bytes_eq}
use Rattle.km_names.specs.Ascii.{is_graphic}
use Rattle.km_names.specs.First.{first}
use Rattle.elf_object.specs.Object.{FileObject}
use Rattle.elf_sections.specs.Shape.{fault_if}
use Rattle.elf_object.specs.declared.symbol.Symbol.{Symbol}
use Rattle.module_symbols.specs.declared.exports.Export.{Export}
use Rattle.module_facts.specs.declared.facts.Facts.{Facts}
use Rattle.module_symbols.specs.declared.needs.Need.{Need}
use Rattle.module_facts.specs.declared.fault.ModuleFault.{ModuleFault}
use Rattle.module_facts.specs.declared.fault.ModuleFault.TheVariants.{BadName, BadVersions}
use Rattle.module_facts.specs.declared.fault.ModuleFault.TheVariants.{ExportTwice, ExportUndefined}
use Rattle.module_facts.specs.declared.fault.ModuleFault.TheVariants.{NameTooLong}
use Rattle.module_symbols.specs.declared.role.Role.TheVariants.{Definition, Export as OfExport}
use Rattle.module_symbols.specs.Roles.{first_symbol, stated_name}
use Rattle.module_symbols.specs.Exports.{export_of, exports_of}
use Rattle.module_symbols.specs.Needs.{is_need, need_of, needs_of}
use Rattle.module_symbols.specs.Versions.{version_list}
use Rattle.module_facts.specs.Facts.{object_facts}
use Rattle.module_facts.specs.Faults.{facts_tests, has_bad_versions, has_good_names, is_twice}
use Rattle.module_facts.specs.Faults.{is_undefined, space_test, twice_test, undefined_test}
use Rattle.module_facts.specs.Module.{IsSound}
use Rattle.module_symbols.proofs.SymbolLemmas.{first_symbol-within}

-- ---- tests that pass

-- where no test fails, the first passes and so do the others
passed-both : {F : Type 0} (test : Option F) (tests : List (Option F)) → first (test ∷ tests) ≡ None
    → (test ≡ None) × (first tests ≡ None)
passed-both None tests h = (refl, h)
passed-both (Some fault) tests h = absurd (cc)

passed-if : {F : Type 0} (b : Bool) (fault : F) → fault_if b fault ≡ None → b ≡ false
passed-if true fault h = absurd (cc)
passed-if false fault h = refl

passed-find : {X F : Type 0} (o : Option X) (f : X → F) → option_map f o ≡ None → o ≡ None
passed-find None f h = refl
passed-find (Some x) f h = absurd (cc)

not-false : (b : Bool) → not b ≡ false → b ≡ true
not-false true h = refl
not-false false h = absurd (true≢false h)

both : (a b : Bool) → (a && b) ≡ true → (a ≡ true) × (b ≡ true)
both true b h = (refl, h)
both false b h = absurd (true≢false (sym h))

-- each item passes
All-passed : {X : Type 0} (p : X → Bool) (xs : List X) → list_all p xs ≡ true
    → All (λ x. IsTrue (p x)) xs
All-passed p [] h = All-nil (λ x. IsTrue (p x))
All-passed p (x ∷ xs) h =
    let w
    = both (p x) (list_all p xs) h in All-cons (λ y. IsTrue (p y)) x xs w.0
    (All-passed p xs w.1)

lost : {X : Type 0} (b : Bool) (x : X) (later : Option X) → cond b (Some x) later ≡ None
    → (b ≡ false) × (later ≡ None)
lost true x later h = absurd (cc)
lost false x later h = (refl, h)

-- none is found, so none passes
All-lost : {X : Type 0} (p : X → Bool) (xs : List X) → find p xs ≡ None → All (λ x. p x ≡ false) xs
All-lost p [] h = All-nil (λ x. p x ≡ false)
All-lost p (x ∷ xs) h =
    let w = lost (p x) x (find p xs) h in All-cons (λ y. p y ≡ false) x xs w.0 (All-lost p xs w.1)

-- ---- no two exports have one name

-- two items that pass are counted
count-two : {X : Type 0} (q : X → Bool) (xs : List X) (i j : ℕ) (d : X) → i < j → j < length xs
    → q (get_or xs i d) ≡ true → q (get_or xs j d) ≡ true → 1 < count_by q xs
count-two {X} q xs i j d before within one two =
    let f : X → ℕ = λ x. cond (q x) 1 0 in
    let early : f (get_or (take j xs) i d) ≡ 1
    = ap f (get_or-take j xs i d before) ∙ ap (λ b. cond b 1 0) one in
    let late : f (get_or xs j d) ≡ 1 = ap (λ b. cond b 1 0) two in
    let long : length (take j xs) ≡ j = length-take-le j xs (omega arith) in
    omega (
      arith,
      early,
      late,
      get_or-le-sum_by f (take j xs) i d (omega arith),
      sum_by_more_le f xs j d within,
    )

distinct : (exports : List Export) → All (λ e. is_twice exports e ≡ false) exports
    → AllPairs (λ (a b : Export). a.name ≡ b.name → ⊥) exports
unfolding is_twice
distinct exports once = λ i j d before within same.
    let a : Export = get_or exports i d in
    let q : Export → Bool = λ other. bytes_eq other.name a.name in
    let two : 1 < count_by q exports
    = count-two q exports i j d before within ((bytes_eq-Decides a.name a.name).1 refl)
    ((bytes_eq-Decides (get_or exports j d).name a.name).1 (sym same)) in
    true≢false (sym (lt-ltb 1 (count_by q exports) two) ∙ once i d (omega arith))

-- ---- what the exports stand for

below : (o : Option ℕ) (n : ℕ) → ((i : ℕ) → Some i ≡ o → i < n) → is_none o ≡ false
    → unwrap_or o 0 < n
below None n within h = absurd (true≢false h)
below (Some i) n within h = within i refl

-- an export of a name that is defined
symbol-within : (o : FileObject) (name : List ℕ) → is_undefined o (export_of o name) ≡ false
    → (export_of o name).symbol < length o.symbols
unfolding is_undefined export_of
symbol-within o name h =
    below (first_symbol Definition o name) (length o.symbols)
    (first_symbol-within Definition o name) h

exported : (o : FileObject) (names : List (List ℕ))
    → All (λ e. is_undefined o e ≡ false) (map (export_of o) names)
    → All (λ (e : Export). e.symbol < length o.symbols) (map (export_of o) names)
exported o [] h = All-nil (λ (e : Export). e.symbol < length o.symbols)
exported o (name ∷ names) h =
    All-cons (λ (e : Export). e.symbol < length o.symbols) (export_of o name)
    (map (export_of o) names)
    (symbol-within o name (h 0 (export_of o name) (omega arith)))
    (exported o names (λ k d less. h (suc k) d (omega arith)))

-- ---- and the needs

numbered : {X : Type 0} (xs : List X) (n m : ℕ) → n + length xs ≤ m
    → All (λ (p : ℕ × X). p.0 < m) (enumerate_from n xs)
numbered {X} [] n m h = All-nil (λ (p : ℕ × X). p.0 < m)
numbered {X} (x ∷ xs) n m h =
    All-cons (λ (p : ℕ × X). p.0 < m) (n, x) (enumerate_from (n + 1) xs) (omega arith)
    (numbered xs (n + 1) m (omega arith))

need-at : (versions : List (List ℕ × ℕ)) (i n : ℕ) (s : Symbol) → i < n
    → (need_of versions i s).symbol < n
unfolding need_of
need-at versions i n s h = h

needed : (o : FileObject) → All (λ (n : Need). n.symbol < length o.symbols) (needs_of o)
unfolding needs_of
needed o =
    All-map (λ (n : Need). n.symbol < length o.symbols)
    (λ (p : ℕ × Symbol). need_of (version_list o) p.0 p.1)
    (filter (λ p. is_need p.0 p.1) (enumerate_from 0 o.symbols))
    (All-filter (λ (p : ℕ × Symbol). is_need p.0 p.1)
    (λ (p : ℕ × Symbol). (need_of (version_list o) p.0 p.1).symbol < length o.symbols)
    (enumerate_from 0 o.symbols)
    (λ k d less. need-at (version_list o) (slice_index_or (enumerate_from 0 o.symbols) k d).0
    (length o.symbols) (slice_index_or (enumerate_from 0 o.symbols) k d).1
    (numbered o.symbols 0 (length o.symbols) (omega arith) k d less)))

-- ---- the facts

record Passed (o : FileObject) (f : Facts) : Type 0 where
  short : ltb 55 (length f.name) ≡ false
  good : has_good_names f ≡ true
  once : find (is_twice f.exports) f.exports ≡ None
  defined : find (is_undefined o) f.exports ≡ None

passed-facts : (o : FileObject) (f : Facts) → first (facts_tests o f) ≡ None → Passed o f
unfolding facts_tests
passed-facts o f h =
    let last : List (Option ModuleFault)
    = fault_if (has_bad_versions o f.exports) BadVersions ∷ space_test o f.exports ∷ [] in
    let a
    = passed-both (fault_if (ltb 55 (length f.name)) NameTooLong)
    (fault_if (not (has_good_names f)) BadName ∷ twice_test f.exports
    ∷ undefined_test o f.exports ∷ last) h in
    let b
    = passed-both (fault_if (not (has_good_names f)) BadName)
    (twice_test f.exports ∷ undefined_test o f.exports ∷ last) a.1 in
    let c = passed-both (twice_test f.exports) (undefined_test o f.exports ∷ last) b.1 in
    let d = passed-both (undefined_test o f.exports) last c.1 in
    record {
      short = passed-if (ltb 55 (length f.name)) NameTooLong a.0;
      good = not-false (has_good_names f) (passed-if (not (has_good_names f)) BadName b.0);
      once
          = passed-find (find (is_twice f.exports) f.exports) (λ (e : Export). ExportTwice e.name)
          c.0;
      defined
          = passed-find (find (is_undefined o) f.exports) (λ (e : Export). ExportUndefined e.name)
          d.0;
    }

at-most : (m n : ℕ) → ltb m n ≡ false → n ≤ m
at-most m n h = elim (cases_lt m n) [
  | inl less ↦ absurd (true≢false (sym (lt-ltb m n less) ∙ h))
  | inr more ↦ omega arith
]

record HasNames (f : Facts) : Type 0 where
  name : IsTrue (is_graphic f.name)
  exports : All (λ (e : Export). IsTrue (is_graphic e.name)) f.exports
  needs : All (λ (n : Need). IsTrue (is_graphic n.name)) f.needs

good-names : (f : Facts) → has_good_names f ≡ true → HasNames f
unfolding has_good_names
good-names f h =
    let es : Bool = list_all (λ (e : Export). is_graphic e.name) f.exports in
    let ns : Bool = list_all (λ (n : Need). is_graphic n.name) f.needs in
    let a = both (is_graphic f.name && es) ns h in
    let b = both (is_graphic f.name) es a.0 in
    record {
      name = b.0;
      exports = All-passed (λ (e : Export). is_graphic e.name) f.exports b.1;
      needs = All-passed (λ (n : Need). is_graphic n.name) f.needs a.1;
    }

exports-are : (path : List ℕ) (o : FileObject)
    → (object_facts path o).exports
    ≡ map (export_of o) (filter_map (stated_name OfExport) o.symbols)
unfolding object_facts exports_of
exports-are path o = refl

needs-are : (path : List ℕ) (o : FileObject) → (object_facts path o).needs ≡ needs_of o
unfolding object_facts
needs-are path o = refl

-- what passes the tests is sound
pub IsSound-passed : (path : List ℕ) (o : FileObject) (f : Facts) → f ≡ object_facts path o
    → first (facts_tests o f) ≡ None → IsSound o f
IsSound-passed path o f is h =
    let w : Passed o f = passed-facts o f h in
    let names : HasNames f = good-names f w.good in
    let es : f.exports ≡ map (export_of o) (filter_map (stated_name OfExport) o.symbols)
    = ap (λ (x : Facts). x.exports) is ∙ exports-are path o in
    let ns : f.needs ≡ needs_of o = ap (λ (x : Facts). x.needs) is ∙ needs-are path o in
    let defined : All (λ e. is_undefined o e ≡ false) f.exports
    = All-lost (is_undefined o) f.exports w.defined in
    record {
      short = at-most 55 (length f.name) w.short;
      name = names.name;
      exports = names.exports;
      needs = names.needs;
      distinct = distinct f.exports (All-lost (is_twice f.exports) f.exports w.once);
      exported
          = rw es (exported o (filter_map (stated_name OfExport) o.symbols) (rw es at defined));
      needed = rw ns (needed o);
    }
