-- Exports, of each name the first, one export more at a time.
use Rattle.std.proofs.Common.{◌≡◌, ℕ, zero, suc, ◌+◌, ◌<◌, Bool, true, false, ◌||◌, not, List, []}
use Rattle.std.proofs.Common.{◌∷◌, ◌++◌, length, map, get_or, take, cond, Option, Some, None}
use Rattle.std.proofs.Common.{is_some, refl, sym, ap, subst, ◌∙◌, append-nil, arith}
use Rattle.std.proofs.lemmas.Bool.{false≢true}
use Rattle.std.proofs.lemmas.List.{map-append, take_more}
use Rattle.std.proofs.lemmas.List.Elements.{filter-append, filter_map-append}
use Rattle.std.proofs.lemmas.List.Quantifiers.{all_pairs_push}
use Rattle.std.specs.List.{cons_option, filter, filter_map, list_any}
use Rattle.std.specs.Str.{bytes_eq}
use Rattle.name_table.specs.NameTable.{Table, IsTableOf, place_of}
use Rattle.kernel_exports.specs.declared.kernel.KernelExport.{KernelExport}
use Rattle.kernel_exports.specs.MapLines.{MapSymbol}
use Rattle.kernel_exports.specs.KernelTable.{IsTable, AreFirst, first_of_each, with_export}
use Rattle.kernel_exports.specs.KernelTable.{with_its_address, with_addresses, export_name}
use Rattle.kernel_exports.proofs.NameSteps.{table-any, bytes-refl, bytes-same, bytes-turn}

-- an export of this name is among these
abbrev pub has_name : List KernelExport → List ℕ → Bool
has_name es name = list_any (λ (o : KernelExport). bytes_eq o.name name) es

-- the exports of other names
others : List ℕ → List KernelExport → List KernelExport
others name es = filter (λ (o : KernelExport). not (bytes_eq o.name name)) es

others-same : (name : List ℕ) (o : KernelExport) (es : List KernelExport)
    → bytes_eq o.name name ≡ true → others name (o ∷ es) ≡ others name es
unfolding others
others-same name o es same = ap (λ b. cond (not b) (o ∷ others name es) (others name es)) same

others-other : (name : List ℕ) (o : KernelExport) (es : List KernelExport)
    → bytes_eq o.name name ≡ false → others name (o ∷ es) ≡ o ∷ others name es
unfolding others
others-other name o es other = ap (λ b. cond (not b) (o ∷ others name es) (others name es)) other

others-append : (name : List ℕ) (es fs : List KernelExport)
    → others name (es ++ fs) ≡ others name es ++ others name fs
unfolding others
others-append name es fs = filter-append (λ (o : KernelExport). not (bytes_eq o.name name)) es fs

others-nil : (name : List ℕ) → others name [] ≡ []
unfolding others
others-nil name = refl

-- leaving out one name changes nothing at another
kept : (name wanted : List ℕ) → bytes_eq name wanted ≡ false → (es : List KernelExport)
    → has_name (others name es) wanted ≡ has_name es wanted
kept name wanted other [] = ap (λ es. has_name es wanted) (others-nil name)
kept name wanted other (o ∷ es) = go (kept name wanted other es) (bytes_eq o.name name) refl
  where
    go : has_name (others name es) wanted ≡ has_name es wanted → (b : Bool)
        → bytes_eq o.name name ≡ b
        → has_name (others name (o ∷ es)) wanted ≡ has_name (o ∷ es) wanted
    go later true is =
        ap (λ l. has_name l wanted) (others-same name o es is)
        ∙ later
        ∙ ap (λ b. b || has_name es wanted)
        (sym (ap (λ n. bytes_eq n wanted) (bytes-same o.name name is) ∙ other))
    go later false is =
        ap (λ l. has_name l wanted) (others-other name o es is)
        ∙ ap (λ b. bytes_eq o.name wanted || b) later

-- one export more, where it has the name that is left out
more-same : (name : List ℕ) (es : List KernelExport) (e : KernelExport)
    → bytes_eq e.name name ≡ true → others name (with_export es e) ≡ others name es
more-same name es e same =
    elim (has_name es e.name) as (λ b. others name (cond b es (es ++ e ∷ [])) ≡ others name es) [
      | true ↦ refl
      | false ↦ others-append name es (e ∷ [])
          ∙ ap (λ l. others name es ++ l) (others-same name e [] same ∙ others-nil name)
          ∙ append-nil (others name es)
    ]

-- and where it has another
more-other : (name : List ℕ) (es : List KernelExport) (e : KernelExport)
    → bytes_eq e.name name ≡ false
    → others name (with_export es e)
    ≡ cond (has_name es e.name) (others name es) (others name es ++ e ∷ [])
more-other name es e other =
    elim (has_name es e.name) as
    (λ b. others name (cond b es (es ++ e ∷ []))
    ≡ cond b (others name es) (others name es ++ e ∷ [])) [
      | true ↦ refl
      | false ↦ others-append name es (e ∷ [])
          ∙ ap (λ l. others name es ++ l)
          (others-other name e [] other ∙ ap (λ l. e ∷ l) (others-nil name))
    ]

first-cons : (x : KernelExport) (es : List KernelExport)
    → first_of_each (x ∷ es) ≡ x ∷ others x.name (first_of_each es)
unfolding others
first-cons x es = refl

onto : (x e : KernelExport) (es : List KernelExport) (b : Bool)
    → x ∷ cond b es (es ++ e ∷ []) ≡ cond b (x ∷ es) ((x ∷ es) ++ e ∷ [])
onto x e es true = refl
onto x e es false = refl

-- the first of each name, with an export more
pub first-more : (es : List KernelExport) (e : KernelExport)
    → first_of_each (es ++ e ∷ []) ≡ with_export (first_of_each es) e
first-more [] e = refl
first-more (x ∷ es) e = go (first-more es e) (bytes_eq e.name x.name) refl
  where
    firsts : List KernelExport
    firsts = first_of_each es

    go : first_of_each (es ++ e ∷ []) ≡ with_export (first_of_each es) e → (b : Bool)
        → bytes_eq e.name x.name ≡ b
        → first_of_each (x ∷ (es ++ e ∷ [])) ≡ with_export (first_of_each (x ∷ es)) e
    go later true is =
        first-cons x (es ++ e ∷ [])
        ∙ ap (λ l. x ∷ others x.name l) later
        ∙ ap (λ l. x ∷ l) (more-same x.name firsts e is)
        ∙ ap (λ b. cond (b || has_name (others x.name firsts) e.name) (x ∷ others x.name firsts)
        ((x ∷ others x.name firsts) ++ e ∷ [])) (sym (bytes-turn x.name e.name ∙ is))
        ∙ ap (λ l. with_export l e) (sym (first-cons x es))
    go later false is =
        first-cons x (es ++ e ∷ [])
        ∙ ap (λ l. x ∷ others x.name l) later
        ∙ ap (λ l. x ∷ l) (more-other x.name firsts e is)
        ∙ onto x e (others x.name firsts) (has_name firsts e.name)
        ∙ ap (λ b. cond b (x ∷ others x.name firsts) ((x ∷ others x.name firsts) ++ e ∷ []))
        (sym (kept x.name e.name (bytes-turn x.name e.name ∙ is) firsts))
        ∙ ap (λ b. cond (b || has_name (others x.name firsts) e.name) (x ∷ others x.name firsts)
        ((x ∷ others x.name firsts) ++ e ∷ [])) (sym (bytes-turn x.name e.name ∙ is))
        ∙ ap (λ l. with_export l e) (sym (first-cons x es))

neither : (a b : Bool) → (a || b) ≡ false → (a ≡ false) × (b ≡ false)
neither true b is = absurd (false≢true (sym is))
neither false b is = (refl, is)

none-named : (es : List KernelExport) (name : List ℕ) → has_name es name ≡ false
    → (k : ℕ) (d : KernelExport) → k < length es → (get_or es k d).name ≡ name → ⊥
none-named [] name none k d within same = absurd (omega arith)
none-named (o ∷ es) name none zero d within same =
    false≢true (sym (neither (bytes_eq o.name name) (has_name es name) none).0
    ∙ ap (λ n. bytes_eq n name) same ∙ bytes-refl name)
none-named (o ∷ es) name none (suc k) d within same =
    none-named es name (neither (bytes_eq o.name name) (has_name es name) none).1 k d (omega arith)
    same

-- a new export keeps names apart
pub push-first : (names names' : Table) (es : List KernelExport) (e : KernelExport)
    → AreFirst names es → has_name es e.name ≡ false
    → IsTableOf names' (map export_name es ++ Some e.name ∷ []) → AreFirst names' (es ++ e ∷ [])
push-first names names' es e first none named = record {
  named = subst (IsTableOf names') (sym (map-append export_name es (e ∷ []))) named;
  distinct
      = record {
        distinct
            = all_pairs_push (λ (a b : KernelExport). a.name ≡ b.name → ⊥) es e
            first.distinct.distinct (none-named es e.name none);
      };
}

-- an address more or less changes no name
addresses-names : (symbols : List MapSymbol) (es : List KernelExport) (k : ℕ) (d : KernelExport)
    → k < length es → (get_or (with_addresses symbols es) k d).name ≡ (get_or es k d).name
addresses-names symbols [] k d within = absurd (omega arith)
addresses-names symbols (e ∷ es) zero d within = refl
addresses-names symbols (e ∷ es) (suc k) d within = addresses-names symbols es k d (omega arith)

length-addresses : (symbols : List MapSymbol) (es : List KernelExport)
    → length (with_addresses symbols es) ≡ length es
length-addresses symbols [] = refl
length-addresses symbols (e ∷ es) = ap (λ n. suc n) (length-addresses symbols es)

-- so names stay apart
pub addresses-apart : (symbols : List MapSymbol) (es : List KernelExport) → IsTable es
    → IsTable (with_addresses symbols es)
addresses-apart symbols es table = record {
  distinct = λ i j d before within same.
      let inside : j < length es = omega (arith, length-addresses symbols es) in
      table.distinct i j d before inside
      (sym (addresses-names symbols es i d (omega arith)) ∙ same
      ∙ addresses-names symbols es j d inside);
}

-- an export more, at its address
addresses-named : (symbols : List MapSymbol) (es : List KernelExport) (name : List ℕ)
    → has_name (with_addresses symbols es) name ≡ has_name es name
addresses-named symbols [] name = refl
addresses-named symbols (e ∷ es) name =
    ap (λ b. bytes_eq e.name name || b) (addresses-named symbols es name)

pub with-addressed : (symbols : List MapSymbol) (es : List KernelExport) (e : KernelExport)
    → with_addresses symbols (with_export es e)
    ≡ with_export (with_addresses symbols es) (with_its_address symbols e)
with-addressed symbols es e =
    go (has_name es e.name)
    ∙ ap (λ b. cond b (with_addresses symbols es)
    (with_addresses symbols es ++ with_its_address symbols e ∷ []))
    (sym (addresses-named symbols es e.name))
  where
    go : (b : Bool)
        → with_addresses symbols (cond b es (es ++ e ∷ []))
        ≡ cond b (with_addresses symbols es)
        (with_addresses symbols es ++ with_its_address symbols e ∷ [])
    go true = refl
    go false = map-append (with_its_address symbols) es (e ∷ [])

-- where a table has no place for a name, it is added
pub added : (names : Table) (es : List KernelExport) (e : KernelExport) (name : List ℕ)
    (place : Option ℕ)
    → AreFirst names es → place ≡ place_of names name → name ≡ e.name → is_some place ≡ false
    → has_name es e.name ≡ false
added names es e name place first is same none =
    ap (has_name es) (sym same)
    ∙ sym (table-any export_name (λ (o : KernelExport). bytes_eq o.name name) name (λ o. refl) names
    es first.named)
    ∙ ap is_some (sym is) ∙ none

pub there : (names : Table) (es : List KernelExport) (e : KernelExport) (name : List ℕ)
    (place : Option ℕ)
    → AreFirst names es → place ≡ place_of names name → name ≡ e.name → is_some place ≡ true
    → has_name es e.name ≡ true
there names es e name place first is same some =
    ap (has_name es) (sym same)
    ∙ sym (table-any export_name (λ (o : KernelExport). bytes_eq o.name name) name (λ o. refl) names
    es first.named)
    ∙ ap is_some (sym is) ∙ some

-- what is added then
pub with-new : (es : List KernelExport) (e : KernelExport) → has_name es e.name ≡ false
    → es ++ e ∷ [] ≡ with_export es e
with-new es e none = ap (λ b. cond b es (es ++ e ∷ [])) (sym none)

pub with-known : (es : List KernelExport) (e : KernelExport) → has_name es e.name ≡ true
    → es ≡ with_export es e
with-known es e some = ap (λ b. cond b es (es ++ e ∷ [])) (sym some)

-- one item more of what states exports
module _ {X : Type 0} (f : X → Option KernelExport) (xs : List X) (i : ℕ) (x : X)
    (within : i < length xs) (is : x ≡ get_or xs i x) where
  front : filter_map f (take (i + 1) xs) ≡ filter_map f (take i xs) ++ cons_option (f x) []
  front =
      ap (filter_map f) (take_more xs i x within)
      ∙ filter_map-append f (take i xs) (get_or xs i x ∷ [])
      ∙ ap (λ y. filter_map f (take i xs) ++ cons_option (f y) []) (sym is)

  pub exports-more : (list list' : List KernelExport) (e : KernelExport) → f x ≡ Some e
      → list ≡ first_of_each (filter_map f (take i xs)) → list' ≡ with_export list e
      → list' ≡ first_of_each (filter_map f (take (i + 1) xs))
  exports-more list list' e states so_far more =
      more
      ∙ ap (λ l. with_export l e) so_far
      ∙ sym (first-more (filter_map f (take i xs)) e)
      ∙ ap (λ o. first_of_each (filter_map f (take i xs) ++ cons_option o [])) (sym states)
      ∙ ap first_of_each (sym front)

  pub exports-same : (list list' : List KernelExport) → f x ≡ None
      → list ≡ first_of_each (filter_map f (take i xs)) → list' ≡ list
      → list' ≡ first_of_each (filter_map f (take (i + 1) xs))
  exports-same list list' states so_far same =
      same
      ∙ so_far
      ∙ ap first_of_each
      (sym (append-nil (filter_map f (take i xs)))
      ∙ ap (λ o. filter_map f (take i xs) ++ cons_option o []) (sym states) ∙ sym front)
