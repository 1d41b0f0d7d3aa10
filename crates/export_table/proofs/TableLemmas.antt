-- Tables of names: what a name more changes.
use Rattle.std.proofs.Common.{◌≡◌, ◌∙◌, ◌<◌, ◌≤◌, ◌+◌, inl, inr, ℕ, Bool, true, false, List, []}
use Rattle.std.proofs.Common.{◌∷◌, ◌++◌, Option, Some, None, refl, sym, ap, subst, cond, length}
use Rattle.std.proofs.Common.{take, get_or, Vec, Global, Bor}
use Rattle.std.specs.Prelude.{find, option_map, option_copied, is_some, IsOk, OnOk, Result, Ok, Err}
use Rattle.std.specs.Map.{lookup}
use Rattle.std.specs.Option.{option_or}
use Rattle.std.specs.Str.{bytes_eq}
use Rattle.std.proofs.lemmas.Cmp.{nat_list_eq_equiv}
use Rattle.std.proofs.lemmas.Bool.{cases_Bool, false≢true}
use Rattle.std.proofs.lemmas.List.{take_all, take_more}
use Rattle.std.proofs.lemmas.Slice.Eq.{bytes_eq-Decides}
use Rattle.export_table.specs.declared.placed.PlacedExport.{PlacedExport}
use Rattle.export_table.specs.Exports.{export_named}
use Rattle.export_table.specs.declared.standing.Standing.{Standing}
use Rattle.export_table.specs.declared.standing.Named.{Named}
use Rattle.export_table.specs.Standing.{standing_in}

-- a look-up with an entry more
lookup-push : {K X : Type 0} (test : K → Bool) (es : List (K × X)) (k : K) (v : X)
    → lookup test (es ++ (k, v) ∷ []) ≡ option_or (lookup test es) (cond (test k) (Some v) None)
lookup-push test [] k v = refl
lookup-push test (e ∷ es) k v =
    elim (test e.0) as
    (λ b. cond b (Some e.1) (lookup test (es ++ (k, v) ∷ []))
    ≡ option_or (cond b (Some e.1) (lookup test es)) (cond (test k) (Some v) None)) [
      | true ↦ refl
      | false ↦ lookup-push test es k v
    ]

-- a name goes to the end of the entries
pub put-last : (old new : List (Vec ℕ Global × Standing)) (key : Vec ℕ Global) (value : Standing)
    (x : List ℕ)
    → new ≡ old ++ (key, value) ∷ []
    → lookup (λ (k : Vec ℕ Global). bytes_eq x k.items) new
    ≡ option_or (lookup (λ (k : Vec ℕ Global). bytes_eq x k.items) old)
    (cond (bytes_eq key.items x) (Some value) None)
put-last old new key value x is =
    ap (lookup (λ (k : Vec ℕ Global). bytes_eq x k.items)) is
    ∙ lookup-push (λ (k : Vec ℕ Global). bytes_eq x k.items) old key value
    ∙ ap (λ b. option_or (lookup (λ (k : Vec ℕ Global). bytes_eq x k.items) old)
    (cond b (Some value) None)) (nat_list_eq_equiv.symm x key.items)

pub on_ok : {T E P : Type 0} (r : Result T E) → IsOk r → OnOk r P → P
on_ok (Ok x) is h = h
on_ok (Err e) is h = absurd (false≢true is)

pub or-none : {X : Type 0} (o : Option X) → option_or o None ≡ o
or-none None = refl
or-none (Some x) = refl

pub or-assoc : {X : Type 0} (a b c : Option X)
    → option_or (option_or a b) c ≡ option_or a (option_or b c)
or-assoc None b c = refl
or-assoc (Some x) b c = refl

-- what a list has for a name, by its first item
pub standing_in-cons : (x : List ℕ) (n : Named) (rest : List Named)
    → standing_in x (n ∷ rest)
    ≡ option_or (cond (bytes_eq n.name.items x) (Some n.standing) None) (standing_in x rest)
standing_in-cons x n rest =
    elim (bytes_eq n.name.items x) as
    (λ b. option_map (λ (m : Named). m.standing)
    (cond b (Some n) (find (λ (m : Named). bytes_eq m.name.items x) rest))
    ≡ option_or (cond b (Some n.standing) None) (standing_in x rest)) [
      | true ↦ refl
      | false ↦ refl
    ]

pub copied-none : {X : Type 0} (o : Option (Bor X)) → is_some o ≡ false → option_copied o ≡ None
copied-none None none = refl
copied-none (Some x) none = absurd (false≢true (sym none))

-- A name that is taken out: tables are compared at the keys that they have.
name_is : (y x : List ℕ) → bytes_eq x y ≡ true → y ≡ x
name_is y x is = sym ((bytes_eq-Decides x y).0 is)

key-of : {K X : Type 0} (test : K → Bool) (es : List (K × X)) (v : X) → lookup test es ≡ Some v
    → (k : K) × (test k ≡ true)
key-of test [] v is = absurd (let w : ◌≡◌ {A = Option _} None (Some v) = is in cc)
key-of test (e ∷ es) v is =
    elim (cases_Bool (test e.0)) [
      | inl here ↦ (e.0, here)
      | inr other ↦ key-of test es v (sym (ap (λ b. cond b (Some e.1) (lookup test es)) other) ∙ is)
    ]

abbrev at_name : List ℕ → List (Vec ℕ Global × Standing) → Option Standing
at_name x es = lookup (λ (k : Vec ℕ Global). bytes_eq x k.items) es

pub forgot : (old new : List (Vec ℕ Global × Standing)) (y x : List ℕ)
    → ((q : Vec ℕ Global)
    → at_name q.items new ≡ cond (bytes_eq y q.items) None (at_name q.items old))
    → at_name x new ≡ cond (bytes_eq y x) None (at_name x old)
forgot old new y x updates = by (at_name x new) (at_name x old) refl refl
  where
    at_key : (k : Vec ℕ Global) → bytes_eq x k.items ≡ true
        → at_name x new ≡ cond (bytes_eq y x) None (at_name x old)
    at_key k is
        = subst (λ n. at_name n new ≡ cond (bytes_eq y n) None (at_name n old))
        (name_is k.items x is) (updates k)

    nothing : (b : Bool) → ◌≡◌ {A = Option Standing} None (cond b None None)
    nothing true = refl
    nothing false = refl

    by : (a b : Option Standing) → at_name x new ≡ a → at_name x old ≡ b
        → at_name x new ≡ cond (bytes_eq y x) None (at_name x old)
    by (Some v) b is was
        = let k
        = key-of (λ (k : Vec ℕ Global). bytes_eq x k.items) new v is in at_key k.0 k.1
    by None (Some v) is was
        = let k
        = key-of (λ (k : Vec ℕ Global). bytes_eq x k.items) old v was in at_key k.0 k.1
    by None None is was = is ∙ nothing (bytes_eq y x) ∙ ap (cond (bytes_eq y x) None) (sym was)

-- One export more whose name is taken out.
named-more : (x : List ℕ) (es : List PlacedExport) (e : PlacedExport)
    → is_some (export_named x (es ++ e ∷ []))
    ≡ cond (bytes_eq e.name x) true (is_some (export_named x es))
named-more x [] e =
    elim (bytes_eq e.name x) as (λ b. is_some (cond b (Some e) None) ≡ cond b true false)
    [ true ↦ refl | false ↦ refl ]
named-more x (y ∷ ys) e =
    elim (bytes_eq y.name x) as
    (λ b. is_some (cond b (Some y) (export_named x (ys ++ e ∷ [])))
    ≡ cond (bytes_eq e.name x) true (is_some (cond b (Some y) (export_named x ys)))) [
      | true ↦ elim (bytes_eq e.name x) as (λ b. true ≡ cond b true true)
          [ true ↦ refl | false ↦ refl ]
      | false ↦ named-more x ys e
    ]

pub forget-more : (x : List ℕ) (es : List PlacedExport) (i : ℕ) (e : PlacedExport)
    (old now next : Option Standing)
    → i < length es → e ≡ get_or es i e → now ≡ cond (is_some (export_named x (take i es))) None old
    → next ≡ cond (bytes_eq e.name x) None now
    → next ≡ cond (is_some (export_named x (take (i + 1) es))) None old
forget-more x es i e old now next inside is before after =
    after
    ∙ ap (cond (bytes_eq e.name x) None) before
    ∙ both (bytes_eq e.name x) (is_some (export_named x (take i es)))
    ∙ ap (λ b. cond b None old)
    (sym (ap (λ ys. is_some (export_named x ys))
    (take_more es i e inside ∙ ap (λ y. take i es ++ y ∷ []) (sym is))
    ∙ named-more x (take i es) e))
  where
    both : (a b : Bool) → cond a None (cond b None old) ≡ cond (cond a true b) None old
    both true b = refl
    both false b = refl

pub forget-all : (x : List ℕ) (es : List PlacedExport) (i : ℕ) (old now : Option Standing)
    → length es ≤ i → now ≡ cond (is_some (export_named x (take i es))) None old
    → now ≡ cond (is_some (export_named x es)) None old
forget-all x es i old now past is =
    is ∙ ap (λ ys. cond (is_some (export_named x ys)) None old) (take_all i es past)
