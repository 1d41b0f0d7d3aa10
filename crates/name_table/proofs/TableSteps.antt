-- Tables, an item more at a time.
use Rattle.std.proofs.Common.{◌≡◌, ℕ, ◌+◌, Bool, true, false, Bor, List, [], ◌∷◌, ◌++◌, cond}
use Rattle.std.proofs.Common.{length, map, Option, Some, None, is_some, option_copied, unwrap_or}
use Rattle.std.proofs.Common.{not, refl, sym, ap, subst, ◌∙◌, arith, add-zero, zero-add}
use Rattle.std.proofs.Common.{length-append}
use Rattle.std.specs.Cmp.{IsEquivalence}
use Rattle.std.proofs.lemmas.Iterator.Adapters.{position_from-zero}
use Rattle.std.proofs.lemmas.Cmp.{nat_list_eq_equiv}
use Rattle.std.specs.List.{position_from}
use Rattle.std.specs.Map.{lookup}
use Rattle.std.specs.Option.{option_or}
use Rattle.std.specs.Str.{bytes_eq}
use Rattle.name_table.specs.NameTable.{Table, IsTableOf, states, first_place, place_of}
use Rattle.name_table.specs.declared.key.NameKey.{NameKey}

-- a list of bytes as a key
abbrev pub key_of : List ℕ → NameKey
key_of bytes = record { bytes = record { ref_ptr = (0, 0); now = bytes } }

module _ {K : Type 0} (bytes : K → List ℕ) where
  -- a look-up among keys is one among their bytes
  pub lookup-shown : (name : List ℕ) (es : List (K × ℕ))
      → lookup (λ k. bytes_eq name (bytes k)) es
      ≡ lookup (bytes_eq name) (map (λ e. (bytes e.0, e.1)) es)
  lookup-shown name [] = refl
  lookup-shown name (e ∷ es)
      = ap (λ o. cond (bytes_eq name (bytes e.0)) (Some e.1) o) (lookup-shown name es)

-- a look-up with an entry more
lookup-push : {K X : Type 0} (test : K → Bool) (es : List (K × X)) (k : K) (v : X)
    → lookup test (es ++ (k, v) ∷ []) ≡ option_or (lookup test es) (cond (test k) (Some v) None)
lookup-push test [] k v = refl
lookup-push test (e ∷ es) k v =
    elim (test e.0) as
    (λ b. cond b (Some e.1) (lookup test (es ++ (k, v) ∷ []))
    ≡ option_or (cond b (Some e.1) (lookup test es)) (cond (test k) (Some v) None)) [
      | true ↦ refl
      | false ↦ lookup-push test es k v
    ]

-- what a look-up didn't find isn't there
pub absent : (found : Option (Bor ℕ)) (place : Option ℕ) (none : Bool) → option_copied found ≡ place
    → is_some found ≡ not none → none ≡ true → place ≡ None
absent None place none is some missing = sym is
absent (Some x) place none is some missing =
    let wrong : true ≡ false = rw missing at some in cc

-- a name goes to the end of the entries
pub put-last : {K : Type 0} (bytes : K → List ℕ) (old new : List (K × ℕ)) (k : K) (place : ℕ)
    (name other : List ℕ)
    → new ≡ old ++ (k, place) ∷ [] → bytes k ≡ name
    → lookup (λ k. bytes_eq other (bytes k)) new
    ≡ option_or (lookup (λ k. bytes_eq other (bytes k)) old)
    (cond (bytes_eq name other) (Some place) None)
put-last bytes old new k place name other is key =
    ap (lookup (λ k. bytes_eq other (bytes k))) is
    ∙ lookup-push (λ k. bytes_eq other (bytes k)) old k place
    ∙ ap (λ n. option_or (lookup (λ k. bytes_eq other (bytes k)) old)
    (cond (bytes_eq other n) (Some place) None)) key
    ∙ ap (λ b. option_or (lookup (λ k. bytes_eq other (bytes k)) old) (cond b (Some place) None))
    (nat_list_eq_equiv.symm other name)

-- equal keys have one value
pub lookup-same : {K X : Type 0} {eq : K → K → Bool} → IsEquivalence eq → (es : List (K × X))
    (key other : K)
    → eq key other ≡ true → lookup (eq other) es ≡ lookup (eq key) es
lookup-same {K} {X} {eq} laws es key other same =
    let tests : eq key ≡ eq other = λ i k. laws.congr key other k same i in
    ap (λ (test : K → Bool). lookup test es) (sym tests)

-- a key that had a value keeps it, and one that had none gets this one
pub kept : {X : Type 0} (same : Bool) (new old held : Option X) (first value : X)
    → new ≡ cond same (Some first) old → first ≡ unwrap_or held value → (same ≡ true → old ≡ held)
    → new ≡ option_or old (cond same (Some value) None)
kept true new old None first value is held found = rw (found refl) (is ∙ ap Some held)
kept true new old (Some v) first value is held found = rw (found refl) (is ∙ ap Some held)
kept false new None o first value is held found = is
kept false new (Some v) o first value is held found = is

-- of two values that are put under one key the second stands
pub put_twice : {X : Type 0} (same : Bool) (new between old first second : Option X)
    → new ≡ cond same second between → between ≡ cond same first old → new ≡ cond same second old
put_twice true new between old first second last once = last
put_twice false new between old first second last once = last ∙ once

position_from-push : {X : Type 0} (p : X → Bool) (i : ℕ) (xs : List X) (x : X)
    → position_from p i (xs ++ x ∷ [])
    ≡ option_or (position_from p i xs) (cond (p x) (Some (i + length xs)) None)
position_from-push p i [] x = ap (λ n. cond (p x) (Some n) None) (sym (add-zero i))
position_from-push p i (y ∷ ys) x =
    let later = position_from-push p (i + 1) ys x in
    let same : i + 1 + length ys ≡ i + length (y ∷ ys) = omega arith in
    elim (p y) as
    (λ b. cond b (Some i) (position_from p (i + 1) (ys ++ x ∷ []))
    ≡ option_or (cond b (Some i) (position_from p (i + 1) ys))
    (cond (p x) (Some (i + length (y ∷ ys))) None)) [
      | true ↦ refl
      | false ↦ later
          ∙ ap (λ n. option_or (position_from p (i + 1) ys) (cond (p x) (Some n) None)) same
    ]

-- the first place where an item more is looked at
first_place-push : (items : List (Option (List ℕ))) (x : Option (List ℕ)) (name : List ℕ)
    → first_place (items ++ x ∷ []) name
    ≡ option_or (first_place items name) (cond (states name x) (Some (length items)) None)
first_place-push items x name =
    position_from-zero (states name) (items ++ x ∷ [])
    ∙ position_from-push (states name) 0 items x
    ∙ ap (λ n. option_or (position_from (states name) 0 items) (cond (states name x) (Some n) None))
    (zero-add (length items))
    ∙ ap (λ o. option_or o (cond (states name x) (Some (length items)) None))
    (sym (position_from-zero (states name) items))

-- a table with an item more, by what it has for each name then
table-push : (old new : Table) (items : List (Option (List ℕ))) (x : Option (List ℕ))
    → IsTableOf old items → new.count ≡ old.count + 1
    → ((name : List ℕ)
    → place_of new name
    ≡ option_or (place_of old name) (cond (states name x) (Some old.count) None))
    → IsTableOf new (items ++ x ∷ [])
table-push old new items x is more now = record {
  count = omega (arith, more, is.count, length-append items (x ∷ []));
  places = λ name.
      now name
      ∙ ap (λ o. option_or o (cond (states name x) (Some old.count) None)) (is.places name)
      ∙ ap (λ n. option_or (first_place items name) (cond (states name x) (Some n) None)) is.count
      ∙ sym (first_place-push items x name);
}

-- an item that states nothing changes no place
pub or-none : {X : Type 0} (o : Option X) → o ≡ option_or o None
or-none None = refl
or-none (Some x) = refl

-- the same by the entries of a map
pub entries-push : {K : Type 0} (bytes : K → List ℕ) (old new : List (K × ℕ)) (count : ℕ)
    (t : Table) (items : List (Option (List ℕ))) (x : Option (List ℕ))
    → ◌≡◌ {A = Table} (record { entries = map (λ e. (bytes e.0, e.1)) old; count = count }) t
    → IsTableOf t items
    → ((other : List ℕ)
    → lookup (λ k. bytes_eq other (bytes k)) new
    ≡ option_or (lookup (λ k. bytes_eq other (bytes k)) old)
    (cond (states other x) (Some count) None))
    → IsTableOf (record { entries = map (λ e. (bytes e.0, e.1)) new; count = count + 1 })
    (items ++ x ∷ [])
entries-push bytes old new count t items x view is now =
    table-push (record { entries = map (λ e. (bytes e.0, e.1)) old; count = count })
    (record { entries = map (λ e. (bytes e.0, e.1)) new; count = count + 1 }) items x
    (subst (λ u. IsTableOf u items) (sym view) is) refl (λ name.
    sym (lookup-shown bytes name new) ∙ now name
    ∙ ap (λ o. option_or o (cond (states name x) (Some count) None))
    (lookup-shown bytes name old))
