-- A value that comes again changes nothing in the names that values give.
use Rattle.std.proofs.Common.{◌≡◌, refl, ap, subst, ◌∙◌, ℕ, zero, suc, Bool, true, false}
use Rattle.std.proofs.Common.{cond, not, nat_le, List, [], ◌∷◌, ◌++◌, filter, map, arith}
use Rattle.std.proofs.lemmas.Cmp.{nat_list_eq_equiv}
use Rattle.std.specs.List.{IsAmong}
use Rattle.std.specs.Str.{bytes_eq}
use Rattle.index_format.specs.Map.{Value}
use Rattle.name_table.specs.FirstSeen.{first_seen}
use Rattle.index_read.specs.Contents.{insert_first, by_priority}
use Rattle.index_read.specs.Met.{names_of}

-- A list, and the same list without one place of a value that stands before that place too.
data IsFewer (v : Value) : List Value → List Value → Type 0 where
  here : (between after : List Value)
      → IsFewer v (v ∷ (between ++ v ∷ after)) (v ∷ (between ++ after))
  later : (x : Value) {xs ys : List Value} → IsFewer v xs ys → IsFewer v (x ∷ xs) (x ∷ ys)

-- ---- names

abbrev is_other : List ℕ → List ℕ → Bool
is_other x y = not (bytes_eq y x)

pub filter-swap : (p q : List ℕ → Bool) (xs : List (List ℕ))
    → filter p (filter q xs) ≡ filter q (filter p xs)
filter-swap p q [] = refl
filter-swap p q (x ∷ xs) =
    elim (p x) as
    (λ s. p x ≡ s → filter p (cond (q x) (x ∷ filter q xs) (filter q xs))
    ≡ filter q (cond s (x ∷ filter p xs) (filter p xs))) [
      | true ↦ λ e. elim (q x) as
          (λ t. q x ≡ t → filter p (cond t (x ∷ filter q xs) (filter q xs))
          ≡ cond t (x ∷ filter q (filter p xs)) (filter q (filter p xs))) [
            | true ↦ λ f. ap (λ s. cond s (x ∷ filter p (filter q xs)) (filter p (filter q xs))) e
                ∙ ap (λ l. x ∷ l) (filter-swap p q xs)
            | false ↦ λ f. filter-swap p q xs
          ] refl
      | false ↦ λ e. elim (q x) as
          (λ t. filter p (cond t (x ∷ filter q xs) (filter q xs)) ≡ filter q (filter p xs)) [
            | true ↦ ap (λ s. cond s (x ∷ filter p (filter q xs)) (filter p (filter q xs))) e
                ∙ filter-swap p q xs
            | false ↦ filter-swap p q xs
          ]
    ] refl

pub filter-twice : (p : List ℕ → Bool) (xs : List (List ℕ)) → filter p (filter p xs) ≡ filter p xs
filter-twice p [] = refl
filter-twice p (x ∷ xs) =
    elim (p x) as
    (λ s. p x ≡ s → filter p (cond s (x ∷ filter p xs) (filter p xs))
    ≡ cond s (x ∷ filter p xs) (filter p xs)) [
      | true ↦ λ e. ap (λ s. cond s (x ∷ filter p (filter p xs)) (filter p (filter p xs))) e
          ∙ ap (λ l. x ∷ l) (filter-twice p xs)
      | false ↦ λ e. filter-twice p xs
    ] refl

abbrev names : List Value → List (List ℕ)
names vs = map (λ v. v.1) vs

without : (v : Value) (between after : List Value)
    → filter (is_other v.1) (first_seen (names (between ++ v ∷ after)))
    ≡ filter (is_other v.1) (first_seen (names (between ++ after)))
without v [] after =
    ap (λ s. cond (not s)
    (v.1 ∷ filter (is_other v.1) (filter (is_other v.1) (first_seen (names after))))
    (filter (is_other v.1) (filter (is_other v.1) (first_seen (names after)))))
    (nat_list_eq_equiv.refl v.1)
    ∙ filter-twice (is_other v.1) (first_seen (names after))
without v (b ∷ bs) after =
    let long = first_seen (names (bs ++ v ∷ after)) in
    let short = first_seen (names (bs ++ after)) in
    let rest : filter (is_other v.1) (filter (is_other b.1) long)
    ≡ filter (is_other v.1) (filter (is_other b.1) short)
    = filter-swap (is_other v.1) (is_other b.1) long
    ∙ ap (filter (is_other b.1)) (without v bs after)
    ∙ filter-swap (is_other b.1) (is_other v.1) short in
    ap (λ l. cond (is_other v.1 b.1) (b.1 ∷ l) l) rest

fewer_names : (v : Value) {xs ys : List Value} → IsFewer v xs ys
    → first_seen (names xs) ≡ first_seen (names ys)
fewer_names v (here between after) = ap (λ l. v.1 ∷ l) (without v between after)
fewer_names v (later x h) = ap (λ l. x.1 ∷ filter (is_other x.1) l) (fewer_names v h)

-- ---- one value more, at its place

-- Two lists, of which the second lacks one value of the first.
record Lacks (v : Value) (xs ys : List Value) : Type 0 where
  front : List Value
  back : List Value
  long : xs ≡ front ++ v ∷ back
  short : ys ≡ front ++ back

further : (k v : Value) (between after : List Value) → nat_le k.0 v.0 ≡ false
    → Lacks v (insert_first k (between ++ v ∷ after)) (insert_first k (between ++ after))
further k v [] after e = record {
  front = [];
  back = insert_first k after;
  long = ap (λ t. cond t (k ∷ v ∷ after) (v ∷ insert_first k after)) e;
  short = refl;
}
further k v (b ∷ bs) after e =
    elim (nat_le k.0 b.0) as
    (λ t. Lacks v (cond t (k ∷ b ∷ (bs ++ v ∷ after)) (b ∷ insert_first k (bs ++ v ∷ after)))
    (cond t (k ∷ b ∷ (bs ++ after)) (b ∷ insert_first k (bs ++ after)))) [
      | true ↦ record { front = k ∷ b ∷ bs; back = after; long = refl; short = refl }
      | false ↦
          let rest = further k v bs after e in
          record {
            front = b ∷ rest.front;
            back = rest.back;
            long = ap (λ l. b ∷ l) rest.long;
            short = ap (λ l. b ∷ l) rest.short;
          }
    ]

as_here : (v : Value) (xs ys : List Value) → Lacks v xs ys → IsFewer v (v ∷ xs) (v ∷ ys)
as_here v xs ys l = rw (l.long, l.short) (here l.front l.back)

fewer_inserted : (k v : Value) {xs ys : List Value} → IsFewer v xs ys
    → IsFewer v (insert_first k xs) (insert_first k ys)
fewer_inserted k v (here between after) =
    elim (nat_le k.0 v.0) as
    (λ t. nat_le k.0 v.0 ≡ t
    → IsFewer v
    (cond t (k ∷ v ∷ (between ++ v ∷ after)) (v ∷ insert_first k (between ++ v ∷ after)))
    (cond t (k ∷ v ∷ (between ++ after)) (v ∷ insert_first k (between ++ after)))) [
      | true ↦ λ e. later k (here between after)
      | false ↦ λ e. as_here v (insert_first k (between ++ v ∷ after))
          (insert_first k (between ++ after)) (further k v between after e)
    ] refl
fewer_inserted k v (later x {xs} {ys} h) =
    elim (nat_le k.0 x.0) as
    (λ t. IsFewer v (cond t (k ∷ x ∷ xs) (x ∷ insert_first k xs))
    (cond t (k ∷ x ∷ ys) (x ∷ insert_first k ys))) [
      | true ↦ later k (later x h)
      | false ↦ later x (fewer_inserted k v h)
    ]

-- ---- the value that comes again

-- The first value isn't before this one.
abbrev below : Value → List Value → Type 0
below v [] = Unit {0}
below v (q ∷ qs) = nat_le v.0 q.0 ≡ true

-- The second list lacks a value of the first, which is before all that follow there.
record IsPlaced (v : Value) (xs ys : List Value) : Type 0 where
  lacks : Lacks v xs ys
  low : below v lacks.back

not_le : (a b : ℕ) → nat_le a b ≡ false → nat_le b a ≡ true
not_le a b e = grind (arith)

le_trans : (a b c : ℕ) → nat_le a b ≡ true → nat_le b c ≡ true → nat_le a c ≡ true
le_trans a b c e f = grind (arith)

le_same : (a : ℕ) → nat_le a a ≡ true
le_same a = grind (arith)

first_placed : (v : Value) (ys : List Value) → IsPlaced v (insert_first v ys) ys
first_placed v [] = record {
  lacks = record { front = []; back = []; long = refl; short = refl };
  low = tt;
}
first_placed v (y ∷ ys) =
    elim (nat_le v.0 y.0) as
    (λ t. nat_le v.0 y.0 ≡ t
    → IsPlaced v (cond t (v ∷ y ∷ ys) (y ∷ insert_first v ys)) (y ∷ ys)) [
      | true ↦ λ e. record {
        lacks = record { front = []; back = y ∷ ys; long = refl; short = refl };
        low = e;
      }
      | false ↦ λ e.
          let rest = first_placed v ys in
          record {
            lacks = record {
              front = y ∷ rest.lacks.front;
              back = rest.lacks.back;
              long = ap (λ l. y ∷ l) rest.lacks.long;
              short = ap (λ l. y ∷ l) rest.lacks.short;
            };
            low = rest.low;
          }
    ] refl

in_back : (k v : Value) (back : List Value) → below v back → nat_le k.0 v.0 ≡ true
    → insert_first k back ≡ k ∷ back
in_back k v [] low e = refl
in_back k v (q ∷ qs) low e =
    ap (λ t. cond t (k ∷ q ∷ qs) (q ∷ insert_first k qs)) (le_trans k.0 v.0 q.0 e low)

low_inserted : (k v : Value) (back : List Value) → below v back → nat_le k.0 v.0 ≡ false
    → below v (insert_first k back)
low_inserted k v [] low e = not_le k.0 v.0 e
low_inserted k v (q ∷ qs) low e =
    elim (nat_le k.0 q.0) as (λ t. below v (cond t (k ∷ q ∷ qs) (q ∷ insert_first k qs))) [
      | true ↦ not_le k.0 v.0 e
      | false ↦ low
    ]

placed_between : (k v : Value) (front back : List Value) → below v back
    → IsPlaced v (insert_first k (front ++ v ∷ back)) (insert_first k (front ++ back))
placed_between k v [] back low =
    elim (nat_le k.0 v.0) as
    (λ t. nat_le k.0 v.0 ≡ t
    → IsPlaced v (cond t (k ∷ v ∷ back) (v ∷ insert_first k back)) (insert_first k back)) [
      | true ↦ λ e. record {
        lacks = record {
          front = k ∷ [];
          back = back;
          long = refl;
          short = in_back k v back low e;
        };
        low = low;
      }
      | false ↦ λ e. record {
        lacks = record { front = []; back = insert_first k back; long = refl; short = refl };
        low = low_inserted k v back low e;
      }
    ] refl
placed_between k v (f ∷ fs) back low =
    elim (nat_le k.0 f.0) as
    (λ t. IsPlaced v (cond t (k ∷ f ∷ (fs ++ v ∷ back)) (f ∷ insert_first k (fs ++ v ∷ back)))
    (cond t (k ∷ f ∷ (fs ++ back)) (f ∷ insert_first k (fs ++ back)))) [
      | true ↦ record {
        lacks = record { front = k ∷ f ∷ fs; back = back; long = refl; short = refl };
        low = low;
      }
      | false ↦
          let rest = placed_between k v fs back low in
          record {
            lacks = record {
              front = f ∷ rest.lacks.front;
              back = rest.lacks.back;
              long = ap (λ l. f ∷ l) rest.lacks.long;
              short = ap (λ l. f ∷ l) rest.lacks.short;
            };
            low = rest.low;
          }
    ]

placed_inserted : (k v : Value) (xs ys : List Value) → IsPlaced v xs ys
    → IsPlaced v (insert_first k xs) (insert_first k ys)
placed_inserted k v xs ys p =
    rw (p.lacks.long, p.lacks.short) (placed_between k v p.lacks.front p.lacks.back p.low)

placed : (ks : List Value) (v : Value) (ms : List Value)
    → IsPlaced v (by_priority (ks ++ v ∷ ms)) (by_priority (ks ++ ms))
placed [] v ms = first_placed v (by_priority ms)
placed (k ∷ ks) v ms =
    placed_inserted k v (by_priority (ks ++ v ∷ ms)) (by_priority (ks ++ ms)) (placed ks v ms)

again_between : (v : Value) (front back : List Value) → below v back
    → IsFewer v (insert_first v (front ++ v ∷ back)) (insert_first v (front ++ back))
again_between v [] back low =
    rw (in_back v v back low (le_same v.0), le_same v.0) (here [] back)
again_between v (f ∷ fs) back low =
    elim (nat_le v.0 f.0) as
    (λ t. IsFewer v (cond t (v ∷ f ∷ (fs ++ v ∷ back)) (f ∷ insert_first v (fs ++ v ∷ back)))
    (cond t (v ∷ f ∷ (fs ++ back)) (f ∷ insert_first v (fs ++ back)))) [
      | true ↦ here (f ∷ fs) back
      | false ↦ later f (again_between v fs back low)
    ]

again : (v : Value) (xs ys : List Value) → IsPlaced v xs ys
    → IsFewer v (insert_first v xs) (insert_first v ys)
again v xs ys p =
    rw (p.lacks.long, p.lacks.short) (again_between v p.lacks.front p.lacks.back p.low)

fewer : (ks : List Value) (v : Value) (ms : List Value) → IsAmong ks v
    → IsFewer v (by_priority (ks ++ v ∷ ms)) (by_priority (ks ++ ms))
fewer [] v ms (i, h) = absurd (omega (arith, h.0))
fewer (k ∷ ks) v ms (zero, h) =
    subst (λ x. IsFewer v (insert_first x (by_priority (ks ++ v ∷ ms)))
    (insert_first x (by_priority (ks ++ ms)))) h.1
    (again v (by_priority (ks ++ v ∷ ms)) (by_priority (ks ++ ms)) (placed ks v ms))
fewer (k ∷ ks) v ms (suc i, h) =
    fewer_inserted k v (fewer ks v ms (i, (omega (arith, h.0), h.1)))

-- A value that stands before changes nothing, whatever follows.
pub names-again : (ks : List Value) (v : Value) (ms : List Value) → IsAmong ks v
    → names_of (ks ++ v ∷ ms) ≡ names_of (ks ++ ms)
names-again ks v ms h = fewer_names v (fewer ks v ms h)
