-- Each module stands at the place of its name, with the first value that the map has under it.
use Rattle.std.proofs.Common.{◌≡◌, ℕ, zero, suc, ◌+◌, ◌<◌, Bool, true, false, cond, List, [], ◌∷◌}
use Rattle.std.proofs.Common.{length, get_or, Some, None, refl, sym, ap, ◌∙◌, arith}
use Rattle.std.specs.Prelude.{◌||◌, not, is_some, nat_lt, nat_le, slice_get}
use Rattle.std.specs.List.{AllByRecursion, list_any, position_or_len}
use Rattle.std.specs.Str.{bytes_eq}
use Rattle.std.specs.Cmp.Lexicographic.{nat_list_cmp_total}
use Rattle.std.specs.Ordering.{is_eq, is_lt, ordering_reverse}
use Rattle.std.specs.FinMap.Entries.{below_all}
use Rattle.std.specs.FinMap.{entries, find, is_sorted}
use Rattle.std.proofs.lemmas.Slice.Eq.{bytes_eq-Decides}
use Rattle.std.proofs.lemmas.Bool.{and_parts, or_parts, lt-ltb}
use Rattle.std.proofs.lemmas.List.Quantifiers.{position-Some}
use Rattle.index_format.specs.Map.{KeyValues, values_of}
use Rattle.index_format.specs.Listing.{KeyValue}
use Rattle.index_format.proofs.TreeLemmas.{R}
use Rattle.index_read.proofs.OrderLemmas.{self_equal}
use Rattle.name_lookup.specs.Maps.{has_value}
use Rattle.dependency_lines.specs.Modules.{first_values, insert_module, by_number, modules_of}
use Rattle.dependency_lines.specs.Modules.{module_at, name_at, place_of}
use Rattle.dependency_lines.proofs.Firsts.{bytes-sym, any-find, any-insert, any-by, less}
use Rattle.dependency_lines.proofs.Firsts.{sorted-firsts, map-sorted, find-map-firsts, has-modules}

-- ---- what holds of each value of the map holds of each module

module _ (P : KeyValue → Type 0) where
  insert-each : (m : KeyValue) (ns : List KeyValue) → P m → AllByRecursion P ns
      → AllByRecursion P (insert_module m ns)
  insert-each m [] p h = (p, tt)
  insert-each m (n ∷ ns) p h =
      elim (nat_le m.1.0 n.1.0) as
      (λ t. AllByRecursion P (cond t (m ∷ n ∷ ns) (n ∷ insert_module m ns))) [
        | true ↦ (p, h)
        | false ↦ (h.0, insert-each m ns p h.1)
      ]

  by_number-each : (ms : List KeyValue) → AllByRecursion P ms → AllByRecursion P (by_number ms)
  by_number-each [] h = tt
  by_number-each (m ∷ ms) h = insert-each m (by_number ms) h.0 (by_number-each ms h.1)

  each-at : (ms : List KeyValue) (x : ℕ) (d : KeyValue) → x < length ms → AllByRecursion P ms
      → P (get_or ms x d)
  each-at [] x d l h = absurd (omega (arith, l))
  each-at (m ∷ ms) zero d l h = h.0
  each-at (m ∷ ms) (suc x) d l h = each-at ms x d (omega (arith, l)) h.1

  pub modules-each : (dep : KeyValues) → AllByRecursion P (first_values dep) → (x : ℕ)
      → x < length (modules_of dep) → P (module_at (modules_of dep) x)
  unfolding modules_of
  modules-each dep h x l
      = each-at (by_number (first_values dep)) x ([], (0, [])) l
      (by_number-each (first_values dep) h)

-- ---- no two modules have one name

abbrev pub Apart : List KeyValue → Type 0
Apart [] = Unit {0}
Apart (m ∷ ms) = (list_any (λ (n : KeyValue). bytes_eq n.0 m.0) ms ≡ false) × Apart ms

insert-apart : (m : KeyValue) (ns : List KeyValue)
    → list_any (λ (n : KeyValue). bytes_eq n.0 m.0) ns ≡ false → Apart ns
    → Apart (insert_module m ns)
insert-apart m [] new h = (refl, tt)
insert-apart m (n ∷ ns) new h =
    elim (nat_le m.1.0 n.1.0) as (λ t. Apart (cond t (m ∷ n ∷ ns) (n ∷ insert_module m ns))) [
      | true ↦ (new, h)
      | false ↦
          let w
          = or_parts (bytes_eq n.0 m.0) (list_any (λ (k : KeyValue). bytes_eq k.0 m.0) ns) new
          in (
            any-insert (λ (k : KeyValue). bytes_eq k.0 n.0) m ns
                ∙ ap (λ t. t || list_any (λ (k : KeyValue). bytes_eq k.0 n.0) ns)
                (bytes-sym m.0 n.0 ∙ w.0)
                ∙ h.0,
            insert-apart m ns w.1 h.1,
          )
    ]

pub by_number-apart : (ms : List KeyValue) → Apart ms → Apart (by_number ms)
by_number-apart [] h = tt
by_number-apart (m ∷ ms) h =
    insert-apart m (by_number ms) (any-by (λ (n : KeyValue). bytes_eq n.0 m.0) ms ∙ h.0)
    (by_number-apart ms h.1)

none-below : (q : List ℕ) (es : List KeyValue) → below_all R q es ≡ true → find R q es ≡ None
none-below q [] h = refl
none-below q (e ∷ es) h =
    let w = and_parts _ _ h in
    ap (λ o. cond (is_eq o) (Some e.1) (find R q es)) (less (R q e.0) w.0) ∙ none-below q es w.1

sorted-apart : (es : List KeyValue) → is_sorted R es ≡ true → Apart es
sorted-apart [] up = tt
sorted-apart (e ∷ es) up =
    let w = and_parts _ _ up in
    (any-find e.0 es ∙ ap is_some (none-below e.0 es w.0), sorted-apart es w.1)

firsts-up : (dep : KeyValues) → is_sorted R (first_values dep) ≡ true
firsts-up dep = sorted-firsts (entries dep) (map-sorted dep)

-- ---- each is found under its name

less-apart : (a b : List ℕ) → is_lt (R a b) ≡ true → is_eq (R b a) ≡ false
less-apart a b l = ap is_eq (nat_list_cmp_total.antisymm b a ∙ ap ordering_reverse (less (R a b) l))

abbrev IsFound : List KeyValue → KeyValue → Type 0
IsFound all e = find R e.0 all ≡ Some e.1

found-behind : (k : KeyValue) (all es : List KeyValue) → below_all R k.0 es ≡ true
    → AllByRecursion (IsFound all) es → AllByRecursion (IsFound (k ∷ all)) es
found-behind k all [] b h = tt
found-behind k all (e ∷ es) b h =
    let w = and_parts _ _ b in (
      ap (λ t. cond t (Some k.1) (find R e.0 all)) (less-apart k.0 e.0 w.0) ∙ h.0,
      found-behind k all es w.1 h.1,
    )

each-found : (es : List KeyValue) → is_sorted R es ≡ true → AllByRecursion (IsFound es) es
each-found [] up = tt
each-found (e ∷ es) up =
    let w = and_parts _ _ up in (
      ap (λ t. cond t (Some e.1) (find R e.0 es)) (self_equal e.0),
      found-behind e es es w.0 (each-found es w.1),
    )

pub module-first : (dep : KeyValues) (x : ℕ) → x < length (modules_of dep)
    → slice_get (values_of dep (name_at (modules_of dep) x)) 0
    ≡ Some (module_at (modules_of dep) x).1
module-first dep x l =
    sym (find-map-firsts dep (name_at (modules_of dep) x))
    ∙ modules-each (IsFound (first_values dep)) dep (each-found (first_values dep) (firsts-up dep))
    x l

-- ---- each stands at the place of its name

none-at : (p : KeyValue → Bool) (ms : List KeyValue) (x : ℕ) (d : KeyValue) → x < length ms
    → list_any p ms ≡ false → p (get_or ms x d) ≡ false
none-at p [] x d l h = absurd (omega (arith, l))
none-at p (m ∷ ms) zero d l h = (or_parts (p m) (list_any p ms) h).0
none-at p (m ∷ ms) (suc x) d l h =
    none-at p ms x d (omega (arith, l)) (or_parts (p m) (list_any p ms) h).1

pub place-at : (ms : List KeyValue) (x : ℕ) → x < length ms → Apart ms
    → position_or_len (λ (m : KeyValue). bytes_eq m.0 (name_at ms x)) ms ≡ x
place-at [] x l h = absurd (omega (arith, l))
place-at (m ∷ ms) zero l h =
    ap (λ t. cond (not t) (1 + position_or_len (λ (n : KeyValue). bytes_eq n.0 m.0) ms) 0)
    ((bytes_eq-Decides m.0 m.0).1 refl)
place-at (m ∷ ms) (suc x) l h =
    let ih : position_or_len (λ (n : KeyValue). bytes_eq n.0 (name_at ms x)) ms ≡ x
    = place-at ms x (omega (arith, l)) h.1 in
    ap (λ t. cond (not t) (1 + position_or_len (λ (n : KeyValue). bytes_eq n.0 (name_at ms x)) ms)
    0)
    (bytes-sym m.0 (name_at ms x)
    ∙ none-at (λ (n : KeyValue). bytes_eq n.0 m.0) ms x ([], (0, [])) (omega (arith, l))
    h.0)
    ∙ (let e : 1 + position_or_len (λ (n : KeyValue). bytes_eq n.0 (name_at ms x)) ms ≡ suc x
    = omega (arith, ih) in e)

pub place-own : (dep : KeyValues) (x : ℕ) → x < length (modules_of dep)
    → place_of (modules_of dep) (name_at (modules_of dep) x) ≡ Some x
unfolding modules_of
place-own dep x l =
    let ms = by_number (first_values dep) in
    let e : position_or_len
    (λ (m : KeyValue). bytes_eq m.0 (name_at (by_number (first_values dep)) x))
    (by_number (first_values dep))
    ≡ x
    =
    place-at (by_number (first_values dep)) x l
    (by_number-apart (first_values dep) (sorted-apart (first_values dep) (firsts-up dep))) in
    (λ i. cond (nat_lt (e i) (length (by_number (first_values dep)))) (Some (e i)) None)
    ∙ ap (λ t. cond t (Some x) None) (lt-ltb x (length (by_number (first_values dep))) l)

pub place-name : (ms : List KeyValue) (name : List ℕ) (y : ℕ) → place_of ms name ≡ Some y
    → name_at ms y ≡ name
place-name ms name y e =
    (bytes_eq-Decides (name_at ms y) name).0
    (position-Some (λ (m : KeyValue). bytes_eq m.0 name) ms y ([], (0, [])) e).1

pub has-own : (dep : KeyValues) (x : ℕ) → x < length (modules_of dep)
    → has_value dep (name_at (modules_of dep) x) ≡ true
has-own dep x l =
    sym (has-modules dep (name_at (modules_of dep) x)) ∙ ap is_some (place-own dep x l)
