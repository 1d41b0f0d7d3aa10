-- Modules as they are kept: each is at its place, and found by its name.
use Rattle.std.proofs.Common.{◌≡◌, ⊎_elim, ℕ, zero, suc, ◌+◌, ◌-◌, ◌<◌, ◌≤◌, ◌⊎◌, true, false, cond}
use Rattle.std.proofs.Common.{List, [], ◌∷◌, length, map, get_or, Option, Some, None, refl, sym, ap}
use Rattle.std.proofs.Common.{◌∙◌, subst, inl, inr, arith}
use Rattle.std.specs.Prelude.{All, ◌||◌, is_some, nat_lt}
use Rattle.std.specs.List.{AllByRecursion, list_any}
use Rattle.std.specs.List.Sorted.{IsStrictlySortedBy}
use Rattle.std.specs.Str.{bytes_eq}
use Rattle.std.specs.Cmp.Lexicographic.{nat_list_cmp_total}
use Rattle.std.specs.Ordering.{is_eq, is_lt, ordering_reverse}
use Rattle.std.specs.FinMap.Entries.{below_all}
use Rattle.std.specs.FinMap.{is_sorted}
use Rattle.std.specs.declared.cmp.Ordering.TheVariants.{Less, Greater}
use Rattle.std.proofs.lemmas.Bool.{and_parts, cases_lt, lt-ltb, true≢false}
use Rattle.std.proofs.lemmas.List.{get_or-map, get_or_default, length-map}
use Rattle.std.proofs.lemmas.List.Elements.{All-from_get_or}
use Rattle.std.proofs.lemmas.List.Folds.{list_any_none}
use Rattle.std.proofs.lemmas.Map.Keys.{sorted_from_all_adjacent}
use Rattle.index_format.specs.Listing.{KeyValue}
use Rattle.index_format.proofs.TreeLemmas.{R}
use Rattle.dependency_lines.specs.Modules.{by_number, module_at, name_at, place_of}
use Rattle.dependency_lines.specs.Places.{ArePlaces, IsNumberOf, AreFirst}
use Rattle.dependency_lines.specs.Tables.{at_places, NamesRise}
use Rattle.dependency_lines.proofs.Firsts.{bytes-sym, eq-bytes, less, any-by, some-position}
use Rattle.dependency_lines.proofs.Keys.{Apart, by_number-apart, place-at}
use Rattle.dependency_lines.proofs.Placed.{IsAtPlaces, placed-is}

abbrev nothing : KeyValue
nothing = ([], (0, []))

-- ---- modules at places

pub at-each : (ms : List KeyValue) (places : List ℕ) (k : ℕ) → k < length places
    → module_at (at_places ms places) k ≡ module_at ms (get_or places k 0)
at-each ms places k l = get_or-map (module_at ms) places k 0 nothing l

-- modules whose numbers are their places are by their numbers
pub kept-order : (ms : List KeyValue) (places : List ℕ) → ArePlaces ms places (length ms)
    → All (λ k. k < length ms) places → at_places ms places ≡ by_number ms
kept-order ms places are inside =
    let each : IsAtPlaces ms places (at_places ms places) (length ms) =
    λ k d l.
    let m : k < length places = omega (arith, l, are.long) in
    let low = inside k 0 m in (
      low,
      get_or-map (module_at ms) places k 0 d m
          ∙ get_or_default ms (get_or places k 0) nothing d low,
    ) in
    placed-is ms (at_places ms places) places are (length-map places (module_at ms) ∙ are.long) each

-- modules at the first places are all modules
first-places : (ms : List KeyValue) (places : List ℕ) (from : ℕ) (all : List KeyValue)
    → length places ≡ length ms → ((k : ℕ) → k < length ms → get_or places k 0 ≡ from + k)
    → ((k : ℕ) → k < length ms → module_at all (from + k) ≡ module_at ms k)
    → map (module_at all) places ≡ ms
first-places [] [] from all long each same = refl
first-places [] (p ∷ ps) from all long each same = absurd (omega (arith, long))
first-places (m ∷ ms) [] from all long each same = absurd (omega (arith, long))
first-places (m ∷ ms) (p ∷ ps) from all long each same =
    λ i. (ap (module_at all) (each 0 (omega arith)) ∙ same 0 (omega arith)) i
    ∷ first-places ms ps (from + 1) all (omega (arith, long))
    (λ k l. let e = each (suc k) (omega (arith, l)) in omega (arith, e))
    (λ k l. ap (module_at all) (let e : from + 1 + k ≡ from + suc k = omega arith in e)
    ∙ same (suc k) (omega (arith, l))) i

pub at-first : (ms : List KeyValue) (places : List ℕ) → AreFirst (length ms) places
    → at_places ms places ≡ ms
at-first ms places are =
    first-places ms places 0 ms are.long
    (λ k l. let e = are.each k l in omega (arith, e))
    (λ k l. ap (module_at ms) (let e : 0 + k ≡ k = omega arith in e))

-- ---- names that rise

-- the names of sorted modules rise
pub sorted-rise : (ms : List KeyValue) → is_sorted R ms ≡ true → NamesRise ms
sorted-rise [] up place l = absurd (omega (arith, l))
sorted-rise (m ∷ []) up place l = absurd (omega (arith, l))
sorted-rise (m ∷ n ∷ ms) up zero l =
    let w = and_parts _ _ up in
    less (R m.0 n.0) (and_parts (is_lt (R m.0 n.0)) (below_all R m.0 ms) w.0).0
sorted-rise (m ∷ n ∷ ms) up (suc place) l =
    let e : suc place + 1 ≡ suc (place + 1) = omega arith in
    let low : place + 1 < length (n ∷ ms) = omega (arith, l) in
    ap (λ k. R (name_at (n ∷ ms) place) (name_at (m ∷ n ∷ ms) k)) e
    ∙ sorted-rise (n ∷ ms) (and_parts (below_all R m.0 (n ∷ ms)) (is_sorted R (n ∷ ms)) up).1 place
    low

strictly : (ms : List KeyValue) → NamesRise ms
    → IsStrictlySortedBy R (map (λ (m : KeyValue). m.0) ms)
strictly ms up =
    sorted_from_all_adjacent nat_list_cmp_total (map (λ (m : KeyValue). m.0) ms) []
    (λ k l.
    let m : k + 1 < length ms = omega (arith, l, length-map ms (λ (m : KeyValue). m.0)) in
    (λ i. R (get_or-map (λ (m : KeyValue). m.0) ms k nothing [] (omega (arith, m)) i)
    (get_or-map (λ (m : KeyValue). m.0) ms (k + 1) nothing [] m i))
    ∙ up k m)

other-names : (x : List ℕ) (ms : List KeyValue)
    → AllByRecursion (λ y. R x y ≡ Less) (map (λ (m : KeyValue). m.0) ms)
    → list_any (λ (n : KeyValue). bytes_eq n.0 x) ms ≡ false
other-names x [] h = refl
other-names x (m ∷ ms) h =
    λ i. (bytes-sym m.0 x ∙ sym (eq-bytes x m.0) ∙ ap is_eq h.0) i || other-names x ms h.1 i

strictly-apart : (ms : List KeyValue) → IsStrictlySortedBy R (map (λ (m : KeyValue). m.0) ms)
    → Apart ms
unfolding IsStrictlySortedBy
strictly-apart [] h = tt
strictly-apart (m ∷ ms) h = (other-names m.0 ms h.0, strictly-apart ms h.1)

-- ---- what a search finds

-- The names before a place are below a name, and those from another place on are above it.
pub record IsParted (ms : List KeyValue) (name : List ℕ) (low high : ℕ) : Type 0 where
  pub ordered : low ≤ high
  pub within : high ≤ length ms
  pub below : (k : ℕ) → k < low → R (name_at ms k) name ≡ Less
  pub above : (k : ℕ) → high ≤ k → k < length ms → R name (name_at ms k) ≡ Less

module _ (ms : List KeyValue) (up : NamesRise ms) where
  -- a name is below each later one
  later : (k n : ℕ) → k + suc n < length ms → R (name_at ms k) (name_at ms (k + suc n)) ≡ Less
  later k zero l
      = ap (λ j. R (name_at ms k) (name_at ms j)) (let e : k + suc zero ≡ k + 1 = omega arith in e)
      ∙ up k (omega (arith, l))
  later k (suc n) l =
      ap (λ j. R (name_at ms k) (name_at ms j))
      (let e : k + suc (suc n) ≡ k + suc n + 1 = omega arith in e)
      ∙ nat_list_cmp_total.trans (name_at ms k) (name_at ms (k + suc n))
      (name_at ms (k + suc n + 1)) (later k n (omega (arith, l)))
      (up (k + suc n) (omega (arith, l)))

  pub before : (j k : ℕ) → j < k → k < length ms → R (name_at ms j) (name_at ms k) ≡ Less
  before j k l m =
      let e : j + suc (k - suc j) ≡ k = omega (arith, l) in
      ap (λ i. R (name_at ms j) (name_at ms i)) (sym e) ∙ later j (k - suc j) (omega (arith, e, m))

  module _ (name : List ℕ) (low high middle : ℕ) (parted : IsParted ms name low high)
      (from : low ≤ middle) (to : middle < high) where
    pub part-up : R (name_at ms middle) name ≡ Less → IsParted ms name (middle + 1) high
    part-up l = record {
      ordered = omega (arith, to);
      within = parted.within;
      below = λ k m. go k (cases_lt k middle) m;
      above = parted.above;
    }
      where
        go : (k : ℕ) → (k < middle) ⊎ (middle ≤ k) → k < middle + 1 → R (name_at ms k) name ≡ Less
        go k (inl under) m
            = nat_list_cmp_total.trans (name_at ms k) (name_at ms middle) name
            (before k middle under (omega (arith, to, parted.within))) l
        go k (inr same) m
            = ap (λ i. R (name_at ms i) name) (let e : k ≡ middle = omega (arith, same, m) in e) ∙ l

    pub part-down : R (name_at ms middle) name ≡ Greater → IsParted ms name low middle
    part-down g = record {
      ordered = from;
      within = omega (arith, to, parted.within);
      below = parted.below;
      above = λ k m l. go k (cases_lt middle k) m l;
    }
      where
        turned : R name (name_at ms middle) ≡ Less
        turned = nat_list_cmp_total.antisymm name (name_at ms middle) ∙ ap ordering_reverse g

        go : (k : ℕ) → (middle < k) ⊎ (k ≤ middle) → middle ≤ k → k < length ms
            → R name (name_at ms k) ≡ Less
        go k (inl over) m l
            = nat_list_cmp_total.trans name (name_at ms middle) (name_at ms k) turned
            (before middle k over l)
        go k (inr same) m l
            = ap (λ i. R name (name_at ms i)) (let e : k ≡ middle = omega (arith, same, m) in e)
            ∙ turned

  -- where the two places are one, no module has the name
  pub parted-none : (name : List ℕ) (low high : ℕ) → IsParted ms name low high → high ≤ low
      → list_any (λ (m : KeyValue). bytes_eq m.0 name) ms ≡ false
  parted-none name low high parted met =
      list_any_none (λ (m : KeyValue). bytes_eq m.0 name) ms
      (All-from_get_or (λ (m : KeyValue). bytes_eq m.0 name ≡ false) ms nothing
      (λ k l. ⊎_elim
      (λ b. sym (eq-bytes (name_at ms k) name) ∙ ap is_eq (parted.below k b))
      (λ a. bytes-sym (name_at ms k) name ∙ sym (eq-bytes name (name_at ms k))
      ∙ ap is_eq (parted.above k (omega (arith, a, met)) l))
      (cases_lt k low)))

-- the place of a module is its number
no-place : (o : Option ℕ) → is_some o ≡ false → None ≡ o
no-place None h = refl
no-place (Some x) h = absurd (true≢false h)

own-place : (ms : List KeyValue) (x : ℕ) → x < length ms → Apart ms
    → place_of ms (name_at ms x) ≡ Some x
own-place ms x l apart =
    let e = place-at ms x l apart in
    (λ i. cond (nat_lt (e i) (length ms)) (Some (e i)) None)
    ∙ ap (λ t. cond t (Some x) None) (lt-ltb x (length ms) l)

pub place-kept : (ms : List KeyValue) (places : List ℕ) (name : List ℕ) (o : Option ℕ)
    → All (λ k. k < length ms) places → NamesRise ms → ArePlaces ms places (length ms)
    → IsNumberOf ms name o → o ≡ place_of (at_places ms places) name
place-kept ms places name None inside up are none =
    let p = λ (m : KeyValue). bytes_eq m.0 name in
    no-place (place_of (at_places ms places) name)
    (some-position p (at_places ms places) ∙ ap (list_any p) (kept-order ms places are inside)
    ∙ any-by p ms ∙ none)
place-kept ms places name (Some n) inside up are found =
    let k = found.0 in
    let is = found.3 nothing in
    let back = are.back k nothing found.1 in
    let there : get_or places n 0 ≡ k = ap (λ j. get_or places j 0) (sym is) ∙ back.1 in
    let low : n < length places = omega (arith, back.0, is, are.long) in
    let kept = at_places ms places in
    let order = kept-order ms places are inside in
    let apart : Apart kept
    = subst Apart (sym order) (by_number-apart ms (strictly-apart ms (strictly ms up))) in
    let own : name_at kept n ≡ name
    = ap (λ (m : KeyValue). m.0) (at-each ms places n low) ∙ ap (name_at ms) there ∙ found.2 in
    sym (ap (place_of kept) (sym own)
    ∙ own-place kept n (omega (arith, low, length-map places (module_at ms))) apart)

-- ---- texts that are compared

pub same-lists : (xs ys : List ℕ) → length xs ≡ length ys
    → ((k : ℕ) → k < length xs → get_or xs k 0 ≡ get_or ys k 0) → xs ≡ ys
same-lists [] [] l h = refl
same-lists [] (y ∷ ys) l h = absurd (omega (arith, l))
same-lists (x ∷ xs) [] l h = absurd (omega (arith, l))
same-lists (x ∷ xs) (y ∷ ys) l h =
    λ i. h 0 (omega arith) i
    ∷ same-lists xs ys (omega (arith, l)) (λ k m. h (suc k) (omega (arith, m))) i
