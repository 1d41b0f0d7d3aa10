-- Gaps between runs.
use Rattle.std.proofs.Common.{◌≡◌, ◌≤◌, ◌<◌, ◌+◌, ◌-◌, ◌*◌, ◌/◌, ◌%◌, ◌∙◌, inl, inr, ℕ, zero, suc}
use Rattle.std.proofs.Common.{Bool, true, false, List, [], ◌∷◌, Some, None, refl, sym, ap, arith}
use Rattle.std.proofs.Common.{length, take, drop, map, nat_lt, slice_index_or, get_or}
use Rattle.std.specs.Prelude.{◌||◌, find, All}
use Rattle.std.specs.List.{list_any}
use Rattle.std.specs.List.Sorted.{IsNonDecreasingBy, IsPermutation}
use Rattle.std.proofs.lemmas.Bool.{cases_lt}
use Rattle.std.proofs.lemmas.Bool.Decides.{nat_tests}
use Rattle.std.proofs.lemmas.List.{take-append-drop, get_or-drop, get_or_default, length-drop}
use Rattle.std.proofs.lemmas.List.Elements.{All-map}
use Rattle.std.proofs.lemmas.List.Folds.{list_any-append, list_any_none}
use Rattle.std.proofs.lemmas.List.FromFn.{get_or-map-range_with_len, length-map-range_with_len}
use Rattle.std.proofs.lemmas.List.Sorted.{list_any-IsPermutation, All-permutation}
use Rattle.model_loader.specs.declared.entry.Entry.{Entry}
use Rattle.module_region.specs.declared.region.Region.{Region}
use Rattle.model_loader.specs.declared.gap.Run.{Run}
use Rattle.module_region.specs.Regions.{IsRegion}
use Rattle.model_loader.specs.Gap.{meets_entry, is_gap, pages, gap_among}
use Rattle.model_loader.specs.Runs.{IsLowest, IsPaged, run_of, meets_run, meets_any}

pub any-map : {X Y : Type 0} (p : Y → Bool) (f : X → Y) (xs : List X)
    → list_any p (map f xs) ≡ list_any (λ x. p (f x)) xs
any-map p f [] = refl
any-map p f (x ∷ xs) = ap (λ b. p (f x) || b) (any-map p f xs)

out_of_reach : (n at : ℕ) (r : Run) → at + n ≤ r.base → meets_run n at r ≡ false
out_of_reach n at r past = grind (arith, nat_tests)

or-both : (a b : Bool) → a ≡ false → b ≡ false → (a || b) ≡ false
or-both a b none other = rw (none, other) refl

or-left : (a b : Bool) → a ≡ true → (a || b) ≡ true
or-left a b some = rw some refl

not_below : (at : ℕ) → nat_lt at at ≡ false
not_below at = grind (arith, nat_tests)

is_below : (x at : ℕ) → x < at → nat_lt x at ≡ true
is_below x at less = grind (arith, nat_tests)

-- Where the next run is out of reach, so are all later ones.
pub lowest-early : (base n at i : ℕ) (runs : List Run) (d : Run) → base ≤ at → at % 4096 ≡ 0
    → IsNonDecreasingBy (λ (r : Run). r.base) runs → i < length runs
    → at + n ≤ (slice_index_or runs i d).base
    → ((x : ℕ) → base ≤ x → meets_any (take i runs) n x ≡ nat_lt x at) → IsLowest base runs n at
lowest-early base n at i runs d low page sorted inside past met =
    let split : (x : ℕ)
    → meets_any runs n x ≡ (meets_any (take i runs) n x || meets_any (drop i runs) n x)
    =
    λ x. ap (λ rs. meets_any rs n x) (sym (take-append-drop i runs))
    ∙ list_any-append (meets_run n x) (take i runs) (drop i runs) in
    let later : meets_any (drop i runs) n at ≡ false =
    list_any_none (meets_run n at) (drop i runs) (λ k e less.
    let inside_k : i + k < length runs = omega (arith, length-drop i runs, less) in
    let order : (slice_index_or runs i e).base ≤ (slice_index_or runs (i + k) e).base
    = sorted i (i + k) e (omega arith) inside_k in
    let first : slice_index_or runs i d ≡ slice_index_or runs i e
    = get_or_default runs i d e inside in
    let same : get_or (drop i runs) k e ≡ slice_index_or runs (i + k) e = get_or-drop i runs k e in
    out_of_reach n at (get_or (drop i runs) k e)
    (omega (arith, past, order, ap (λ (r : Run). r.base) first, ap (λ (r : Run). r.base) same)))
    in
    record {
      low = low;
      page = page;
      below
          = λ x above less. split x
          ∙ or-left (meets_any (take i runs) n x) (meets_any (drop i runs) n x)
          (met x above ∙ is_below x at less);
      free
          = split at
          ∙ or-both (meets_any (take i runs) n at) (meets_any (drop i runs) n at)
          (met at low ∙ not_below at) later;
    }

-- the images of entries as runs
pub any-runs : (entries : List Entry) (runs : List Run) (n at : ℕ)
    → IsPermutation (map run_of entries) runs
    → list_any (meets_entry at n) entries ≡ meets_any runs n at
any-runs entries runs n at same =
    sym (any-map (meets_run n at) run_of entries)
    ∙ list_any-IsPermutation (meets_run n at) (map run_of entries) runs same

pub paged-runs : (entries : List Entry) (runs : List Run) → IsPermutation (map run_of entries) runs
    → All (λ (e : Entry). IsPaged (run_of e)) entries → All IsPaged runs
paged-runs entries runs same paged =
    All-permutation IsPaged (map run_of entries) runs same (All-map IsPaged run_of entries paged)

-- the first item that passes a test
pub find-first : {X : Type 0} (p : X → Bool) (xs : List X) (k : ℕ) (d : X) → k < length xs
    → p (get_or xs k d) ≡ true → ((j : ℕ) → j < k → p (get_or xs j d) ≡ false)
    → find p xs ≡ Some (get_or xs k d)
find-first p [] k d inside here before = absurd (omega arith)
find-first p (x ∷ xs) zero d inside here before = rw here refl
find-first p (x ∷ xs) (suc k) d inside here before =
    let first : p x ≡ false = before 0 (omega arith) in
    rw first (find-first p xs k d (omega arith) here (λ j less. before (suc j) (omega arith)))

pub find-none : {X : Type 0} (p : X → Bool) (xs : List X) (d : X)
    → ((j : ℕ) → j < length xs → p (get_or xs j d) ≡ false) → find p xs ≡ None
find-none p [] d none = refl
find-none p (x ∷ xs) d none =
    let first : p x ≡ false = none 0 (omega arith) in
    rw first (find-none p xs d (λ j less. none (suc j) (omega arith)))

page_at : (region : Region) (k : ℕ) → k < region.size / 4096
    → get_or (pages region) k 0 ≡ region.base + 4096 * k
page_at region k inside =
    get_or-map-range_with_len (λ j. region.base + 4096 * j) 0 (region.size / 4096) k k 0 inside
    (omega arith)

length-pages : (region : Region) → length (pages region) ≡ region.size / 4096
length-pages region = length-map-range_with_len (λ j. region.base + 4096 * j) 0 (region.size / 4096)

is_gap-met : (region : Region) (entries : List Entry) (n at : ℕ)
    → list_any (meets_entry at n) entries ≡ true → is_gap region entries n at ≡ false
is_gap-met region entries n at met = rw met (grind (arith, nat_tests))

is_gap-past : (region : Region) (entries : List Entry) (n at : ℕ)
    → region.base + region.size < at + n → is_gap region entries n at ≡ false
is_gap-past region entries n at past = grind (arith, nat_tests)

is_gap-free : (region : Region) (entries : List Entry) (n at : ℕ)
    → at + n ≤ region.base + region.size → list_any (meets_entry at n) entries ≡ false
    → is_gap region entries n at ≡ true
is_gap-free region entries n at inside free = rw free (grind (arith, nat_tests))

-- The lowest free page, where it is in the region.
pub gap-found : (region : Region) (entries : List Entry) (runs : List Run) (n at : ℕ)
    → IsRegion region.base region.size → IsPermutation (map run_of entries) runs → 0 < n
    → IsLowest region.base runs n at → at + n ≤ region.base + region.size
    → Some at ≡ gap_among region entries n
unfolding gap_among
gap-found region entries runs n at is same some lowest inside =
    let k = (at - region.base) / 4096 in
    let at_k : region.base + 4096 * k ≡ at = omega (arith, is.begins, lowest.low, lowest.page) in
    let within : k < region.size / 4096 = omega (arith, is.whole, inside, some, at_k) in
    let here : get_or (pages region) k 0 ≡ at = page_at region k within ∙ at_k in
    let free : is_gap region entries n at ≡ true
    = is_gap-free region entries n at inside (any-runs entries runs n at same ∙ lowest.free) in
    let found
    = find-first (is_gap region entries n) (pages region) k 0
    (omega (arith, length-pages region, within)) (ap (is_gap region entries n) here ∙ free)
    (λ j less.
    let x = region.base + 4096 * j in
    let page : get_or (pages region) j 0 ≡ x = page_at region j (omega (arith, less, within)) in
    ap (is_gap region entries n) page
    ∙ is_gap-met region entries n x
    (any-runs entries runs n x same
    ∙ lowest.below x (omega arith) (omega (arith, less, at_k)))) in
    sym (found ∙ ap Some here)

pub gap-none : (region : Region) (entries : List Entry) (runs : List Run) (n at : ℕ)
    → IsPermutation (map run_of entries) runs → IsLowest region.base runs n at
    → region.base + region.size < at + n → None ≡ gap_among region entries n
unfolding gap_among
gap-none region entries runs n at same lowest past =
    sym (find-none (is_gap region entries n) (pages region) 0 (λ j less.
    let x = region.base + 4096 * j in
    let page : get_or (pages region) j 0 ≡ x
    = page_at region j (omega (arith, length-pages region, less)) in
    ap (is_gap region entries n) page
    ∙ elim (cases_lt x at) [
      | inl low ↦ is_gap-met region entries n x
          (any-runs entries runs n x same ∙ lowest.below x (omega arith) low)
      | inr high ↦ is_gap-past region entries n x (omega arith)
    ]))
