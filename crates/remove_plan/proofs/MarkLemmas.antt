-- Marks at places: what they are after one more module.
use Rattle.std.proofs.Common.{◌≡◌, ◌≤◌, ◌<◌, ◌+◌, ◌-◌, ◌∙◌, ◌⊎◌, inl, inr, ℕ, zero, suc, Bool, true}
use Rattle.std.proofs.Common.{false, List, [], ◌∷◌, ◌++◌, Option, Some, None, refl, sym, ap, subst}
use Rattle.std.proofs.Common.{arith, length, cond, map, get_or, replicate, set, take, Vec, Global}
use Rattle.std.specs.Prelude.{◌&&◌, ◌||◌, not, find, slice_get, is_none, nat_eq, nat_lt, All}
use Rattle.std.specs.Prelude.{slice_index_or}
use Rattle.std.specs.List.{list_any, range_with_len}
use Rattle.std.specs.Option.{option_map_or, option_or}
use Rattle.std.proofs.Math.Path.{fun_ext}
use Rattle.std.proofs.lemmas.Bool.{cases_Bool, or_left, or_right}
use Rattle.std.proofs.lemmas.Bool.Decides.{nat_tests}
use Rattle.std.proofs.lemmas.List.{length-map, take_more}
use Rattle.std.proofs.lemmas.List.Folds.{list_any-append}
use Rattle.std.specs.Str.{bytes_eq}
use Rattle.name_table.specs.FirstSeen.{is_among}
use Rattle.model_loader.specs.declared.entry.Entry.{Entry}
use Rattle.model_loader.specs.Machine.{Machine}
use Rattle.model_loader.specs.Use.{AreUses, binds, places}
use Rattle.model_loader.proofs.PlaceLemmas.{past, range-more, below-or-at}
use Rattle.remove_plan.specs.Marks.{AreAsked, AreUsed, AreUsers, is_marked}
use Rattle.remove_plan.specs.Removal.{Places, among, is_asked, is_used_only}
use Rattle.remove_plan.proofs.RemovalLemmas.{pushed-cases, pushed-here, pushed-other, younger}
use Rattle.std.proofs.Math.Bool.{and-false, and_comm, or-false, or_assoc, or_comm}

-- Whom a module binds to, by the list of its uses.
module _ (machine : Machine) (us : List (Vec ℕ Global))
    (are : AreUses machine (map (λ (u : Vec ℕ Global). u.items) us)) where
  item-at : (xs : List (Vec ℕ Global)) (k : ℕ) (u : Vec ℕ Global) → k < length xs
      → u ≡ get_or xs k u → slice_get (map (λ (v : Vec ℕ Global). v.items) xs) k ≡ Some u.items
  item-at [] k u less is = absurd (omega (arith, less))
  item-at (x ∷ xs) zero u less is = ap (λ (v : Vec ℕ Global). Some v.items) (sym is)
  item-at (x ∷ xs) (suc k) u less is = item-at xs k u (omega (arith, less)) is

  pub uses-length : length us ≡ length machine.entries
  uses-length = sym (length-map us (λ (u : Vec ℕ Global). u.items)) ∙ are.counted

  pub use-is : (k j : ℕ) (u : Vec ℕ Global) → k < length us → u ≡ get_or us k u
      → list_any (nat_eq j) u.items ≡ binds machine k j
  use-is k j u less is
      = ap (λ o. option_map_or (list_any (nat_eq j)) o false) (sym (item-at us k u less is))
      ∙ are.at k j

  member : (xs : List ℕ) (i d : ℕ) → i < length xs → list_any (nat_eq (get_or xs i d)) xs ≡ true
  member [] i d less = absurd (omega (arith, less))
  member (x ∷ xs) zero d less
      = or_left (nat_eq x x) (list_any (nat_eq x) xs) (grind (arith, nat_tests))
  member (x ∷ xs) (suc i) d less
      = or_right (nat_eq (get_or xs i d) x) (list_any (nat_eq (get_or xs i d)) xs)
      (member xs i d (omega (arith, less)))

  pub uses-within : (k : ℕ) (u : Vec ℕ Global) → k < length us → k < length machine.entries
      → u ≡ get_or us k u → All (λ (j : ℕ). j < length machine.entries) u.items
  uses-within k u less inside is i d less_i =
      let j = get_or u.items i d in
      let low : j < k
      = younger machine k j (sym (use-is k j u less is) ∙ member u.items i d less_i) in
      omega (arith, low, inside)

pub all-inside : (n m : ℕ) (xs ys : List ℕ) → ys ≡ xs → m ≡ n → All (λ (j : ℕ). j < n) xs
    → All (λ (j : ℕ). j < m) ys
all-inside n m xs ys same long all =
    subst (λ (l : List ℕ). All (λ (j : ℕ). j < m) l) (sym same)
    (subst (λ (i : ℕ). All (λ (j : ℕ). j < i) xs) (sym long) all)

-- Places above one that pass alike.
any-above : (p q : ℕ → Bool) (i n : ℕ) → ((u : ℕ) → i ≤ u → p u ≡ q u)
    → list_any p (range_with_len i n) ≡ list_any q (range_with_len i n)
any-above p q i zero same = refl
any-above p q i (suc n) same =
    ap (λ b. b || list_any p (range_with_len (i + 1) n)) (same i (omega arith))
    ∙ ap (λ b. q i || b) (any-above p q (i + 1) n (λ u le. same u (omega (arith, le))))

-- One module more to the marks of those that are used.
pub used-next : (machine : Machine) (set next : Places) (k : ℕ) (marks more : List Bool)
    → k < length machine.entries → length more ≡ length marks
    → ((u : ℕ) → k < u → set u ≡ next u)
    → ((j : ℕ) → is_marked more j ≡ (is_marked marks j || (next k && binds machine k j)))
    → AreUsed machine set (k + 1) marks → AreUsed machine next k more
used-next machine set next k marks more less counted same at are = record {
  counted = counted ∙ are.counted;
  at = λ j inside.
      let n = length machine.entries in
      let rest : list_any (λ u. set u && binds machine u j) (range_with_len (k + 1) (n - (k + 1)))
      ≡ list_any (λ u. next u && binds machine u j) (range_with_len (k + 1) (n - (k + 1)))
      =
      any-above (λ u. set u && binds machine u j) (λ u. next u && binds machine u j) (k + 1)
      (n - (k + 1)) (λ u le. ap (λ b. b && binds machine u j) (same u (omega (arith, le)))) in
      at j
      ∙ ap (λ b. b || (next k && binds machine k j)) (are.at j inside ∙ rest)
      ∙ or_comm (list_any (λ u. next u && binds machine u j) (range_with_len (k + 1) (n - (k + 1))))
      (next k && binds machine k j)
      ∙ sym (ap (list_any (λ u. next u && binds machine u j)) (range-more k n less));
}

pub used-first : (machine : Machine) (set : Places) (k : ℕ) (marks : List Bool)
    → length machine.entries ≤ k → length marks ≡ length machine.entries
    → ((j : ℕ) → is_marked marks j ≡ false) → AreUsed machine set k marks
used-first machine set k marks le counted none = record {
  counted = counted;
  at = λ j inside.
      let zero_is : length machine.entries - k ≡ 0 = omega (arith, le) in
      none j
      ∙ sym (ap (λ n. list_any (λ u. set u && binds machine u j) (range_with_len k n)) zero_is);
}

-- What a set leaves unused, by the marks.
skip : (p : ℕ → Bool) (i n : ℕ) → i ≤ n → ((u : ℕ) → u < i → p u ≡ false)
    → list_any p (range_with_len 0 n) ≡ list_any p (range_with_len i (n - i))
skip p zero n le none =
    let all : n - 0 ≡ n = omega arith in
    sym (ap (λ m. list_any p (range_with_len 0 m)) all)
skip p (suc i) n le none =
    let next : i + 1 ≡ suc i = omega arith in
    skip p i n (omega (arith, le)) (λ u less. none u (omega (arith, less)))
    ∙ ap (list_any p) (range-more i n (omega (arith, le)))
    ∙ ap (λ b. b || list_any p (range_with_len (i + 1) (n - (i + 1)))) (none i (omega arith))
    ∙ ap (λ m. list_any p (range_with_len m (n - m))) next

older : (machine : Machine) (u k : ℕ) → u ≤ k → binds machine u k ≡ false
older machine u k le =
    elim (cases_Bool (binds machine u k)) [
      | inl is ↦ absurd (omega (arith, younger machine u k is, le))
      | inr other ↦ other
    ]

none-found : (p q : ℕ → Bool) → ((u : ℕ) → p u ≡ q u) → (us : List ℕ)
    → is_none (find p us) ≡ not (list_any q us)
none-found p q same [] = refl
none-found p q same (u ∷ us) =
    ap (λ b. is_none (cond b (Some u) (find p us))) (same u) ∙ by (q u) (none-found p q same us)
  where
    by : (b : Bool) → is_none (find p us) ≡ not (list_any q us)
        → is_none (cond b (Some u) (find p us)) ≡ not (b || list_any q us)
    by true is = refl
    by false is = is

pub left-is : (machine : Machine) (set : Places) (k : ℕ) (used kept : List Bool)
    → k < length machine.entries → AreUsed machine set (k + 1) used
    → AreUsed machine (λ u. not (set u)) (k + 1) kept
    → (is_marked used k && not (is_marked kept k)) ≡ is_used_only machine set k
left-is machine set k used kept less in_set out_set =
    let n = length machine.entries in
    let within : is_marked used k ≡ list_any (λ u. set u && binds machine u k) (places machine) =
    in_set.at k less
    ∙ sym (skip (λ u. set u && binds machine u k) (k + 1) n (omega (arith, less))
    (λ u low. ap (λ b. set u && b) (older machine u k (omega (arith, low)))
    ∙ and-false (set u))) in
    let outside : is_marked kept k
    ≡ list_any (λ u. not (set u) && binds machine u k) (places machine)
    =
    out_set.at k less
    ∙ sym (skip (λ u. not (set u) && binds machine u k) (k + 1) n (omega (arith, less))
    (λ u low. ap (λ b. not (set u) && b) (older machine u k (omega (arith, low)))
    ∙ and-false (not (set u)))) in
    ap (λ b. b && not (is_marked kept k)) within
    ∙ ap (λ b. list_any (λ u. set u && binds machine u k) (places machine) && not b) outside
    ∙ ap (λ b. list_any (λ u. set u && binds machine u k) (places machine) && b)
    (sym (none-found (λ u. binds machine u k && not (set u)) (λ u. not (set u) && binds machine u k)
    (λ u. and_comm (binds machine u k) (not (set u))) (places machine)))

-- One module more to the oldest users.
find-step : (b : Bool) (i : ℕ) (rest more last : Option ℕ) → more ≡ option_or rest last
    → cond b (Some i) more ≡ option_or (cond b (Some i) rest) last
find-step true i rest more last is = refl
find-step false i rest more last is = is

find-push : (p : ℕ → Bool) (i n : ℕ)
    → find p (range_with_len i (suc n))
    ≡ option_or (find p (range_with_len i n)) (cond (p (i + n)) (Some (i + n)) None)
find-push p i zero =
    let same : i + 0 ≡ i = omega arith in
    sym (ap (λ m. cond (p m) (Some m) None) same)
find-push p i (suc n) =
    let same : i + 1 + n ≡ i + suc n = omega arith in
    find-step (p i) i (find p (range_with_len (i + 1) n)) (find p (range_with_len (i + 1) (suc n)))
    (cond (p (i + 1 + n)) (Some (i + 1 + n)) None) (find-push p (i + 1) n)
    ∙ ap (λ m. option_or (cond (p i) (Some i) (find p (range_with_len (i + 1) n)))
    (cond (p m) (Some m) None)) same

pub users-next : (machine : Machine) (set : Places) (k : ℕ) (users more : List (Option ℕ))
    → length more ≡ length users
    → ((j : ℕ)
    → slice_index_or more j None
    ≡ option_or (slice_index_or users j None)
    (cond (binds machine k j && not (set k)) (Some k) None))
    → AreUsers machine set k users → AreUsers machine set (k + 1) more
users-next machine set k users more counted at are = record {
  counted = counted ∙ are.counted;
  at = λ j inside.
      let next : k + 1 ≡ suc k = omega arith in
      let zero_k : 0 + k ≡ k = omega arith in
      at j
      ∙ ap (λ o. option_or o (cond (binds machine k j && not (set k)) (Some k) None))
      (are.at j inside)
      ∙ sym (ap (λ m. find (λ u. binds machine u j && not (set u)) (range_with_len 0 m)) next
      ∙ find-push (λ u. binds machine u j && not (set u)) 0 k
      ∙ ap (λ m. option_or (find (λ u. binds machine u j && not (set u)) (range_with_len 0 k))
      (cond (binds machine m j && not (set m)) (Some m) None)) zero_k);
}

-- One name more of a set.
pub among-more : (names : List (List ℕ)) (i : ℕ) (n other : List ℕ) → i < length names
    → n ≡ get_or names i n
    → is_among (take (i + 1) names) other ≡ (is_among (take i names) other || bytes_eq other n)
among-more names i n other less is =
    ap (list_any (bytes_eq other))
    (take_more names i n less ∙ ap (λ m. take i names ++ m ∷ []) (sym is))
    ∙ list_any-append (bytes_eq other) (take i names) (n ∷ [])
    ∙ ap (λ b. is_among (take i names) other || b) (or-false (bytes_eq other n))

-- One mark more of those that are asked for.
marked-old : (marks : List Bool) (b : Bool) (i : ℕ) → i < length marks
    → is_marked (marks ++ b ∷ []) i ≡ is_marked marks i
marked-old [] b i less = absurd (omega (arith, less))
marked-old (x ∷ xs) b zero less = refl
marked-old (x ∷ xs) b (suc i) less = marked-old xs b i (omega (arith, less))

marked-last : (marks : List Bool) (b : Bool) → is_marked (marks ++ b ∷ []) (length marks) ≡ b
marked-last [] b = refl
marked-last (x ∷ xs) b = marked-last xs b

marked-past : (marks : List Bool) (i : ℕ) → length marks ≤ i → is_marked marks i ≡ false
marked-past [] i le = refl
marked-past (x ∷ xs) zero le = absurd (omega (arith, le))
marked-past (x ∷ xs) (suc i) le = marked-past xs i (omega (arith, le))

pub asked-more : (machine : Machine) (names : List (List ℕ)) (k : ℕ) (marks more : List Bool)
    (b : Bool)
    → length marks ≡ k → more ≡ marks ++ b ∷ [] → b ≡ is_asked machine names k
    → ((i : ℕ) → i < k → is_marked marks i ≡ is_asked machine names i) → (i : ℕ) → i < k + 1
    → is_marked more i ≡ is_asked machine names i
asked-more machine names k marks more b counted is test at i less =
    elim (below-or-at i k less) [
      | inl below ↦ ap (λ ms. is_marked ms i) is
          ∙ marked-old marks b i (omega (arith, counted, below)) ∙ at i below
      | inr same ↦
          let here : i ≡ length marks = omega (arith, same, counted) in
          ap (λ ms. is_marked ms i) is ∙ ap (is_marked (marks ++ b ∷ [])) here ∙ marked-last marks b
          ∙ test ∙ ap (is_asked machine names) (sym same)
    ]

pub asked-end : (machine : Machine) (names : List (List ℕ)) (marks : List Bool)
    → length marks ≡ length machine.entries
    → ((i : ℕ) → i < length marks → is_marked marks i ≡ is_asked machine names i) → (i : ℕ)
    → is_marked marks i ≡ is_asked machine names i
asked-end machine names marks counted at i =
    elim (cases_Bool (nat_lt i (length marks))) [
      | inl inside ↦ at i (grind (arith, nat_tests))
      | inr outside ↦
          let le : length marks ≤ i = grind (arith, nat_tests) in
          marked-past marks i le
          ∙ sym (ap (λ o. option_map_or (λ (e : Entry). is_among names e.loaded.name) o false)
          (past machine.entries i (omega (arith, le, counted))))
    ]

-- Names that are among the same ones are asked for alike.
pub asked-by : (machine : Machine) (set names : List (List ℕ))
    → ((name : List ℕ) → is_among set name ≡ is_among names name) → (k : ℕ)
    → is_asked machine set k ≡ is_asked machine names k
asked-by machine set names same k =
    ap (λ (f : List ℕ → Bool). option_map_or (λ (e : Entry). f e.loaded.name)
    (slice_get machine.entries k) false) (fun_ext same)

-- The marks are the marks of the set.
pub set-is : (machine : Machine) (names : List (List ℕ)) (marks : List Bool)
    → AreAsked machine names marks → is_marked marks ≡ is_asked machine names
set-is machine names marks are = λ i k. are.at k i

any-more : (places : List ℕ) (i p j : ℕ) → i < length places → p ≡ get_or places i 0
    → list_any (nat_eq j) (take (i + 1) places)
    ≡ (list_any (nat_eq j) (take i places) || nat_eq j p)
any-more places i p j less is =
    ap (list_any (nat_eq j))
    (take_more places i 0 less ∙ ap (λ m. take i places ++ m ∷ []) (sym is))
    ∙ list_any-append (nat_eq j) (take i places) (p ∷ [])
    ∙ ap (λ b. list_any (nat_eq j) (take i places) || b) (or-false (nat_eq j p))

-- A place that is set.
set-at : {X : Type 0} (xs : List X) (p j : ℕ) (v d : X) → p < length xs
    → get_or (set xs p v) j d ≡ cond (nat_eq j p) v (get_or xs j d)
set-at [] p j v d less = absurd (omega (arith, less))
set-at (x ∷ xs) zero zero v d less =
    let same : nat_eq 0 0 ≡ true = grind (arith, nat_tests) in ap (λ b. cond b v x) (sym same)
set-at (x ∷ xs) zero (suc j) v d less =
    let other : nat_eq (suc j) 0 ≡ false
    = grind (arith, nat_tests) in ap (λ b. cond b v (get_or xs j d)) (sym other)
set-at (x ∷ xs) (suc p) zero v d less =
    let other : nat_eq 0 (suc p) ≡ false
    = grind (arith, nat_tests) in ap (λ b. cond b v x) (sym other)
set-at (x ∷ xs) (suc p) (suc j) v d less =
    let same : nat_eq (suc j) (suc p) ≡ nat_eq j p = grind (arith, nat_tests) in
    set-at xs p j v d (omega (arith, less)) ∙ ap (λ b. cond b v (get_or xs j d)) (sym same)

-- A place more that is marked.
marked-by : (a b : Bool) → cond b true a ≡ (a || b)
marked-by true true = refl
marked-by true false = refl
marked-by false true = refl
marked-by false false = refl

pub mark-more : (first old : List Bool) (places : List ℕ) (i p : ℕ) → p < length old
    → i < length places → p ≡ get_or places i 0
    → ((j : ℕ) → is_marked old j ≡ (is_marked first j || list_any (nat_eq j) (take i places)))
    → (j : ℕ)
    → is_marked (set old p true) j
    ≡ (is_marked first j || list_any (nat_eq j) (take (i + 1) places))
mark-more first old places i p inside less is before j =
    set-at old p j true false inside
    ∙ marked-by (is_marked old j) (nat_eq j p)
    ∙ ap (λ b. b || nat_eq j p) (before j)
    ∙ or_assoc (is_marked first j) (list_any (nat_eq j) (take i places)) (nat_eq j p)
    ∙ ap (λ b. is_marked first j || b) (sym (any-more places i p j less is))

-- A place more where a user is noted.
noted-by : (b c : Bool) (o x : Option ℕ)
    → cond b (option_or (option_or o (cond c x None)) x) (option_or o (cond c x None))
    ≡ option_or o (cond (c || b) x None)
noted-by b c (Some y) x =
    elim b as (λ b. cond b (option_or (Some y) x) (Some y) ≡ Some y) [ true ↦ refl | false ↦ refl ]
noted-by true true None None = refl
noted-by true true None (Some z) = refl
noted-by true false None x = refl
noted-by false true None x = refl
noted-by false false None x = refl

set-same : (old : List (Option ℕ)) (p j : ℕ) (x : Option ℕ)
    → cond (nat_eq j p) (option_or (get_or old p None) x) (get_or old j None)
    ≡ cond (nat_eq j p) (option_or (get_or old j None) x) (get_or old j None)
set-same old p j x =
    elim (cases_Bool (nat_eq j p)) [
      | inl is ↦ let same : p ≡ j
          = grind (arith, nat_tests) in ap
          (λ m. cond (nat_eq j p) (option_or (get_or old m None) x) (get_or old j None)) same
      | inr other ↦ ap (λ b. cond b (option_or (get_or old p None) x) (get_or old j None)) other
          ∙ sym (ap (λ b. cond b (option_or (get_or old j None) x) (get_or old j None)) other)
    ]

pub note-more : (first old : List (Option ℕ)) (places : List ℕ) (i p user : ℕ) (noted : Option ℕ)
    → p < length old → i < length places → p ≡ get_or places i 0
    → ((j : ℕ)
    → slice_index_or old j None
    ≡ option_or (slice_index_or first j None)
    (cond (list_any (nat_eq j) (take i places)) (Some user) None))
    → noted ≡ option_or (get_or old p None) (Some user) → (j : ℕ)
    → slice_index_or (set old p noted) j None
    ≡ option_or (slice_index_or first j None)
    (cond (list_any (nat_eq j) (take (i + 1) places)) (Some user) None)
note-more first old places i p user noted inside less is before what j =
    set-at old p j noted None inside
    ∙ ap (λ o. cond (nat_eq j p) o (get_or old j None)) what
    ∙ set-same old p j (Some user)
    ∙ ap (λ o. cond (nat_eq j p) (option_or o (Some user)) o) (before j)
    ∙ noted-by (nat_eq j p) (list_any (nat_eq j) (take i places)) (slice_index_or first j None)
    (Some user)
    ∙ ap (λ b. option_or (slice_index_or first j None) (cond b (Some user) None))
    (sym (any-more places i p j less is))

-- One module more that goes, or stays.
module _ (machine : Machine) (ks : List ℕ) (count done : ℕ) (less : done < count)
    (counted : count ≡ length machine.entries) where
  abbrev at_turn : ℕ
  at_turn = count - 1 - done

  now-is : count - done ≡ at_turn + 1
  now-is = omega (arith, less)

  next-is : at_turn ≡ count - (done + 1)
  next-is = omega (arith, less)

  inside : at_turn < length machine.entries
  inside = omega (arith, less, counted)

  pub goes-next : (used more kept : List Bool) → length more ≡ length used
      → ((j : ℕ) → is_marked more j ≡ (is_marked used j || binds machine at_turn j))
      → AreUsed machine (among ks) (count - done) used
      → AreUsed machine (λ u. not (among ks u)) (count - done) kept
      → AreUsed machine (among (ks ++ at_turn ∷ [])) (count - (done + 1)) more
      × AreUsed machine (λ u. not (among (ks ++ at_turn ∷ []) u)) (count - (done + 1)) kept
  goes-next used more kept long at in_set out_set = (
    subst (λ m. AreUsed machine (among (ks ++ at_turn ∷ [])) m more) next-is
        (used-next machine (among ks) (among (ks ++ at_turn ∷ [])) at_turn used more inside long
        (λ u above. sym (pushed-other ks at_turn u above))
        (λ j. at j
        ∙ ap (λ b. is_marked used j || (b && binds machine at_turn j))
        (sym (pushed-here ks at_turn)))
        (subst (λ m. AreUsed machine (among ks) m used) now-is in_set)),
    subst (λ m. AreUsed machine (λ u. not (among (ks ++ at_turn ∷ []) u)) m kept) next-is
        (used-next machine (λ u. not (among ks u)) (λ u. not (among (ks ++ at_turn ∷ []) u)) at_turn
        kept kept inside refl
        (λ u above. ap not (sym (pushed-other ks at_turn u above)))
        (λ j. sym (ap (λ b. is_marked kept j || (not b && binds machine at_turn j))
        (pushed-here ks at_turn)
        ∙ or-false (is_marked kept j)))
        (subst (λ m. AreUsed machine (λ u. not (among ks u)) m kept) now-is out_set)),
  )

  pub stays-next : (used kept more : List Bool) → among ks at_turn ≡ false
      → length more ≡ length kept
      → ((j : ℕ) → is_marked more j ≡ (is_marked kept j || binds machine at_turn j))
      → AreUsed machine (among ks) (count - done) used
      → AreUsed machine (λ u. not (among ks u)) (count - done) kept
      → AreUsed machine (among ks) (count - (done + 1)) used
      × AreUsed machine (λ u. not (among ks u)) (count - (done + 1)) more
  stays-next used kept more out long at in_set out_set = (
    subst (λ m. AreUsed machine (among ks) m used) next-is
        (used-next machine (among ks) (among ks) at_turn used used inside refl (λ u above. refl)
        (λ j. sym (ap (λ b. is_marked used j || (b && binds machine at_turn j)) out
        ∙ or-false (is_marked used j)))
        (subst (λ m. AreUsed machine (among ks) m used) now-is in_set)),
    subst (λ m. AreUsed machine (λ u. not (among ks u)) m more) next-is
        (used-next machine (λ u. not (among ks u)) (λ u. not (among ks u)) at_turn kept more inside
        long (λ u above. refl)
        (λ j. at j ∙ ap (λ b. is_marked kept j || (not b && binds machine at_turn j)) (sym out))
        (subst (λ m. AreUsed machine (λ u. not (among ks u)) m kept) now-is out_set)),
  )

  -- Whether the module goes, by the marks.
  pub goes-is : (r : Places) (used kept : List Bool)
      → AreUsed machine (among ks) (count - done) used
      → AreUsed machine (λ u. not (among ks u)) (count - done) kept
      → (r at_turn || (is_marked used at_turn && not (is_marked kept at_turn)))
      ≡ (r at_turn || is_used_only machine (among ks) at_turn)
  goes-is r used kept in_set out_set =
      ap (λ b. r at_turn || b)
      (left-is machine (among ks) at_turn used kept inside
      (subst (λ m. AreUsed machine (among ks) m used) now-is in_set)
      (subst (λ m. AreUsed machine (λ u. not (among ks u)) m kept) now-is out_set))

  pub above-turn : ((u : ℕ) → among ks u ≡ true → count - done ≤ u) → among ks at_turn ≡ false
  above-turn above =
      elim (cases_Bool (among ks at_turn)) [
        | inl member ↦ absurd (omega (arith, above at_turn member, less))
        | inr out ↦ out
      ]

  pub above-same : ((u : ℕ) → among ks u ≡ true → count - done ≤ u) → (u : ℕ) → among ks u ≡ true
      → count - (done + 1) ≤ u
  above-same above u member = omega (arith, above u member)

  pub above-push : ((u : ℕ) → among ks u ≡ true → count - done ≤ u) → (u : ℕ)
      → among (ks ++ at_turn ∷ []) u ≡ true → count - (done + 1) ≤ u
  above-push above u member =
      elim (pushed-cases ks at_turn u member) [
        | inl old ↦ omega (arith, above u old)
        | inr same ↦ omega (arith, same)
      ]

-- No mark, and no user, at first.
unmarked : (n j : ℕ) → is_marked (replicate n false) j ≡ false
unmarked zero j = refl
unmarked (suc n) zero = refl
unmarked (suc n) (suc j) = unmarked n j

length-all : {X : Type 0} (n : ℕ) (x : X) → length (replicate n x) ≡ n
length-all zero x = refl
length-all (suc n) x = ap suc (length-all n x)

pub marks-first : (machine : Machine) (set : Places) (count : ℕ) (marks : List Bool)
    → count ≡ length machine.entries → marks ≡ replicate count false
    → AreUsed machine set (count - 0) marks
marks-first machine set count marks counted are =
    used-first machine set (count - 0) marks (omega (arith, counted))
    (ap length are ∙ length-all count false ∙ counted)
    (λ j. ap (λ ms. is_marked ms j) are ∙ unmarked count j)

abbrev nobody : Option ℕ
nobody = None

unnoted : (n j : ℕ) → slice_index_or (replicate n nobody) j None ≡ None
unnoted zero j = refl
unnoted (suc n) zero = refl
unnoted (suc n) (suc j) = unnoted n j

pub users-first : (machine : Machine) (set : Places) (count : ℕ) (users : List (Option ℕ))
    → count ≡ length machine.entries → users ≡ replicate count nobody → AreUsers machine set 0 users
users-first machine set count users counted are = record {
  counted = ap length are ∙ length-all count nobody ∙ counted;
  at = λ j inside. ap (λ us. slice_index_or us j None) are ∙ unnoted count j;
}
