-- The search for strongly connected components, in the code's terms.
use Rattle.std.proofs.Common.{◌≡◌, ℕ, zero, suc, ◌+◌, ◌-◌, ◌*◌, ◌<◌, ◌≤◌, Bool, true, false, cond}
use Rattle.std.proofs.Common.{eqb, leb, ltb, Option, Some, List, [], ◌∷◌, ◌++◌, length, take, set}
use Rattle.std.proofs.Common.{get_or, sym, refl, ap, ◌∙◌, subst, inl, inr, arith}
use Rattle.std.specs.Prelude.{◌&&◌, ◌||◌, slice_index_or}
use Rattle.std.specs.Option.{option_to_list}
use Rattle.std.specs.List.{find}
use Rattle.std.specs.Global.{Vec}
use Rattle.std.proofs.lemmas.Bool.{true≢false, and_parts, and_from, or_cases, or_left, or_right}
use Rattle.std.proofs.lemmas.Bool.{eqb-true, eq-eqb, cases_lt, cases_order, leb-true, le-leb}
use Rattle.std.proofs.lemmas.Bool.{ltb-true, lt-ltb, false_from_ne_true, cases_eq, ne_eqb}
use Rattle.std.proofs.lemmas.List.{get_or_append_left, get_or-set_same, get_or-set_other}
use Rattle.std.proofs.lemmas.List.{get_or_past, get_or_default, length-set, length-take}
use Rattle.std.proofs.lemmas.List.{length_push, take_all, get_or_read}
use Rattle.std.proofs.lemmas.List.Folds.{list_any_more}
use Rattle.relation_order.specs.Sets.{Relation, has, goes, successors, marked, Rising}
use Rattle.relation_order.proofs.PlaceSteps.{successors-at}
use Rattle.relation_order.specs.Reached.{reached}
use Rattle.relation_order.specs.Components.{Searching, EndsIn, Enters, DropsAbove, Finishes}
use Rattle.relation_order.specs.Components.{SearchOf, KeepsMet, state_of, is_new, is_on_cycle}
use Rattle.relation_order.specs.Components.{looked_at, with_step, steps_left}
use Rattle.relation_order.specs.declared.components.State.{State}
use Rattle.relation_order.specs.declared.components.State.TheVariants.{New, Open, Done}
use Rattle.relation_order.specs.declared.components.CycleSearch.{CycleSearch}
use Rattle.relation_order.proofs.Lists.{has-marked}
use Rattle.relation_order.proofs.ReachedLaws.{reached-step, reached-further}
use Rattle.relation_order.proofs.LeastLaws.{push-has}
use Rattle.relation_order.proofs.Ordered.{first-place}
use Rattle.relation_order.proofs.Restricted.{same-tests}
use Rattle.relation_order.proofs.ComponentSteps.{entered, joined, looked-more, left, closed}
use Rattle.relation_order.proofs.ComponentSteps.{none-open, met-known, at-most}

-- the first part of a list
has-front : (n : ℕ) (xs : List ℕ) (i : ℕ) → i < n → i < length xs
    → has (take n xs) (get_or xs i 0) ≡ true
has-front n [] i l m = absurd (omega arith)
has-front zero (x ∷ xs) i l m = absurd (omega arith)
has-front (suc n) (x ∷ xs) zero l m = or_left _ _ (eq-eqb x x refl)
has-front (suc n) (x ∷ xs) (suc i) l m = or_right _ _ (has-front n xs i (omega arith) (omega arith))

front-has : (n : ℕ) (xs : List ℕ) (y : ℕ) → has (take n xs) y ≡ true → has xs y ≡ true
front-has zero xs y h = absurd (true≢false (sym h))
front-has (suc n) [] y h = h
front-has (suc n) (x ∷ xs) y h =
    elim (or_cases (eqb y x) (has (take n xs) y) h)
    [ inl e ↦ or_left _ _ e | inr m ↦ or_right _ _ (front-has n xs y m) ]

rising-take : (n : ℕ) (xs : List ℕ) → Rising xs → Rising (take n xs)
rising-take zero xs up = tt
rising-take (suc n) [] up = tt
rising-take (suc n) (x ∷ xs) up = ((λ y h. up.0 y (front-has n xs y h)), rising-take n xs up.1)

rising-last : (k : ℕ) (xs : List ℕ) (y : ℕ) → Rising xs → k < length xs
    → has (take (suc k) xs) y ≡ true → y ≤ get_or xs k 0
rising-last k [] y up l h = absurd (omega arith)
rising-last zero (x ∷ xs) y up l h =
    elim (or_cases (eqb y x) false h)
    [ inl e ↦ let s = eqb-true y x e in omega arith | inr m ↦ absurd (true≢false (sym m)) ]
rising-last (suc k) (x ∷ xs) y up l h =
    elim (or_cases (eqb y x) (has (take (suc k) xs) y) h) [
      | inl e ↦ let s
          = eqb-true y x e in let w
          = up.0 (get_or xs k 0) (has-at xs k (omega arith)) in omega arith
      | inr m ↦ rising-last k xs y up.1 (omega arith) m
    ]
  where
    has-at : (xs : List ℕ) (k : ℕ) → k < length xs → has xs (get_or xs k 0) ≡ true
    has-at [] k l = absurd (omega arith)
    has-at (x ∷ xs) zero l = or_left _ _ (eq-eqb x x refl)
    has-at (x ∷ xs) (suc k) l = or_right _ _ (has-at xs k (omega arith))

-- of rising numbers those are left that aren't above another
pub dropped : (old new : List ℕ) (place : ℕ) → Rising old → DropsAbove old new place → (b : ℕ)
    → has new b ≡ (has old b && leb b place)
dropped old new place up d b = same-tests _ _ there back
  where
    there : has new b ≡ true → (has old b && leb b place) ≡ true
    there h =
        let m : has (take (length new) old) b ≡ true = ap (λ xs. has xs b) (sym d.front) ∙ h in
        and_from _ _ (front-has (length new) old b m) (le-leb b place (low (length new) refl m))
      where
        low : (n : ℕ) → n ≡ length new → has (take n old) b ≡ true → b ≤ place
        low zero e m = absurd (true≢false (sym m))
        low (suc k) e m =
            let w = first-place (take (suc k) old) b m in
            elim (cases_lt k (length old)) [
              | inl l ↦ let u
                  = rising-last k old b up l m in let v
                  = d.below k (omega arith) in omega arith
              | inr short ↦ absurd (omega (arith, ap length d.front, length-take (length new) old))
            ]

    back : (has old b && leb b place) ≡ true → has new b ≡ true
    back h =
        let e = and_parts _ _ h in
        let w = first-place old b e.0 in
        elim (cases_lt w.0 (length new)) [
          | inl l ↦ ap (λ xs. has xs b) d.front ∙ ap (has (take (length new) old)) (sym w.2)
              ∙ has-front (length new) old w.0 l w.1
          | inr high ↦ let u
              = d.above w.0 high w.1 in let v
              = leb-true b place e.1 in absurd (omega arith)
        ]

pub dropped-rises : (old new : List ℕ) (place : ℕ) → Rising old → DropsAbove old new place
    → Rising new
dropped-rises old new place up d = subst Rising (sym d.front) (rising-take (length new) old up)

-- a search with the same parts
same-search : (r looked : Relation) (all : List ℕ) (states states' : List State)
    (stack stack' starts starts' path path' : List ℕ)
    → states' ≡ states → stack' ≡ stack → starts' ≡ starts → path' ≡ path
    → Searching r looked all states stack starts path
    → Searching r looked all states' stack' starts' path'
same-search r looked all states states' stack stack' starts starts' path path' a b c d s =
    subst (λ v. Searching r looked all v stack' starts' path') (sym a)
    (subst (λ v. Searching r looked all states v starts' path') (sym b)
    (subst (λ v. Searching r looked all states stack v path') (sym c)
    (subst (λ v. Searching r looked all states stack starts v) (sym d) s)))

-- a step to an item that wasn't met
module _ (r looked : Relation) (members : List Bool) (states : List State)
    (stack starts path : List ℕ) (at target : ℕ)
    (marked-so : slice_index_or members target false ≡ true) (inside : target < length states)
    (unmet : state_of states target ≡ New) (last : EndsIn path at) (low : at < length stack)
    (step : r (get_or stack at 0) target ≡ true)
    (s : Searching r looked (marked members) states stack starts path) where
  member : has (marked members) target ≡ true
  member = has-marked members target ∙ marked-so

  starts-most : (b : ℕ) → has starts b ≡ true → b ≤ at
  starts-most b h
      = at-most last.0 at b (subst Rising last.1 s.path_rises)
      (ap (λ xs. has xs b) (sym last.1) ∙ s.starts_on_path b h)

  leads : (p : ℕ) → p < length stack
      → has (reached r (marked members) (get_or stack p 0)) target ≡ true
  leads p l =
      elim (cases_order p at) [
        | inl same ↦ reached-step r (marked members) (get_or stack p 0) target
            (ap (λ i. r (get_or stack i 0) target) same ∙ step) member
        | inr (inl before) ↦ reached-further r (marked members) (get_or stack p 0)
            (get_or stack at 0) target (s.forth p at before low) step member
        | inr (inr past) ↦ reached-further r (marked members) (get_or stack p 0) (get_or stack at 0)
            target (s.back at p past l (λ b h k. starts-most b h)) step member
      ]

  looked-entered : Searching r (with_step looked (get_or stack at 0) target) (marked members)
      (set states target (Open (length stack))) (stack ++ target ∷ []) (starts ++ length stack ∷ [])
      (path ++ length stack ∷ [])
  looked-entered =
      subst (λ x. Searching r (with_step looked x target) (marked members)
      (set states target (Open (length stack))) (stack ++ target ∷ [])
      (starts ++ length stack ∷ []) (path ++ length stack ∷ []))
      (get_or_append_left stack (target ∷ []) 0 at low)
      (looked-more r looked (marked members) (set states target (Open (length stack)))
      (stack ++ target ∷ []) (starts ++ length stack ∷ []) (path ++ length stack ∷ []) at target
      (entered r looked (marked members) states stack starts path target s unmet inside member
      leads)
      (omega (arith, length_push stack target))
      (λ m. inr (
        length stack,
        get_or-set_same states target (Open (length stack)) New inside,
        λ b h k. omega arith,
      )))

pub looked-new : (r looked : Relation) (members : List Bool) (old new : CycleSearch) (at target : ℕ)
    → slice_index_or members target false ≡ true → target < length old.states.items
    → state_of old.states.items target ≡ New → EndsIn old.path.items at
    → at < length old.stack.items → Enters old new target
    → r (get_or old.stack.items at 0) target ≡ true
    → Searching r looked (marked members) old.states.items old.stack.items old.starts.items
    old.path.items
    → Searching r (with_step looked (get_or old.stack.items at 0) target) (marked members)
    new.states.items new.stack.items new.starts.items new.path.items
looked-new r looked members old new at target marked-so inside unmet last low e step s =
    same-search r (with_step looked (get_or old.stack.items at 0) target) (marked members) _
    new.states.items _ new.stack.items _ new.starts.items _ new.path.items e.states e.stack
    e.starts e.path
    (looked-entered r looked members old.states.items old.stack.items old.starts.items
    old.path.items at target marked-so inside unmet last low step s)

-- a step to an open item
pub looked-open : (r looked : Relation) (all : List ℕ) (states : List State)
    (stack starts starts' path : List ℕ) (at target place : ℕ)
    → state_of states target ≡ Open place → EndsIn path at → at < length stack
    → DropsAbove starts starts' place → r (get_or stack at 0) target ≡ true
    → Searching r looked all states stack starts path
    → Searching r (with_step looked (get_or stack at 0) target) all states stack starts' path
looked-open r looked all states stack starts starts' path at target place is last low d step s =
    let o = s.at_place target place is in
    let kept = dropped starts starts' place s.starts_rise d in
    looked-more r looked all states stack starts' path at target
    (joined r looked all states stack starts starts' path last.0 at place s last.1 o.0
    (ap (r (get_or stack at 0)) o.1 ∙ step) kept
    (dropped-rises starts starts' place s.starts_rise d)) low
    (λ m. inr (place, is, λ b h k. leb-true b place (and_parts _ _ (sym (kept b) ∙ h)).1))

-- a step out of the set
pub looked-outside : (r looked : Relation) (members : List Bool) (states : List State)
    (stack starts path : List ℕ) (at target : ℕ)
    → slice_index_or members target false ≡ false → at < length stack
    → Searching r looked (marked members) states stack starts path
    → Searching r (with_step looked (get_or stack at 0) target) (marked members) states stack starts
    path
looked-outside r looked members states stack starts path at target off low s =
    looked-more r looked (marked members) states stack starts path at target s low
    (λ m. absurd (true≢false (sym m ∙ has-marked members target ∙ off)))

-- an item is left whose component doesn't begin with it
not-start : (starts : List ℕ) (at : ℕ) → Rising starts → ((b : ℕ) → has starts b ≡ true → b ≤ at)
    → (ltb 0 (length starts) && eqb (get_or starts (length starts - 1) 0) at) ≡ false
    → has starts at ≡ false
not-start starts at up most h =
    false_from_ne_true _ (λ m.
    let w = first-place starts at m in
    let k : length starts ≡ suc (length starts - 1) = omega (arith, w.1) in
    let above
    = rising-last (length starts - 1) starts at up (omega (arith, w.1))
    (subst (λ n. has (take n starts) at ≡ true) k
    (subst (λ y. has (take (length starts) starts) y ≡ true) w.2
    (has-front (length starts) starts w.0 w.1 w.1))) in
    let below
    = most (get_or starts (length starts - 1) 0)
    (front-has (length starts) starts _
    (has-front (length starts) starts (length starts - 1) (omega (arith, w.1))
    (omega (arith, w.1)))) in
    true≢false (sym (and_from _ _ (lt-ltb 0 (length starts) (omega (arith, w.1)))
    (eq-eqb _ at (omega (arith, above, below))))
    ∙ h))

pub left-later : (r looked : Relation) (all : List ℕ) (states : List State)
    (stack starts shown path : List ℕ) (at : ℕ)
    → shown ≡ starts → (ltb 0 (length shown) && eqb (get_or shown (length shown - 1) 0) at) ≡ false
    → ((y : ℕ) → has all y ≡ true → r (get_or stack at 0) y ≡ true
    → looked (get_or stack at 0) y ≡ true)
    → Searching r looked all states stack starts (path ++ at ∷ [])
    → Searching r looked all states stack starts path
left-later r looked all states stack starts shown path at same h seen s =
    left r looked all states stack starts path at s
    (not-start starts at s.starts_rise
    (λ b m. at-most path at b s.path_rises (s.starts_on_path b m))
    (subst (λ xs. (ltb 0 (length xs) && eqb (get_or xs (length xs - 1) 0) at) ≡ false) same
    h)) seen

-- an item is left with which its component begins
pub left-whole : (r looked : Relation) (all : List ℕ) (states states' : List State)
    (stack stack' starts starts' shown path : List ℕ) (at n : ℕ) (top : Option ℕ)
    → shown ≡ starts → n ≡ length starts
    → (ltb 0 (length shown) && eqb (get_or shown (length shown - 1) 0) at) ≡ true
    → starts ≡ starts' ++ option_to_list top → (0 < n → top ≡ Some (get_or starts (n - 1) 0))
    → stack' ≡ take at stack → Finishes r stack at states states'
    → ((y : ℕ) → has all y ≡ true → r (get_or stack at 0) y ≡ true
    → looked (get_or stack at 0) y ≡ true)
    → Searching r looked all states stack starts (path ++ at ∷ [])
    → Searching r looked all states' stack' starts' path
left-whole r looked all states states' stack stack' starts starts' shown path at n top same long h
    popped top-is cut f seen s
    =
    let e
    = and_parts _ _
    (subst (λ xs. (ltb 0 (length xs) && eqb (get_or xs (length xs - 1) 0) at) ≡ true) same
    h) in
    let o : top ≡ Some at
    = top-is (let l = ltb-true 0 (length starts) e.0 in omega arith)
    ∙ ap (λ k. Some (get_or starts (k - 1) 0)) long ∙ ap Some (eqb-true _ at e.1) in
    let b : starts ≡ starts' ++ at ∷ [] = popped ∙ ap (λ v. starts' ++ option_to_list v) o in
    subst (λ xs. Searching r looked all states' xs starts' path) (sym cut)
    (closed r looked all states states' stack starts' path at
    (subst (λ xs. Searching r looked all states stack xs (path ++ at ∷ [])) b s) seen f)

-- what is open is an item
pub item-inside : (r looked : Relation) (all : List ℕ) (states : List State)
    (stack starts path : List ℕ)
    → Searching r looked all states stack starts path → (p : ℕ) → p < length stack
    → get_or stack p 0 < length states
item-inside r looked all states stack starts path s p l =
    elim (cases_lt (get_or stack p 0) (length states)) [
      | inl low ↦ low
      | inr high ↦ absurd
          (apart (sym (get_or_past states (get_or stack p 0) New high) ∙ s.placed p l))
    ]
  where
    apart : New ≡ Open p → ⊥
    apart e = cc

pub at-open : (lists : List (Vec ℕ)) (members : List Bool) (search : CycleSearch) (path : List ℕ)
    (at : ℕ)
    → SearchOf lists members search (path ++ at ∷ []) → at < length search.stack.items
at-open lists members search path at s =
    s.searching.path_open at (push-has path at at ∙ or_right _ _ (eq-eqb at at refl))

pub open-inside : (lists : List (Vec ℕ)) (members : List Bool) (search : CycleSearch)
    (path : List ℕ)
    → SearchOf lists members search path → (k d : ℕ) → k < length search.stack.items
    → get_or search.stack.items k d < length lists
open-inside lists members search path s k d l =
    let low = item-inside _ _ _ search.states.items search.stack.items _ _ s.searching k l in
    subst (λ x. x < length lists) (get_or_default search.stack.items k 0 d l)
    (omega (arith, s.states_long))

-- one step more of an item was looked at
module _ (lists : List (Vec ℕ)) (looked : List ℕ) (item k target : ℕ) (low : item < length looked)
    (k-is : k ≡ get_or looked item 0) (within : k < length (successors lists item))
    (target-is : target ≡ get_or (successors lists item) k 0) where
  looked-set : (x y : ℕ)
      → with_step (looked_at lists looked) item target x y
      ≡ looked_at lists (set looked item (k + 1)) x y
  looked-set x y = elim (cases_eq x item) [
    | inl e ↦
        let a : with_step (looked_at lists looked) item target item y
        ≡ looked_at lists (set looked item (k + 1)) item y
        =
        ap (λ n. has (take n (successors lists item)) y || (eqb item item && eqb y target))
        (sym k-is)
        ∙ ap (λ b. has (take k (successors lists item)) y || (b && eqb y target))
        (eq-eqb item item refl)
        ∙ ap (λ z. has (take k (successors lists item)) y || eqb y z) target-is
        ∙ sym (list_any_more (eqb y) (successors lists item) k 0 within)
        ∙ ap (λ n. has (take n (successors lists item)) y)
        (sym (get_or-set_same looked item (k + 1) 0 low)) in
        subst (λ z. with_step (looked_at lists looked) item target z y
        ≡ looked_at lists (set looked item (k + 1)) z y) (sym e) a
    | inr ne ↦
        ap (λ b. looked_at lists looked x y || (b && eqb y target)) (ne_eqb x item ne)
        ∙ or-false (looked_at lists looked x y)
        ∙ ap (λ n. has (take n (successors lists x)) y)
        (sym (get_or-set_other looked item x (k + 1) 0 ne))
  ]
    where
      or-false : (b : Bool) → (b || false) ≡ b
      or-false true = refl
      or-false false = refl

same-looked : (r looked looked' : Relation) (all : List ℕ) (states : List State)
    (stack starts path : List ℕ)
    → ((x y : ℕ) → looked x y ≡ looked' x y) → Searching r looked all states stack starts path
    → Searching r looked' all states stack starts path
same-looked r looked looked' all states stack starts path same s =
    record {
      members = s.members;
      placed = s.placed;
      at_place = s.at_place;
      forth = s.forth;
      back = s.back;
      settled = λ p y l t m. s.settled p y l (same (get_or stack p 0) y ∙ t) m;
      fresh = λ x y e. sym (same x y) ∙ s.fresh x y e;
      whole = λ p y l off m t. sym (same (get_or stack p 0) y) ∙ s.whole p y l off m t;
      starts_on_path = s.starts_on_path;
      first_start = s.first_start;
      path_open = s.path_open;
      path_rises = s.path_rises;
      starts_rise = s.starts_rise;
      done_closed = s.done_closed;
      done_known = s.done_known;
    }

pub stepped : (lists : List (Vec ℕ)) (members : List Bool) (new : CycleSearch) (looked : List ℕ)
    (item k target : ℕ) (v : Vec ℕ)
    → item < length lists → length looked ≡ length lists → v ≡ get_or lists item v
    → k ≡ get_or looked item 0 → k < length v.items → target ≡ get_or v.items k 0
    → new.looked.items ≡ set looked item (k + 1) → length new.states.items ≡ length lists
    → Searching (goes lists) (with_step (looked_at lists looked) item target) (marked members)
    new.states.items new.stack.items new.starts.items new.path.items
    → SearchOf lists members new new.path.items
stepped lists members new looked item k target v low long v-is k-is within target-is made
    states-long s
    =
    record {
      states_long = states-long;
      looked_long = ap length made ∙ length-set looked item (k + 1) ∙ long;
      searching
          = same-looked (goes lists) (with_step (looked_at lists looked) item target)
          (looked_at lists new.looked.items) (marked members) new.states.items new.stack.items
          new.starts.items new.path.items
          (λ x y. looked-set lists looked item k target (omega arith) k-is
          (subst (λ xs. k < length xs) (sym at) within)
          (target-is ∙ ap (λ xs. get_or xs k 0) (sym at)) x y
          ∙ ap (λ ks. looked_at lists ks x y) (sym made)) s;
    }
  where
    at : successors lists item ≡ v.items
    at = successors-at lists item v low v-is

-- and the work is less
left-less : (lists : List (Vec ℕ)) (looked : List ℕ) (item k : ℕ) → item < length lists
    → item < length looked → k ≡ get_or looked item 0 → k < length (successors lists item)
    → steps_left lists (set looked item (k + 1)) + 1 ≡ steps_left lists looked
left-less [] ks item k l m is h = absurd (omega arith)
left-less (v ∷ vs) [] item k l m is h = absurd (omega arith)
left-less (v ∷ vs) (j ∷ ks) zero k l m is h = omega arith
left-less (v ∷ vs) (j ∷ ks) (suc item) k l m is h =
    let ih = left-less vs ks item k (omega arith) (omega arith) is h in omega arith

pub less-work : (lists : List (Vec ℕ)) (looked looked' path path' : List ℕ) (item k : ℕ) (v : Vec ℕ)
    → item < length lists → length looked ≡ length lists → v ≡ get_or lists item v
    → k ≡ get_or looked item 0 → k < length v.items → looked' ≡ set looked item (k + 1)
    → length path' ≤ length path + 2
    → 2 * steps_left lists looked' + length path' ≤ 2 * steps_left lists looked + length path
less-work lists looked looked' path path' item k v low long v-is k-is within made l =
    let e
    = left-less lists looked item k low (omega arith) k-is
    (subst (λ xs. k < length xs) (sym (successors-at lists item v low v-is)) within) in
    let f = ap (steps_left lists) made in
    omega arith

-- all steps of an item were looked at
pub all-looked : (lists : List (Vec ℕ)) (looked : List ℕ) (item k y : ℕ) (v : Vec ℕ)
    → item < length lists → v ≡ get_or lists item v → k ≡ get_or looked item 0 → length v.items ≤ k
    → goes lists item y ≡ true → looked_at lists looked item y ≡ true
all-looked lists looked item k y v low v-is k-is high t =
    ap (λ xs. has xs y)
    (take_all (get_or looked item 0) (successors lists item)
    (let e = ap length (successors-at lists item v low v-is) in omega arith))
    ∙ t

-- the item at the last place of the path
pub last-inside : (lists : List (Vec ℕ)) (members : List Bool) (search : CycleSearch)
    (path : List ℕ) (at x : ℕ)
    → SearchOf lists members search (path ++ at ∷ []) → x ≡ get_or search.stack.items at x
    → x < length lists
last-inside lists members search path at x s is =
    subst (λ y. y < length lists) (sym is)
    (open-inside lists members search (path ++ at ∷ []) s at x
    (at-open lists members search path at s))

pub last-item : (lists : List (Vec ℕ)) (members : List Bool) (search : CycleSearch) (path : List ℕ)
    (at x : ℕ)
    → SearchOf lists members search (path ++ at ∷ []) → x ≡ get_or search.stack.items at x
    → x ≡ get_or search.stack.items at 0
last-item lists members search path at x s is =
    get_or_read search.stack.items at x (at-open lists members search path at s) is 0

-- a search begins with a member that wasn't met
pub entered-first : (lists : List (Vec ℕ)) (members : List Bool) (old new : CycleSearch) (start : ℕ)
    → has (marked members) start ≡ true → start < length old.states.items
    → state_of old.states.items start ≡ New → Enters old new start → old.path.items ≡ []
    → SearchOf lists members old [] → SearchOf lists members new new.path.items
entered-first lists members old new start member inside unmet e none s =
    record {
      states_long
          = ap length e.states ∙ length-set old.states.items start (Open (length old.stack.items))
          ∙ s.states_long;
      looked_long = ap length e.looked ∙ s.looked_long;
      searching
          = subst (λ ks. Searching (goes lists) (looked_at lists ks) (marked members)
          new.states.items new.stack.items new.starts.items new.path.items) (sym e.looked)
          (same-search (goes lists) (looked_at lists old.looked.items) (marked members) _
          new.states.items _ new.stack.items _ new.starts.items _ new.path.items e.states
          e.stack e.starts (e.path ∙ ap (λ xs. xs ++ length old.stack.items ∷ []) none)
          (entered (goes lists) (looked_at lists old.looked.items) (marked members) old.states.items
          old.stack.items old.starts.items [] start s.searching unmet inside member
          (λ p l. absurd
          (omega (arith, none-open _ _ _ _ old.stack.items _ s.searching)))));
    }

pub entered-met : (old new : CycleSearch) (item : ℕ) → item < length old.states.items
    → Enters old new item → is_new (state_of new.states.items item) ≡ false
entered-met old new item inside e =
    ap (λ (v : List State). is_new (state_of v item)) e.states
    ∙ ap is_new
    (get_or-set_same old.states.items item (Open (length old.stack.items)) New inside)

pub entered-keeps : (old new : CycleSearch) (item : ℕ) → item < length old.states.items
    → Enters old new item → KeepsMet old.states.items new.states.items
entered-keeps old new item inside e x m =
    elim (cases_eq x item) [
      | inl same ↦ ap (λ y. is_new (state_of new.states.items y)) same
          ∙ entered-met old new item inside e
      | inr other ↦ ap (λ (v : List State). is_new (state_of v x)) e.states
          ∙ ap is_new
          (get_or-set_other old.states.items item x (Open (length old.stack.items)) New other)
          ∙ m
    ]

pub not-new : (v : State) → (v ≡ New → ⊥) → is_new v ≡ false
not-new New ne = absurd (ne refl)
not-new (Open p) ne = refl
not-new (Done b) ne = refl

-- what passes first, by two tests that agree
find-same : (p q : ℕ → Bool) (xs : List ℕ)
    → ((k : ℕ) → k < length xs → p (get_or xs k 0) ≡ q (get_or xs k 0)) → find p xs ≡ find q xs
find-same p q [] same = refl
find-same p q (x ∷ xs) same =
    ap (λ b. cond b (Some x) (find p xs)) (same 0 (omega arith))
    ∙ ap (λ o. cond (q x) (Some x) o) (find-same p q xs (λ k l. same (suc k) (omega arith)))

-- the first member on a cycle, where all have been met
pub first-known : (lists : List (Vec ℕ)) (members : List Bool) (search : CycleSearch)
    (shown shown' : List ℕ) (n : ℕ)
    → SearchOf lists members search [] → shown' ≡ marked members → shown ≡ marked members
    → length shown ≤ n
    → ((k : ℕ) → k < n → is_new (state_of search.states.items (get_or shown k 0)) ≡ false)
    → find (λ x. is_on_cycle (state_of search.states.items x)) shown'
    ≡ find (λ x. has (reached (goes lists) (marked members) x) x) (marked members)
first-known lists members search shown shown' n s same' same long met =
    ap (find (λ x. is_on_cycle (state_of search.states.items x))) (same' ∙ sym same)
    ∙ find-same (λ x. is_on_cycle (state_of search.states.items x))
    (λ x. has (reached (goes lists) (marked members) x) x) shown
    (λ k l. met-known (goes lists) (looked_at lists search.looked.items) (marked members)
    search.states.items search.stack.items search.starts.items s.searching
    (get_or shown k 0) (met k (omega arith)))
    ∙ ap (find (λ x. has (reached (goes lists) (marked members) x) x)) same
