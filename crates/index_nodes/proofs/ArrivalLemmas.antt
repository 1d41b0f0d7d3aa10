-- The reader's tests at an arrival, and the arrivals after it.
use Rattle.std.proofs.Common.{◌≡◌, refl, sym, ap, ◌∙◌, ⊎_elim, ℕ, zero, suc, ◌+◌, ◌%◌, ◌<◌, ◌≤◌}
use Rattle.std.proofs.Common.{Bool, true, false, not, cond, nat_eq, nat_lt, List, [], ◌∷◌, ◌++◌}
use Rattle.std.proofs.Common.{length, get_or, flat_map, Some, None, arith, append_assoc}
use Rattle.std.proofs.lemmas.Bool.{lt-ltb, le-ltb, eq-eqb, ne_eqb, cases_lt}
use Rattle.std.proofs.lemmas.List.{append-nil, get_or_past}
use Rattle.std.specs.List.{AllByRecursion, list_any, cons_option}
use Rattle.km_names.specs.Number.{be}
use Rattle.index_format.specs.Link.{place_of}
use Rattle.index_format.specs.Node.{present, children}
use Rattle.index_format.specs.Check.{BadNode, Revisited, Arrival, is_sound, arrival_fault, arrivals}
use Rattle.index_nodes.specs.declared.check.Pending.{Pending}
use Rattle.index_nodes.specs.Pending.{links_at, links_of, child_arrival, child_arrivals}
use Rattle.index_nodes.specs.Pending.{arrivals_left}

-- ---- the tests

pub fault_above : (b seen : List ℕ) (a : Arrival) → a.above ≤ place_of a.link
    → arrival_fault b seen a ≡ Some (BadNode (place_of a.link))
unfolding arrival_fault
fault_above b seen a h =
    let q = place_of a.link in
    ap (λ t. cond (not t) (Some (BadNode q))
    (cond (list_any (nat_eq q) seen) (Some (Revisited q))
    (cond (is_sound b a) None (Some (BadNode q))))) (le-ltb q a.above h)

below_above : (b seen : List ℕ) (a : Arrival) → place_of a.link < a.above
    → arrival_fault b seen a
    ≡ cond (list_any (nat_eq (place_of a.link)) seen) (Some (Revisited (place_of a.link)))
    (cond (is_sound b a) None (Some (BadNode (place_of a.link))))
unfolding arrival_fault
below_above b seen a h =
    let q = place_of a.link in
    ap (λ t. cond (not t) (Some (BadNode q))
    (cond (list_any (nat_eq q) seen) (Some (Revisited q))
    (cond (is_sound b a) None (Some (BadNode q))))) (lt-ltb q a.above h)

pub fault_seen : (b seen : List ℕ) (a : Arrival) → place_of a.link < a.above
    → list_any (nat_eq (place_of a.link)) seen ≡ true
    → arrival_fault b seen a ≡ Some (Revisited (place_of a.link))
fault_seen b seen a h e =
    below_above b seen a h
    ∙ ap (λ t. cond t (Some (Revisited (place_of a.link)))
    (cond (is_sound b a) None (Some (BadNode (place_of a.link))))) e

pub fault_by_sound : (b seen : List ℕ) (a : Arrival) (sound : Bool) → place_of a.link < a.above
    → list_any (nat_eq (place_of a.link)) seen ≡ false → is_sound b a ≡ sound
    → arrival_fault b seen a ≡ cond sound None (Some (BadNode (place_of a.link)))
fault_by_sound b seen a sound h e s =
    below_above b seen a h
    ∙ ap (λ t. cond t (Some (Revisited (place_of a.link)))
    (cond (is_sound b a) None (Some (BadNode (place_of a.link))))) e
    ∙ ap (λ t. cond t None (Some (BadNode (place_of a.link)))) s

pub record Sound (b seen : List ℕ) (a : Arrival) : Type 0 where
  pub low : place_of a.link < a.above
  pub new : list_any (nat_eq (place_of a.link)) seen ≡ false
  pub sound : is_sound b a ≡ true

some_none : {A : Type 0} (x : A) → Some x ≡ None → ⊥
some_none x e = cc

pub sound_from_none : (b seen : List ℕ) (a : Arrival) → arrival_fault b seen a ≡ None
    → Sound b seen a
sound_from_none b seen a h =
    ⊎_elim
    (λ low. record {
      low = low;
      new = seen_false (list_any (nat_eq (place_of a.link)) seen) refl low;
      sound = sound_true (is_sound b a) refl low;
    })
    (λ high. absurd (some_none _ (sym (fault_above b seen a high) ∙ h)))
    (cases_lt (place_of a.link) a.above)
  where
    seen_false : (t : Bool) → list_any (nat_eq (place_of a.link)) seen ≡ t
        → place_of a.link < a.above → t ≡ false
    seen_false true e low = absurd (some_none _ (sym (fault_seen b seen a low e) ∙ h))
    seen_false false e low = refl

    sound_true : (s : Bool) → is_sound b a ≡ s → place_of a.link < a.above → s ≡ true
    sound_true true e low = refl
    sound_true false e low
        = absurd (some_none _
        (sym (fault_by_sound b seen a false low
        (seen_false (list_any (nat_eq (place_of a.link)) seen) refl low) e)
        ∙ h))

-- ---- the arrivals

pub arrivals_head : (b : List ℕ) (d : ℕ) (a : Arrival)
    → (rest : List Arrival) × (arrivals b d a ≡ a ∷ rest)
unfolding arrivals
arrivals_head b zero a = ([], refl)
arrivals_head b (suc d) a =
    (cond (nat_lt (place_of a.link) a.above) (child_list d) [], refl)
  where
    child_list : ℕ → List Arrival
    child_list d
        = flat_map (λ link. arrivals b d (child_arrival (place_of a.link) link)) (children b a.link)

flat_map-same : {X Y : Type 0} (f g : X → List Y) (xs : List X) → ((x : X) → f x ≡ g x)
    → flat_map f xs ≡ flat_map g xs
flat_map-same f g [] h = refl
flat_map-same f g (x ∷ xs) h = λ i. h x i ++ flat_map-same f g xs h i

-- an arrival at a node that doesn't stand below the one before it is the last on its way
stops : (b : List ℕ) (d : ℕ) (a : Arrival) → a.above ≤ place_of a.link → arrivals b d a ≡ a ∷ []
unfolding arrivals
stops b zero a h = refl
stops b (suc d) a h =
    ap (λ t. a
    ∷ cond t (flat_map (λ link. arrivals b d (child_arrival (place_of a.link) link))
    (children b a.link)) []) (le-ltb (place_of a.link) a.above h)

-- more depth than the node's place changes nothing
pub arrivals-depth : (b : List ℕ) (d e : ℕ) (a : Arrival) → place_of a.link < d
    → place_of a.link < e → arrivals b d a ≡ arrivals b e a
unfolding arrivals
arrivals-depth b zero e a h k = absurd (omega (arith, h))
arrivals-depth b (suc d) zero a h k = absurd (omega (arith, k))
arrivals-depth b (suc d) (suc e) a h k =
    ap (λ rest. a ∷ cond (nat_lt (place_of a.link) a.above) rest [])
    (flat_map-same (λ link. arrivals b d (child_arrival (place_of a.link) link))
    (λ link. arrivals b e (child_arrival (place_of a.link) link)) (children b a.link)
    (λ link.
    ⊎_elim
    (λ lt. arrivals-depth b d e (child_arrival (place_of a.link) link) (omega (arith, lt, h))
    (omega (arith, lt, k)))
    (λ le. stops b d (child_arrival (place_of a.link) link) le
    ∙ sym (stops b e (child_arrival (place_of a.link) link) le))
    (cases_lt (place_of link) (place_of a.link))))

-- after a node that stands below the one before it come its children
pub arrivals_below : (b : List ℕ) (d : ℕ) (a : Arrival) → place_of a.link < d
    → place_of a.link < a.above
    → arrivals b d a ≡ a ∷ child_arrivals b (place_of a.link) (children b a.link)
unfolding arrivals
arrivals_below b zero a h k = absurd (omega (arith, h))
arrivals_below b (suc d) a h k =
    ap (λ t. a
    ∷ cond t (flat_map (λ link. arrivals b d (child_arrival (place_of a.link) link))
    (children b a.link)) []) (lt-ltb (place_of a.link) a.above k)
    ∙ ap (λ rest. a ∷ rest)
    (flat_map-same (λ link. arrivals b d (child_arrival (place_of a.link) link))
    (λ link. arrivals b (place_of a.link) (child_arrival (place_of a.link) link))
    (children b a.link)
    (λ link.
    ⊎_elim
    (λ lt. arrivals-depth b d (place_of a.link) (child_arrival (place_of a.link) link)
    (omega (arith, lt, h)) lt)
    (λ le. stops b d (child_arrival (place_of a.link) link) le
    ∙ sym (stops b (place_of a.link) (child_arrival (place_of a.link) link) le))
    (cases_lt (place_of link) (place_of a.link))))

-- ---- what is pending

pub arrivals_left-push : (b : List ℕ) (ps : List Pending) (p : Pending)
    → arrivals_left b (ps ++ p ∷ []) ≡ child_arrivals b p.above (links_of b p) ++ arrivals_left b ps
arrivals_left-push b [] p = sym (append-nil _)
arrivals_left-push b (q ∷ ps) p =
    ap (λ rest. rest ++ child_arrivals b q.above (links_of b q)) (arrivals_left-push b ps p)
    ∙ append_assoc (child_arrivals b p.above (links_of b p)) (arrivals_left b ps)
    (child_arrivals b q.above (links_of b q))

pub none_left : (b : List ℕ) (p : Pending) → p.left ≤ 0
    → child_arrivals b p.above (links_of b p) ≡ []
unfolding links_at
none_left b p h =
    let none : p.left ≡ 0 = omega arith in
    ap (λ n. child_arrivals b p.above (links_at b p.next n)) none

pub inside-push : {X : Type 0} (P : X → Type 0) (xs : List X) (x : X) → AllByRecursion P xs → P x
    → AllByRecursion P (xs ++ x ∷ [])
inside-push P [] x h p = (p, tt)
inside-push P (y ∷ xs) x h p = (h.0, inside-push P xs x h.1 p)

pub inside-pop : {X : Type 0} (P : X → Type 0) (xs : List X) (x : X)
    → AllByRecursion P (xs ++ x ∷ []) → AllByRecursion P xs × P x
inside-pop P [] x h = (tt, h.0)
inside-pop P (y ∷ xs) x h = let rest = inside-pop P xs x h.1 in ((h.0, rest.0), rest.1)

pub link_present : (link : ℕ) → (place_of link ≡ 0 → ⊥) → present link ≡ Some link
link_present link h = ap (λ t. cond t None (Some link)) (ne_eqb (place_of link) 0 h)

pub link_absent : (link : ℕ) → place_of link ≡ 0 → present link ≡ None
link_absent link h = ap (λ t. cond t None (Some link)) (eq-eqb (place_of link) 0 h)

-- one offset on
pub links_next : (b : List ℕ) (place n link : ℕ) → link ≡ be b place 4
    → links_at b place (suc n) ≡ cons_option (present link) (links_at b (place + 4) n)
unfolding links_at
links_next b place n link e = ap (λ l. cons_option (present l) (links_at b (place + 4) n)) (sym e)

-- ---- numbers that end in a byte other than 0

pub cut_number : (b : List ℕ) (at number : ℕ) → length b < at + 4 → 0 < number % 256
    → be b at 4 ≡ number → ⊥
unfolding be
cut_number b at number short last e =
    let past : get_or b (at + 1 + 1 + 1) 0 ≡ 0 = get_or_past b (at + 1 + 1 + 1) 0 (omega arith) in
    omega (arith, past, last, e)
