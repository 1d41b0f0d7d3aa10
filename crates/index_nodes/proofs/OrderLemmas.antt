-- Visits to ever lower places: none is visited twice, so the tests of each visit decide.
use Rattle.std.proofs.Common.{◌≡◌, refl, sym, ap, subst, ◌∙◌, ⊎_elim, ℕ, ◌+◌, ◌<◌, ◌≤◌, true, false}
use Rattle.std.proofs.Common.{cond, nat_eq, List, [], ◌∷◌, ◌++◌, length, map, None, arith}
use Rattle.std.proofs.Common.{append_assoc}
use Rattle.std.proofs.lemmas.Bool.{cases_eq, eq-eqb, ne_eqb, or_from}
use Rattle.std.proofs.lemmas.List.{append-nil}
use Rattle.std.specs.List.{AllByRecursion, list_any}
use Rattle.km_names.specs.First.{first}
use Rattle.km_names.specs.Number.{be}
use Rattle.index_format.specs.Link.{place_of}
use Rattle.index_format.specs.Node.{root, children}
use Rattle.index_format.specs.Check.{Arrival, is_sound, arrival_faults, arrivals, root_arrival}
use Rattle.index_nodes.specs.Pending.{child_arrival, child_arrivals, nodes_fault}
use Rattle.index_nodes.proofs.ArrivalLemmas.{fault_by_sound, arrivals_below, inside-pop}
use Rattle.index_nodes.proofs.CheckLemmas.{at_root}

-- ---- arrivals in any order

-- each arrival is at a sound node below its parent
abbrev pub AllSound : List ℕ → List Arrival → Type 0
AllSound b [] = Unit {0}
AllSound b (a ∷ more) = (place_of a.link < a.above) × (is_sound b a ≡ true) × AllSound b more

-- 1 for an arrival at the place, and 0 for one elsewhere
abbrev pub once_at : ℕ → Arrival → ℕ
once_at q a = cond (nat_eq q (place_of a.link)) 1 0

-- how many of the arrivals are at a place
abbrev pub times : ℕ → List Arrival → ℕ
times q [] = 0
times q (a ∷ more) = once_at q a + times q more

sound-split : (b : List ℕ) (xs ys : List Arrival) → AllSound b (xs ++ ys)
    → AllSound b xs × AllSound b ys
sound-split b [] ys h = (tt, h)
sound-split b (x ∷ xs) ys h = let r = sound-split b xs ys h.2 in ((h.0, h.1, r.0), r.1)

sound-join : (b : List ℕ) (xs ys : List Arrival) → AllSound b xs → AllSound b ys
    → AllSound b (xs ++ ys)
sound-join b [] ys h k = k
sound-join b (x ∷ xs) ys h k = (h.0, h.1, sound-join b xs ys h.2 k)

times-append : (q : ℕ) (xs ys : List Arrival) → times q (xs ++ ys) ≡ times q xs + times q ys
times-append q [] ys = omega arith
times-append q (x ∷ xs) ys = omega (arith, times-append q xs ys)

time_here : (q : ℕ) (a : Arrival) → q ≡ place_of a.link → once_at q a ≡ 1
time_here q a h = ap (λ t. cond t 1 0) (eq-eqb q (place_of a.link) h)

time_elsewhere : (q : ℕ) (a : Arrival) → (q ≡ place_of a.link → ⊥) → once_at q a ≡ 0
time_elsewhere q a h = ap (λ t. cond t 1 0) (ne_eqb q (place_of a.link) h)

-- sound arrivals at different places, none of which was visited, have no fault
accepted : (b seen : List ℕ) (more : List Arrival) → AllSound b more → ((q : ℕ) → times q more ≤ 1)
    → ((q : ℕ) → 0 < times q more → list_any (nat_eq q) seen ≡ false)
    → first (arrival_faults b seen more) ≡ None
unfolding arrival_faults
accepted b seen [] sound once new = refl
accepted b seen (a ∷ more) sound once new =
    let p = place_of a.link in
    let here = time_here p a refl in
    ap (λ o. first (o ∷ arrival_faults b (p ∷ seen) more))
    (fault_by_sound b seen a true sound.0 (new p (omega (arith, here))) sound.1)
    ∙ accepted b (p ∷ seen) more sound.2 (λ q. omega (arith, once q))
    (λ q some. or_from _ _ (ne_eqb q p (λ same. omega (arith, once q, time_here q a same, some)))
    (new q (omega (arith, some))))

-- ---- what is still to be visited: nodes by their offsets, each with the place of its parent

abbrev pub rest : List ℕ → List (ℕ × ℕ) → List Arrival
rest b [] = []
rest b (t ∷ ts) = arrivals b t.0 (child_arrival t.0 t.1) ++ rest b ts

abbrev pub below : ℕ → List ℕ → List (ℕ × ℕ)
below above links = map (λ link. (above, link)) links

abbrev pub links_in : List (ℕ × ℕ) → List ℕ
links_in ts = map (λ t. t.1) ts

rest-append : (b : List ℕ) (xs ys : List (ℕ × ℕ)) → rest b (xs ++ ys) ≡ rest b xs ++ rest b ys
rest-append b [] ys = refl
rest-append b (x ∷ xs) ys =
    ap (λ r. arrivals b x.0 (child_arrival x.0 x.1) ++ r) (rest-append b xs ys)
    ∙ sym (append_assoc (arrivals b x.0 (child_arrival x.0 x.1)) (rest b xs) (rest b ys))

rest-below : (b : List ℕ) (above : ℕ) (links : List ℕ)
    → rest b (below above links) ≡ child_arrivals b above links
rest-below b above [] = refl
rest-below b above (l ∷ ls) =
    ap (λ r. arrivals b above (child_arrival above l) ++ r) (rest-below b above ls)

links-append : (xs ys : List (ℕ × ℕ)) → links_in (xs ++ ys) ≡ links_in xs ++ links_in ys
links-append [] ys = refl
links-append (x ∷ xs) ys = ap (λ r. x.1 ∷ r) (links-append xs ys)

links-below : (above : ℕ) (links : List ℕ) → links_in (below above links) ≡ links
links-below above [] = refl
links-below above (l ∷ ls) = ap (λ r. l ∷ r) (links-below above ls)

abbrev pub AreAbove : ℕ → List (ℕ × ℕ) → Type 0
AreAbove place ts = AllByRecursion (λ t. place ≤ t.0) ts

above-lower : (high low : ℕ) (xs ys : List (ℕ × ℕ)) → low ≤ high → AreAbove high xs
    → AreAbove low ys → AreAbove low (xs ++ ys)
above-lower high low [] ys le h k = k
above-lower high low (x ∷ xs) ys le h k =
    (omega (arith, le, h.0), above-lower high low xs ys le h.1 k)

above-below : (place : ℕ) (links : List ℕ) → AreAbove place (below place links)
above-below place [] = tt
above-below place (l ∷ ls) = (omega arith, above-below place ls)

-- the last one, and those before it
record Last (ts : List (ℕ × ℕ)) (links : List ℕ) (link : ℕ) : Type 0 where
  front : List (ℕ × ℕ)
  above : ℕ
  is : ts ≡ front ++ (above, link) ∷ []
  others : links_in front ≡ links

no_links : (ts : List (ℕ × ℕ)) → links_in ts ≡ [] → ts ≡ []
no_links [] e = refl
no_links (t ∷ ts) e = absurd (cc)

last_of : (ts : List (ℕ × ℕ)) (links : List ℕ) (link : ℕ) → links_in ts ≡ links ++ link ∷ []
    → Last ts links link
last_of [] [] link e = absurd (cc)
last_of [] (l ∷ ls) link e = absurd (cc)
last_of (t ∷ ts) [] link e =
    let none : links_in ts ≡ [] = cc in
    let same : t.1 ≡ link = cc in
    record {
      front = [];
      above = t.0;
      is = (λ i. (t.0, same i) ∷ no_links ts none i);
      others = refl;
    }
last_of (t ∷ ts) (l ∷ ls) link e =
    let more : links_in ts ≡ ls ++ link ∷ [] = cc in
    let same : t.1 ≡ l = cc in
    let last = last_of ts ls link more in
    record {
      front = t ∷ last.front;
      above = last.above;
      is = ap (λ r. t ∷ r) last.is;
      others = (λ i. same i ∷ last.others i);
    }

-- ---- the way

abbrev pub all_arrivals : List ℕ → List Arrival
all_arrivals b = arrivals b (length b + 1) (root_arrival b)

-- all nodes at this place and above it were visited that will be, each once, and these are pending
pub record Falling (b links : List ℕ) (place : ℕ) : Type 0 where
  pub todo : List (ℕ × ℕ)
  pub offsets : links_in todo ≡ links
  pub parents : AreAbove place todo
  pub sound : AllSound b (rest b todo) → AllSound b (all_arrivals b)
  pub once : (q : ℕ) → times q (all_arrivals b) ≤ 1 + times q (rest b todo)
  pub lower : (q : ℕ) → q < place → times q (all_arrivals b) ≤ times q (rest b todo)

sound-root : (b : List ℕ) (link : ℕ) → link ≡ be b 8 4 → place_of link < length b + 1
    → all_arrivals b ≡ at_root b link ∷ child_arrivals b (place_of link) (children b link)
unfolding root
sound-root b link e low =
    ap (λ l. arrivals b (length b + 1) (at_root b l)) (sym e)
    ∙ arrivals_below b (length b + 1) (at_root b link) low low

-- after the visit to the root
pub falls_from : (b : List ℕ) (link : ℕ) → link ≡ be b 8 4 → place_of link < length b + 1
    → is_sound b (at_root b link) ≡ true → Falling b (children b link) (place_of link)
falls_from b link e low sound =
    let place = place_of link in
    let a = at_root b link in
    let kids = children b link in
    let all = sound-root b link e low in
    let same = rest-below b place kids in
    let counts : (q : ℕ)
    → times q (all_arrivals b) ≡ once_at q a + times q (rest b (below place kids))
    = λ q. ap (times q) all ∙ ap (λ r. once_at q a + times q r) (sym same) in
    record {
      todo = below place kids;
      offsets = links-below place kids;
      parents = above-below place kids;
      sound = λ h. subst (AllSound b) (sym all) (low, sound, subst (AllSound b) same h);
      once
          = λ q. ⊎_elim (λ here. omega (arith, counts q, time_here q a here))
          (λ apart. omega (arith, counts q, time_elsewhere q a apart)) (cases_eq q place);
      lower
          = λ q less. omega
          (arith, counts q, time_elsewhere q a (λ here. omega (arith, here, less)));
    }

sound-above : (b : List ℕ) (above other link : ℕ)
    → is_sound b (child_arrival above link) ≡ is_sound b (child_arrival other link)
unfolding is_sound
sound-above b above other link = refl

-- after a visit to a lower place
pub falls_on : (b links : List ℕ) (place link : ℕ) → Falling b (links ++ link ∷ []) place
    → place_of link < place → is_sound b (child_arrival place link) ≡ true
    → Falling b (links ++ children b link) (place_of link)
falls_on b links place link w low sound =
    let last = last_of w.todo links link w.offsets in
    let here = place_of link in
    let kids = children b link in
    let a = child_arrival last.above link in
    let parents
    = inside-pop (λ t. place ≤ t.0) last.front (last.above, link)
    (subst (AreAbove place) last.is w.parents) in
    let less : here < last.above = omega (arith, low, parents.1) in
    let before = rest b last.front in
    let inner = child_arrivals b here kids in
    let old : rest b w.todo ≡ before ++ a ∷ inner
    = ap (rest b) last.is ∙ rest-append b last.front ((last.above, link) ∷ [])
    ∙ ap (λ r. before ++ r) (append-nil _ ∙ arrivals_below b last.above a less less) in
    let todo = last.front ++ below here kids in
    let new : rest b todo ≡ before ++ inner
    = rest-append b last.front (below here kids)
    ∙ ap (λ r. before ++ r) (rest-below b here kids) in
    let was : (q : ℕ) → times q (rest b w.todo) ≡ times q before + (once_at q a + times q inner)
    = λ q. ap (times q) old ∙ times-append q before (a ∷ inner) in
    let are : (q : ℕ) → times q (rest b todo) ≡ times q before + times q inner
    = λ q. ap (times q) new ∙ times-append q before inner in
    record {
      todo = todo;
      offsets
          = links-append last.front (below here kids)
          ∙ (λ i. last.others i ++ links-below here kids i);
      parents
          = above-lower place here last.front (below here kids) (omega (arith, low)) parents.0
          (above-below here kids);
      sound
          = λ h. let parts
          = sound-split b before inner (subst (AllSound b) new h) in w.sound
          (subst (AllSound b) (sym old)
          (sound-join b before (a ∷ inner) parts.0
          (less, sound-above b last.above place link ∙ sound, parts.1)));
      once
          = λ q. ⊎_elim
          (λ is. omega
          (arith, was q, are q, time_here q a is, w.lower q (omega (arith, is, low))))
          (λ apart. omega (arith, was q, are q, time_elsewhere q a apart, w.once q))
          (cases_eq q here);
      lower
          = λ q down. omega (
            arith,
            was q,
            are q,
            time_elsewhere q a (λ is. omega (arith, is, down)),
            w.lower q (omega (arith, down, low)),
          );
    }

-- nothing is left
pub fell : (b links : List ℕ) (place : ℕ) → Falling b links place → links ≡ []
    → nodes_fault b ≡ None
fell b links place w none =
    let empty = no_links w.todo (w.offsets ∙ none) in
    let left = ap (rest b) empty in
    accepted b [] (all_arrivals b) (w.sound (subst (AllSound b) (sym left) tt))
    (λ q. omega (arith, w.once q, ap (times q) left)) (λ q some. refl)
