-- The reader's way through a file: what is left of it decides.
use Rattle.std.proofs.Common.{◌≡◌, sym, ap, subst, ◌∙◌, ℕ, Bool, true, false, cond, ◌==◌, nat_lt}
use Rattle.std.proofs.Common.{◌+◌, ◌/◌, ◌<◌, ◌≤◌, List, [], ◌∷◌, ◌++◌, length, Option, Some, None}
use Rattle.std.proofs.Common.{vec_len, arith, append_assoc, length-append}
use Rattle.std.proofs.lemmas.List.{append-nil}
use Rattle.std.specs.List.{AllByRecursion}
use Rattle.km_names.specs.First.{first}
use Rattle.index_format.specs.Link.{place_of}
use Rattle.km_names.specs.Number.{be}
use Rattle.index_format.specs.Node.{root, children}
use Rattle.index_format.specs.Check.{Fault, BadMagic as NoMagic, BadVersion as NoVersion}
use Rattle.index_format.specs.Check.{BadNode as NodeFault, Revisited as SecondVisit, Arrival}
use Rattle.index_format.specs.Check.{arrival_fault, arrival_faults, arrivals, root_arrival}
use Rattle.index_format.specs.Check.{index_fault}
use Rattle.index_format.specs.declared.numbers.TheConstants.{MAGIC, VERSION, FIRST_PLACE}
use Rattle.std.proofs.lemmas.Bool.{le-ltb}
use Rattle.index_nodes.specs.declared.check.Pending.{Pending}
use Rattle.index_nodes.specs.declared.fault.IndexFault.{IndexFault}
use Rattle.index_nodes.specs.declared.fault.IndexFault.TheVariants.{BadMagic, BadVersion, BadNode}
use Rattle.index_nodes.specs.declared.fault.IndexFault.TheVariants.{Revisited, Memory}
use Rattle.index_nodes.specs.Faults.{IsFirstFault}
use Rattle.index_nodes.specs.declared.place_set.PlaceSet.{PlaceSet}
use Rattle.index_nodes.specs.Pending.{links_of, child_arrival, child_arrivals, arrivals_left}
use Rattle.index_nodes.specs.Pending.{IsInside, HasPlaces, IsPendingOf, nodes_fault}
use Rattle.index_nodes.proofs.ArrivalLemmas.{sound_from_none, inside-pop, arrivals_head}
use Rattle.index_nodes.proofs.ArrivalLemmas.{arrivals_below, arrivals_left-push}

-- after the visits to these places what is left of the file decides
pub record Way (b seen : List ℕ) (stack : List Pending) : Type 0 where
  pub rest : first (arrival_faults b seen (arrivals_left b stack)) ≡ nodes_fault b
  pub inside : AllByRecursion (IsInside b) stack

-- what holds between two visits in any order
pub record Walking (b : List ℕ) (set : PlaceSet) (stack : List Pending) : Type 0 where
  pub seen : List ℕ
  pub places : HasPlaces set seen
  pub room : length b / 64 < vec_len set.words
  pub way : Way b seen stack

first-some : (o : Option Fault) (os : List (Option Fault)) (f : Fault) → o ≡ Some f
    → first (o ∷ os) ≡ Some f
first-some o os f e = ap (λ p. first (p ∷ os)) e

-- a fault at the next arrival is the first one
pub fault_next : (b seen : List ℕ) (d : ℕ) (a : Arrival) (more : List Arrival) (f : Fault)
    → arrival_fault b seen a ≡ Some f
    → first (arrival_faults b seen (arrivals b d a ++ more)) ≡ Some f
unfolding arrival_faults
fault_next b seen d a more f e =
    let head = arrivals_head b d a in
    ap (λ rs. first (arrival_faults b seen (rs ++ more))) head.1
    ∙ first-some (arrival_fault b seen a)
    (arrival_faults b (place_of a.link ∷ seen) (head.0 ++ more)) f e

-- after an arrival that passes come the node's children
pub passes_next : (b seen : List ℕ) (d : ℕ) (a : Arrival) (more : List Arrival) (p : Pending)
    → place_of a.link < d → place_of a.link < a.above → arrival_fault b seen a ≡ None
    → IsPendingOf b a.link p
    → first (arrival_faults b seen (arrivals b d a ++ more))
    ≡ first (arrival_faults b (place_of a.link ∷ seen)
    (child_arrivals b p.above (links_of b p) ++ more))
unfolding arrival_faults
passes_next b seen d a more p deep low e is =
    ap (λ rs. first (arrival_faults b seen (rs ++ more))) (arrivals_below b d a deep low)
    ∙ ap (λ o. first
    (o
    ∷ arrival_faults b (place_of a.link ∷ seen)
    (child_arrivals b (place_of a.link) (children b a.link) ++ more))) e
    ∙ (λ i. first (arrival_faults b (place_of a.link ∷ seen)
    (child_arrivals b (sym is.above i) (sym is.links i) ++ more)))

-- the top of the stack, by its next child
pub left_next : (b : List ℕ) (ps : List Pending) (p q : Pending) (link : ℕ)
    → links_of b p ≡ link ∷ links_of b q → q.above ≡ p.above
    → arrivals_left b (ps ++ p ∷ [])
    ≡ arrivals b p.above (child_arrival p.above link)
    ++ (child_arrivals b q.above (links_of b q) ++ arrivals_left b ps)
left_next b ps p q link e above =
    arrivals_left-push b ps p
    ∙ ap (λ ls. child_arrivals b p.above ls ++ arrivals_left b ps) e
    ∙ append_assoc (arrivals b p.above (child_arrival p.above link))
    (child_arrivals b p.above (links_of b q)) (arrivals_left b ps)
    ∙ ap (λ n. arrivals b p.above (child_arrival p.above link)
    ++ (child_arrivals b n (links_of b q) ++ arrivals_left b ps)) (sym above)

pub length-below : (b : List ℕ) (d : ℕ) (a : Arrival) (p : Pending) → place_of a.link < d
    → place_of a.link < a.above → IsPendingOf b a.link p
    → length (arrivals b d a) ≡ length (child_arrivals b p.above (links_of b p)) + 1
length-below b d a p deep low is =
    let all = ap length (arrivals_below b d a deep low) in
    let same : child_arrivals b (place_of a.link) (children b a.link)
    ≡ child_arrivals b p.above (links_of b p)
    = λ i. child_arrivals b (sym is.above i) (sym is.links i) in
    let sizes = ap length same in
    omega (arith, all, sizes)

-- a fault at the next arrival is the first one of the file
pub first_fault : (b seen : List ℕ) (d : ℕ) (a : Arrival) (more : List Arrival) (f : IndexFault)
    → IsFirstFault (arrival_fault b seen a) f
    → first (arrival_faults b seen (arrivals b d a ++ more)) ≡ nodes_fault b
    → IsFirstFault (nodes_fault b) f
first_fault b seen d a more BadMagic h e = sym e ∙ fault_next b seen d a more NoMagic h
first_fault b seen d a more BadVersion h e = sym e ∙ fault_next b seen d a more NoVersion h
first_fault b seen d a more (BadNode offset) h e =
    sym e ∙ fault_next b seen d a more (NodeFault offset) h
first_fault b seen d a more (Revisited offset) h e =
    sym e ∙ fault_next b seen d a more (SecondVisit offset) h
first_fault b seen d a more Memory h e = tt

-- the arrival at the root, by its offset
abbrev pub at_root : List ℕ → ℕ → Arrival
at_root b link = record { above = length b + 1; is_root = true; link = link }

pub root_rest : (b : List ℕ) (link : ℕ) → link ≡ be b 8 4
    → first (arrival_faults b [] (arrivals b (length b + 1) (at_root b link) ++ [])) ≡ nodes_fault b
unfolding root
root_rest b link e =
    ap (λ rs. first (arrival_faults b [] rs))
    (append-nil (arrivals b (length b + 1) (at_root b link)))
    ∙ ap (λ l. first (arrival_faults b [] (arrivals b (length b + 1) (at_root b l)))) e

pub first_way : (b : List ℕ) (link : ℕ) (stack : List Pending) (p : Pending) → link ≡ be b 8 4
    → arrival_fault b [] (at_root b link) ≡ None → IsPendingOf b link p
    → arrivals_left b stack ≡ child_arrivals b p.above (links_of b p) ++ []
    → AllByRecursion (IsInside b) stack → Way b (place_of link ∷ []) stack
first_way b link stack p e passes pending left inside =
    let low = (sound_from_none b [] (at_root b link) passes).low in
    record {
      rest =
          ap (λ rs. first (arrival_faults b (place_of link ∷ []) rs)) left
          ∙ sym (passes_next b [] (length b + 1) (at_root b link) [] p low low passes pending)
          ∙ root_rest b link e;
      inside = inside;
    }

module _ (b seen : List ℕ) (stack ps : List Pending) (p : Pending) (w : Way b seen stack)
    (is : stack ≡ ps ++ p ∷ []) where
  pub top_inside : AllByRecursion (IsInside b) ps × IsInside b p
  top_inside = inside-pop (IsInside b) ps p (subst (AllByRecursion (IsInside b)) is w.inside)

  pub left_none : links_of b p ≡ [] → arrivals_left b stack ≡ arrivals_left b ps
  left_none e
      = ap (arrivals_left b) is ∙ arrivals_left-push b ps p
      ∙ ap (λ ls. child_arrivals b p.above ls ++ arrivals_left b ps) e

  pub way_on : links_of b p ≡ [] → Way b seen ps
  way_on e = record {
    rest = ap (λ rs. first (arrival_faults b seen rs)) (sym (left_none e)) ∙ w.rest;
    inside = top_inside.0;
  }

  module _ (link : ℕ) (q : Pending) (e : links_of b p ≡ link ∷ links_of b q)
      (above : q.above ≡ p.above) where
    abbrev pub a : Arrival
    a = child_arrival p.above link

    pub more : List Arrival
    more = child_arrivals b q.above (links_of b q) ++ arrivals_left b ps

    pub left_is : arrivals_left b stack ≡ arrivals b p.above a ++ more
    unfolding more
    left_is = ap (arrivals_left b) is ∙ left_next b ps p q link e above

    pub rest_is : first (arrival_faults b seen (arrivals b p.above a ++ more)) ≡ nodes_fault b
    rest_is = ap (λ rs. first (arrival_faults b seen rs)) (sym left_is) ∙ w.rest

    pub stops_here : (f : IndexFault) → IsFirstFault (arrival_fault b seen a) f
        → IsFirstFault (nodes_fault b) f
    stops_here f h = first_fault b seen p.above a more f h rest_is

    module _ (below : Pending) (passes : arrival_fault b seen a ≡ None)
        (pending : IsPendingOf b link below) (one two : List Pending)
        (left_one : arrivals_left b one
        ≡ child_arrivals b q.above (links_of b q) ++ arrivals_left b ps)
        (left_two : arrivals_left b two
        ≡ child_arrivals b below.above (links_of b below) ++ arrivals_left b one) where
      pub low : place_of link < p.above
      low = (sound_from_none b seen a passes).low

      two_is : arrivals_left b two ≡ child_arrivals b below.above (links_of b below) ++ more
      unfolding more
      two_is = left_two ∙ ap (λ rs. child_arrivals b below.above (links_of b below) ++ rs) left_one

      pub way_below : AllByRecursion (IsInside b) two → Way b (place_of link ∷ seen) two
      way_below inside = record {
        rest =
            ap (λ rs. first (arrival_faults b (place_of link ∷ seen) rs)) two_is
            ∙ sym (passes_next b seen p.above a more below low low passes pending)
            ∙ rest_is;
        inside = inside;
      }

      pub fewer : length (arrivals_left b stack) ≡ length (arrivals_left b two) + 1
      fewer =
          let before = ap length left_is in
          let after = ap length two_is in
          let sizes = length-below b p.above a below low low pending in
          omega (
            arith,
            before,
            after,
            sizes,
            length-append (arrivals b p.above a) more,
            length-append (child_arrivals b below.above (links_of b below)) more,
          )

-- ---- the tests before the nodes

pub header_fault : (b : List ℕ) (magic version short : Bool) → (be b 0 4 == MAGIC) ≡ magic
    → (be b 4 4 == VERSION) ≡ version → nat_lt (length b) FIRST_PLACE ≡ short
    → index_fault b
    ≡ first ((cond magic None (Some NoMagic)) ∷ (cond version None (Some NoVersion))
    ∷ (cond short (Some (NodeFault 8)) None)
    ∷ arrival_faults b [] (arrivals b (length b + 1) (root_arrival b)))
unfolding index_fault
header_fault b magic version short m v s =
    λ i. first ((cond (m i) None (Some NoMagic)) ∷ (cond (v i) None (Some NoVersion))
    ∷ (cond (s i) (Some (NodeFault 8)) None)
    ∷ arrival_faults b [] (arrivals b (length b + 1) (root_arrival b)))

pub nodes_decide : (b : List ℕ) → (be b 0 4 == MAGIC) ≡ true → (be b 4 4 == VERSION) ≡ true
    → FIRST_PLACE ≤ length b → index_fault b ≡ nodes_fault b
nodes_decide b m v h = header_fault b true true false m v (le-ltb (length b) FIRST_PLACE h)
