use Rattle.std.proofs.Common.{◌≡◌, refl, sym, ap, subst, ◌∙◌, ◌+◌, [], ◌∷◌, ◌++◌, length, arith}
use Rattle.std.specs.List.{AllByRecursion}
use Rattle.std.proofs.lemmas.Result.{err_from_is_err_and}
use Rattle.std.proofs.lemmas.List.{nil_from_length}
use Rattle.km_names.specs.First.{first}
use Rattle.index_format.specs.Link.{place_of}
use Rattle.index_format.specs.Check.{arrival_faults}
use Rattle.index_nodes.specs.Pending.{arrivals_left, child_arrivals, links_of, IsInside}
use Rattle.index_nodes.proofs.ArrivalLemmas.{arrivals_left-push, none_left, inside-push}
use Rattle.index_nodes.proofs.CheckLemmas.{Way, at_root, root_rest, first_fault, first_way}
use Rattle.index_nodes.proofs.CheckLemmas.{top_inside, left_none, way_on, stops_here, way_below}
use Rattle.index_nodes.proofs.CheckLemmas.{fewer}
use Rattle.index_nodes.proofs.check.check_in_any_order.Goals as goal

pub returns-in_err-level-clause-fault : goal.returns-in_err-level-clause-fault
returns-in_err-level-clause-fault c =
    let p
    = err_from_is_err_and c.from_residual-in_err-level.result
    c.from_residual-in_err-level.ensures.1 in
    let b = c.args.bytes.now in
    let link = c.be_u32_at.result in
    rw (p.1, p.2)
    (first_fault b [] (length b + 1) (at_root b link) [] _
    (c.in_err-level.ensures.fault [] c.in_ok-visited.ensures.empty)
    (root_rest b link c.be_u32_at.ensures))

pub level-init : goal.level-init
level-init c =
    let b = c.args.bytes.now in
    let p = c.in_ok-level.level in
    let none = c.new-above.result.items in
    let empty : none ≡ [] = c.new-above.ensures.items in
    record {
      walk = record {
        seen = place_of c.be_u32_at.result ∷ [];
        places = c.in_ok-level.ensures.places [] c.in_ok-visited.ensures.empty;
        room = omega (arith, c.visit_node.ensures.room, c.in_ok-visited.ensures.room);
        way =
            first_way b c.be_u32_at.result (none ++ p ∷ []) p c.be_u32_at.ensures
            (c.in_ok-level.ensures.passes [] c.in_ok-visited.ensures.empty)
            c.in_ok-level.ensures.pending
            (arrivals_left-push b none p
            ∙ ap (λ ps. child_arrivals b p.above (links_of b p) ++ arrivals_left b ps)
            empty)
            (inside-push (IsInside b) none p (subst (AllByRecursion (IsInside b)) (sym empty) tt)
            c.in_ok-level.ensures.pending.inside);
      };
      starts_known = c.visit_node.ensures.starts;
    }

pub next_child-requires : goal.next_child-requires
next_child-requires c =
    let w = c.level.invariant.walk in
    (top_inside c.args.bytes.now w.seen (c.level.above.items ++ c.level.level ∷ [])
    c.level.above.items c.level.level w.way refl).1

pub returns-in-None-clause-passes : goal.returns-in-None-clause-passes
unfolding arrival_faults
returns-in-None-clause-passes c =
    let b = c.args.bytes.now in
    let ps = c.level.above.items in
    let w = c.level.invariant.walk in
    let none : ps ≡ []
    = nil_from_length ps (omega (arith, c.in-None.ensures.cases.0, c.level.above.ok.0)) in
    let left
    = left_none b w.seen (ps ++ c.level.level ∷ []) ps c.level.level w.way refl
    c.in_default.ensures in
    sym w.way.rest
    ∙ ap (λ rs. first (arrival_faults b w.seen rs)) (left ∙ ap (arrivals_left b) none)

pub level-smaller-in_default : goal.level-smaller-in_default
level-smaller-in_default c =
    let b = c.args.bytes.now in
    let ps = c.level.above.items in
    let w = c.level.invariant.walk in
    let left
    = ap length (left_none b w.seen (ps ++ c.level.level ∷ []) ps c.level.level w.way refl
    c.in_default.ensures) in
    let same = ap (λ qs. length (arrivals_left b qs)) c.in-Some-pop.ensures.items in
    omega (arith, left, same, c.in-Some-pop.ensures.cases)

pub level-preserved-in_default : goal.level-preserved-in_default
level-preserved-in_default c =
    let b = c.args.bytes.now in
    let ps = c.level.above.items in
    let w = c.level.invariant.walk in
    record {
      walk = record {
        seen = w.seen;
        places = w.places;
        room = w.room;
        way
            = subst (Way b w.seen) c.in-Some-pop.ensures.items
            (way_on b w.seen (ps ++ c.level.level ∷ []) ps c.level.level w.way refl
            c.in_default.ensures);
      };
      starts_known = c.level.invariant.starts_known;
    }

pub returns-in_err-below-clause-fault : goal.returns-in_err-below-clause-fault
returns-in_err-below-clause-fault c =
    let p
    = err_from_is_err_and c.from_residual-in_err-below.result
    c.from_residual-in_err-below.ensures.1 in
    let w = c.level.invariant.walk in
    let ps = c.level.above.items in
    rw (p.1, p.2)
    (stops_here c.args.bytes.now w.seen (ps ++ c.level.level ∷ []) ps c.level.level w.way refl
    c.in-Some.link c.in-Some.rest c.in-Some.ensures.0 c.in-Some.ensures.1 _
    (c.in_err-below.ensures.fault w.seen w.places))

pub level-smaller-then-below-eq0 : goal.level-smaller-then-below-eq0
level-smaller-then-below-eq0 c =
    let b = c.args.bytes.now in
    let w = c.level.invariant.walk in
    let ps = c.level.above.items in
    let one = ps ++ c.in-Some.rest ∷ [] in
    let below = c.in_ok-below.below in
    let less
    = fewer b w.seen (ps ++ c.level.level ∷ []) ps c.level.level w.way refl c.in-Some.link
    c.in-Some.rest c.in-Some.ensures.0 c.in-Some.ensures.1 below
    (c.in_ok-below.ensures.passes w.seen w.places) c.in_ok-below.ensures.pending one one
    (arrivals_left-push b ps c.in-Some.rest)
    (ap (λ rs. rs ++ arrivals_left b one)
    (sym (none_left b below (omega (arith, c.if-below-eq0.true))))) in
    omega (arith, less)

pub level-preserved-then-below-eq0 : goal.level-preserved-then-below-eq0
level-preserved-then-below-eq0 c =
    let b = c.args.bytes.now in
    let w = c.level.invariant.walk in
    let ps = c.level.above.items in
    let one = ps ++ c.in-Some.rest ∷ [] in
    let below = c.in_ok-below.below in
    let top = top_inside b w.seen (ps ++ c.level.level ∷ []) ps c.level.level w.way refl in
    record {
      walk = record {
        seen = place_of c.in-Some.link ∷ w.seen;
        places = c.in_ok-below.ensures.places w.seen w.places;
        room = omega (arith, w.room, c.in_ok-below.ensures.room);
        way =
            way_below b w.seen (ps ++ c.level.level ∷ []) ps c.level.level w.way refl c.in-Some.link
            c.in-Some.rest c.in-Some.ensures.0 c.in-Some.ensures.1 below
            (c.in_ok-below.ensures.passes w.seen w.places) c.in_ok-below.ensures.pending one one
            (arrivals_left-push b ps c.in-Some.rest)
            (ap (λ rs. rs ++ arrivals_left b one)
            (sym (none_left b below (omega (arith, c.if-below-eq0.true)))))
            (inside-push (IsInside b) ps c.in-Some.rest top.0 c.in-Some.ensures.2);
      };
      starts_known = c.visit_node-in-level.ensures.starts;
    }

pub level-smaller : goal.level-smaller
level-smaller c =
    let b = c.args.bytes.now in
    let w = c.level.invariant.walk in
    let ps = c.level.above.items in
    let one = c.push_pending.new.stack.items in
    let below = c.in_ok-below.below in
    let less
    = fewer b w.seen (ps ++ c.level.level ∷ []) ps c.level.level w.way refl c.in-Some.link
    c.in-Some.rest c.in-Some.ensures.0 c.in-Some.ensures.1 below
    (c.in_ok-below.ensures.passes w.seen w.places) c.in_ok-below.ensures.pending one
    (one ++ below ∷ []) (c.in_ok-push_pending.ensures.left b)
    (arrivals_left-push b one below) in
    omega (arith, less, c.in_ok-push_pending.ensures.count)

pub level-preserved : goal.level-preserved
level-preserved c =
    let b = c.args.bytes.now in
    let w = c.level.invariant.walk in
    let ps = c.level.above.items in
    let one = c.push_pending.new.stack.items in
    let below = c.in_ok-below.below in
    let top = top_inside b w.seen (ps ++ c.level.level ∷ []) ps c.level.level w.way refl in
    record {
      walk = record {
        seen = place_of c.in-Some.link ∷ w.seen;
        places = c.in_ok-below.ensures.places w.seen w.places;
        room = omega (arith, w.room, c.in_ok-below.ensures.room);
        way =
            way_below b w.seen (ps ++ c.level.level ∷ []) ps c.level.level w.way refl c.in-Some.link
            c.in-Some.rest c.in-Some.ensures.0 c.in-Some.ensures.1 below
            (c.in_ok-below.ensures.passes w.seen w.places) c.in_ok-below.ensures.pending one
            (one ++ below ∷ []) (c.in_ok-push_pending.ensures.left b)
            (arrivals_left-push b one below)
            (inside-push (IsInside b) one below
            (c.in_ok-push_pending.ensures.inside b c.in-Some.ensures.2 top.0)
            c.in_ok-below.ensures.pending.inside);
      };
      starts_known = c.visit_node-in-level.ensures.starts;
    }
