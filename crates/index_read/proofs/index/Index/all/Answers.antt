use Rattle.std.proofs.Common.{sym, ap, subst, ◌∙◌, [], ◌++◌, length, arith, append_assoc}
use Rattle.std.proofs.lemmas.List.{append-nil}
use Rattle.index_format.specs.Node.{root}
use Rattle.index_format.specs.Map.{values_of}
use Rattle.index_format.specs.Walk.{at}
use Rattle.index_format.specs.Listing.{IsListing}
use Rattle.index_nodes.specs.Fields.{link_of}
use Rattle.index_read.specs.Contents.{contents}
use Rattle.index_read.specs.Keys.{Item, all_items, items_left}
use Rattle.index_read.specs.Walks.{walk_key}
use Rattle.index_read.specs.Values.{shown_pairs}
use Rattle.index_read.proofs.ContentsLemmas.{values_held}
use Rattle.index_read.proofs.CountLemmas.{count_all, root_counted}
use Rattle.index_read.proofs.ListingLemmas.{Chosen, none, taken, pairs_of, listing}
use Rattle.index_read.proofs.RoundLemmas.{still_to_do, still_going, owed_few}
use Rattle.index_read.proofs.index.Index.all.Invariants.{Every, Listing}
use Rattle.index_read.proofs.index.Index.all.Goals as goal

pub returns-in_err-walk-clause-cost : goal.returns-in_err-walk-clause-cost
returns-in_err-walk-clause-cost g c =
    let b = c.args.self.now.nodes in
    let all = count_all b c.start.ensures.accepted in
    let root_there = root_counted b in
    omega (arith, all, root_there, c.start.ensures.cost)

pub returns-in_err-push_node-clause-cost : goal.returns-in_err-push_node-clause-cost
returns-in_err-push_node-clause-cost g c =
    let w = c.loop-next.invariant in
    let all = count_all c.args.self.now.nodes w.accepted in
    omega (arith, all, w.cost)

pub returns-in_err-next-clause-cost : goal.returns-in_err-next-clause-cost
returns-in_err-next-clause-cost g c =
    let b = c.args.self.now.nodes in
    let w
    = subst (λ o. Listing b c.loop-next.walk o (shown_pairs c.loop-next.found.items)
    c.args.steps.now c.loop-next.steps) c.in-Some.is c.loop-next.invariant in
    let all = count_all c.args.self.now.nodes w.accepted in
    let same = ap length (ap (items_left b []) c.in_ok-push_node.ensures.levels) in
    omega (arith, all, w.cost, c.next.ensures.cost, same)

pub loop-next-preserved : goal.loop-next-preserved
loop-next-preserved g c =
    let b = c.args.self.now.nodes in
    let w
    = subst (λ o. Listing b c.loop-next.walk o (shown_pairs c.loop-next.found.items)
    c.args.steps.now c.loop-next.steps) c.in-Some.is c.loop-next.invariant in
    let old = c.push_node.new.walk in
    let new = c.next.new.self in
    let n = c.in-Some.node in
    let o = c.in_ok-next.next in
    let item : Item = (walk_key b c.loop-next.walk, link_of n) in
    let same = ap (items_left b []) c.in_ok-push_node.ensures.levels in
    let on = c.in_ok-next.ensures.goes_on in
    let few = owed_few b new o in
    record {
      accepted = w.accepted;
      going = still_going b old new o on;
      onward =
          λ ps more.
          subst (Chosen b Every (all_items b))
          (sym (append_assoc (shown_pairs c.loop-next.found.items) (pairs_of b item) ps)
          ∙ ap (λ qs. qs ++ ps) (sym c.in_ok-push_node.ensures.pairs))
          (w.onward (pairs_of b item ++ ps)
          (taken item tt
          (subst (λ is. Chosen b Every is ps) (sym (still_to_do b old new o on) ∙ same)
          more)));
      cost = omega (arith, w.cost, c.in_ok-next.ensures.cost, few, ap length same);
    }

pub returns-clause-listing : goal.returns-clause-listing
returns-clause-listing g c =
    let b = c.args.self.now.nodes in
    let w
    = subst (λ o. Listing b c.loop-next.walk o (shown_pairs c.loop-next.found.items)
    c.args.steps.now c.loop-next.steps) c.in_default.is c.loop-next.invariant in
    let found = shown_pairs c.loop-next.found.items in
    let chosen = subst (Chosen b Every (all_items b)) (append-nil found) (w.onward [] none) in
    subst (λ fs. IsListing (at b (root b)) (shown_pairs fs)) (sym c.from_vec.ensures)
    (listing b w.accepted found chosen)

pub returns-clause-map : goal.returns-clause-map
returns-clause-map g c =
    let b = c.args.self.now.nodes in
    let w
    = subst (λ o. Listing b c.loop-next.walk o (shown_pairs c.loop-next.found.items)
    c.args.steps.now c.loop-next.steps) c.in_default.is c.loop-next.invariant in
    let found = shown_pairs c.loop-next.found.items in
    let chosen = subst (Chosen b Every (all_items b)) (append-nil found) (w.onward [] none) in
    let whole = listing b w.accepted found chosen in
    λ m h.
    subst (λ fs. IsListing (values_of m) (shown_pairs fs)) (sym c.from_vec.ensures)
    (record { keys = whole.keys; each = λ key. whole.each key ∙ h.values key })

pub returns-clause-held : goal.returns-clause-held
returns-clause-held g c =
    let b = c.args.self.now.nodes in
    let w
    = subst (λ o. Listing b c.loop-next.walk o (shown_pairs c.loop-next.found.items)
    c.args.steps.now c.loop-next.steps) c.in_default.is c.loop-next.invariant in
    let found = shown_pairs c.loop-next.found.items in
    let chosen = subst (Chosen b Every (all_items b)) (append-nil found) (w.onward [] none) in
    let whole = listing b w.accepted found chosen in
    subst (λ fs. IsListing (values_of (contents b)) (shown_pairs fs)) (sym c.from_vec.ensures)
    (record { keys = whole.keys; each = λ key. whole.each key ∙ values_held b w.accepted key })

pub returns-clause-cost : goal.returns-clause-cost
returns-clause-cost g c =
    let w = c.loop-next.invariant in
    let all = count_all c.args.self.now.nodes w.accepted in
    omega (arith, all, w.cost)
