use Rattle.std.proofs.Common.{refl, sym, subst, ◌∙◌, [], ◌<◌, inl, arith}
use Rattle.std.proofs.lemmas.Bool.{false≢true}
use Rattle.index_nodes.specs.Fields.{link_of}
use Rattle.glob_pattern.specs.Pattern.{Matches}
use Rattle.index_read.specs.Keys.{Item, all_items}
use Rattle.index_read.specs.Values.{found_values}
use Rattle.index_read.proofs.CountLemmas.{count_all, root_counted}
use Rattle.index_read.proofs.ContentsLemmas.{all_matching}
use Rattle.index_read.proofs.GoingLemmas.{Goes, goes, to_do, owed_first, owed_next, fewer}
use Rattle.index_read.proofs.ListingLemmas.{selection}
use Rattle.index_read.proofs.MatchLemmas.{Onward, on_match, on_other, none_left}
use Rattle.index_read.proofs.index.Index.matching.Invariants.{Matching}
use Rattle.index_read.proofs.index.Index.matching.Goals.{then-reached+in_ok-push_values}
use Rattle.index_read.proofs.index.Index.matching.Goals.{else-reached}
use Rattle.index_read.proofs.index.Index.matching.Goals as goal

pub returns-in_err-search-clause-cost : goal.returns-in_err-search-clause-cost
returns-in_err-search-clause-cost g c =
    let b = c.args.self.now.nodes in
    omega (arith, count_all b c.start.ensures.accepted, root_counted b, c.start.ensures.cost)

pub loop-next-init : goal.loop-next-init
loop-next-init g c =
    let b = c.args.self.now.nodes in
    let text = c.args.text.now in
    let s = c.in_ok-search.search in
    let finds = c.in_ok-search.ensures.finds in
    let w : Goes b text s c.in_ok-search.first []
    = goes b text (all_items b) s c.in_ok-search.first [] finds
    (λ ps c. record { pairs = ps; chosen = c; found_is = refl }) in
    record {
      accepted = c.start.ensures.accepted;
      is = w.is;
      going = w.going;
      onward
          = subst (λ fs. Onward b text w.is (found_values fs)) (sym c.new-found.ensures.items)
          w.onward;
      cost
          = omega (
            arith,
            c.start.ensures.cost,
            root_counted b,
            owed_first b text (all_items b) s c.in_ok-search.first finds (root_counted b),
          );
    }

pub returns-in_err-push_values-clause-cost : goal.returns-in_err-push_values-clause-cost
returns-in_err-push_values-clause-cost g c =
    let w = c.loop-next.invariant in
    omega (arith, count_all c.args.self.now.nodes w.accepted, w.cost)

pub returns-in_err-next-clause-cost : goal.returns-in_err-next-clause-cost
returns-in_err-next-clause-cost g c =
    let b = c.args.self.now.nodes in
    let w
    = subst (λ o. Matching b c.args.text.now c.loop-next.search o
    (found_values c.loop-next.found.items) c.args.steps.now c.loop-next.steps) c.in-Some.is
    c.loop-next.invariant in
    omega (arith, count_all b w.accepted, w.cost, c.next.ensures.cost)

pub loop-next-preserved : goal.loop-next-preserved
loop-next-preserved g c =
    let b = c.args.self.now.nodes in
    let text = c.args.text.now in
    let s = c.loop-next.search in
    let found = found_values c.loop-next.found.items in
    let w
    = subst (λ o. Matching b text s o found c.args.steps.now c.loop-next.steps) c.in-Some.is
    c.loop-next.invariant in
    let f = c.in-Some.reached in
    let at = w.going in
    let item : Item = (at.key, link_of f.node) in
    let before = subst (λ xs. Onward b text xs found) at.parts w.onward in
    let decided = at.decides in
    let after : Onward b text at.left (found_values c.if-reached.found.items)
    = elim c.if-reached.branch [
      | then-reached+in_ok-push_values v ↦ rw (v.found-is)
          (on_match b text item at.left found (found_values v.push_values.new.found.items)
          v.in_ok-push_values.ensures (decided.0 v.if-reached.true) before)
      | else-reached v ↦ rw (v.found-is)
          (on_other b text item at.left found
          (inl (λ m. false≢true (sym v.if-reached.false ∙ decided.1 m))) before)
    ] in
    let on
    = goes b text at.left c.next.new.self c.in_ok-next.next
    (found_values c.if-reached.found.items)
    (c.in_ok-next.ensures.finds text at.left at.searching) after in
    record {
      accepted = w.accepted;
      is = on.is;
      going = on.going;
      onward = on.onward;
      cost
          = omega (
            arith,
            w.cost,
            c.in_ok-next.ensures.cost,
            owed_next b c.next.new.self c.in_ok-next.next,
          );
    }

pub loop-next-smaller : goal.loop-next-smaller
loop-next-smaller g c =
    let b = c.args.self.now.nodes in
    let text = c.args.text.now in
    let s = c.loop-next.search in
    let w
    = subst (λ o. Matching b text s o (found_values c.loop-next.found.items) c.args.steps.now
    c.loop-next.steps) c.in-Some.is c.loop-next.invariant in
    let at = w.going in
    subst (λ o. to_do b c.next.new.self c.in_ok-next.next < to_do b s o) (sym c.in-Some.is)
    (fewer b text at.left s c.next.new.self c.in_ok-next.next at.searching
    (c.in_ok-next.ensures.finds text at.left at.searching))

pub returns-clause-cost : goal.returns-clause-cost
returns-clause-cost g c =
    let w = c.loop-next.invariant in
    omega (arith, count_all c.args.self.now.nodes w.accepted, w.cost)

pub returns-clause-matching : goal.returns-clause-matching
returns-clause-matching g c =
    let b = c.args.self.now.nodes in
    let text = c.args.text.now in
    let found = found_values c.loop-next.found.items in
    let w
    = subst (λ o. Matching b text c.loop-next.search o found c.args.steps.now c.loop-next.steps)
    c.in_default.is c.loop-next.invariant in
    let f = none_left b text w.is found w.going w.onward in
    record {
      pairs = f.pairs;
      matching = selection b w.accepted (λ key. Matches key text) f.pairs f.chosen;
      found_is = f.found_is;
    }

pub returns-clause-exact : goal.returns-clause-exact
returns-clause-exact g c =
    let b = c.args.self.now.nodes in
    let text = c.args.text.now in
    let found = found_values c.loop-next.found.items in
    let w
    = subst (λ o. Matching b text c.loop-next.search o found c.args.steps.now c.loop-next.steps)
    c.in_default.is c.loop-next.invariant in
    let f = none_left b text w.is found w.going w.onward in
    f.found_is ∙ all_matching b text f.pairs f.chosen
