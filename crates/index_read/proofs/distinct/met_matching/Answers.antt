use Rattle.std.proofs.Common.{refl, sym, subst, ◌∙◌, [], ◌<◌, ◌++◌, inl}
use Rattle.std.proofs.lemmas.Bool.{false≢true}
use Rattle.index_format.specs.Node.{values}
use Rattle.index_nodes.specs.Fields.{link_of}
use Rattle.index_read.specs.Keys.{Item, all_items}
use Rattle.index_read.specs.Met.{StandFor, kept}
use Rattle.index_read.proofs.ContentsLemmas.{all_matching}
use Rattle.index_read.proofs.GoingLemmas.{Goes, goes, to_do, fewer}
use Rattle.index_read.proofs.MatchLemmas.{Onward, on_match, on_other, none_left}
use Rattle.index_read.proofs.MetLemmas.{Met, stand_same, stand_next}
use Rattle.index_read.proofs.distinct.met_matching.Invariants.{Meeting}
use Rattle.index_read.proofs.distinct.met_matching.Goals.{then-reached+in_ok-add, else-reached}
use Rattle.index_read.proofs.distinct.met_matching.Goals as goal

pub loop-next-init : goal.loop-next-init
loop-next-init g c =
    let b = c.args.index.now.nodes in
    let text = c.args.text.now in
    let s = c.in_ok-search.search in
    let w : Goes b text s c.in_ok-search.first []
    = goes b text (all_items b) s c.in_ok-search.first [] c.in_ok-search.ensures.finds
    (λ ps c. record { pairs = ps; chosen = c; found_is = refl }) in
    record {
      accepted = c.start.ensures.accepted;
      is = w.is;
      going = w.going;
      found = [];
      onward = w.onward;
      stand = subst (λ vs. StandFor vs []) (sym c.new-met.ensures.empty) (stand_same []);
      runs = c.new-met.ensures.runs b;
    }

pub loop-next-smaller : goal.loop-next-smaller
loop-next-smaller g c =
    let b = c.args.index.now.nodes in
    let text = c.args.text.now in
    let s = c.loop-next.search in
    let w
    = subst (λ o. Meeting b text s o c.loop-next.met) c.in-Some.is c.loop-next.invariant in
    let at = w.going in
    subst (λ o. to_do b c.next.new.self c.in_ok-next.next < to_do b s o) (sym c.in-Some.is)
    (fewer b text at.left s c.next.new.self c.in_ok-next.next at.searching
    (c.in_ok-next.ensures.finds text at.left at.searching))

pub loop-next-preserved : goal.loop-next-preserved
loop-next-preserved g c =
    let b = c.args.index.now.nodes in
    let text = c.args.text.now in
    let s = c.loop-next.search in
    let w
    = subst (λ o. Meeting b text s o c.loop-next.met) c.in-Some.is c.loop-next.invariant in
    let f = c.in-Some.reached in
    let at = w.going in
    let item : Item = (at.key, link_of f.node) in
    let before = subst (λ xs. Onward b text xs w.found) at.parts w.onward in
    let decided = at.decides in
    let after : Met b text at.left c.if-reached.met
    = elim c.if-reached.branch [
      | then-reached+in_ok-add v ↦ rw (v.met-is)
          (record {
            found = w.found ++ values b item.1;
            onward
                = on_match b text item at.left w.found (w.found ++ values b item.1) refl
                (decided.0 v.if-reached.true) before;
            stand
                = stand_next (kept v.add.new.self) (kept c.loop-next.met) w.found (values b item.1)
                v.in_ok-add.ensures.stand w.stand;
            runs = v.in_ok-add.ensures.runs;
          })
      | else-reached v ↦ rw (v.met-is)
          (record {
            found = w.found;
            onward
                = on_other b text item at.left w.found
                (inl (λ m. false≢true (sym v.if-reached.false ∙ decided.1 m))) before;
            stand = w.stand;
            runs = w.runs;
          })
    ] in
    let on
    = goes b text at.left c.next.new.self c.in_ok-next.next after.found
    (c.in_ok-next.ensures.finds text at.left at.searching) after.onward in
    record {
      accepted = w.accepted;
      is = on.is;
      going = on.going;
      found = after.found;
      onward = on.onward;
      stand = after.stand;
      runs = after.runs;
    }

pub returns : goal.returns
returns g c =
    let b = c.args.index.now.nodes in
    let text = c.args.text.now in
    let w
    = subst (λ o. Meeting b text c.loop-next.search o c.loop-next.met) c.in_default.is
    c.loop-next.invariant in
    let f = none_left b text w.is w.found w.going w.onward in
    subst (StandFor (kept c.loop-next.met)) (f.found_is ∙ all_matching b text f.pairs f.chosen)
    w.stand
