use Rattle.std.proofs.Common.{sym, subst, ◌∙◌, ◌<◌, ◌++◌, length}
use Rattle.index_format.specs.Node.{values}
use Rattle.index_nodes.specs.Fields.{link_of}
use Rattle.index_nodes.specs.Places.{IsPlaceOf}
use Rattle.std.specs.Prelude.{IfSome}
use Rattle.index_read.specs.Met.{IsMetRun, StandFor, kept}
use Rattle.index_read.proofs.PlaceValues.{values_at_place}
use Rattle.index_read.proofs.MetLemmas.{is_after, fewer_after, stand_after}
use Rattle.index_read.proofs.met.MetValues.add.Goals as goal

pub loop-next-smaller-in-Some-2 : goal.loop-next-smaller-in-Some-2
loop-next-smaller-in-Some-2 c =
    let b = c.args.nodes.now in
    let place = subst (λ o. IfSome o (IsPlaceOf b)) c.in-Some.is c.loop-next.invariant.place in
    let run
    = subst (λ o. IfSome o (IsMetRun b (kept c.loop-next.self))) c.in-Some-2.is
    c.in_ok-run.ensures.run in
    let after
    = is_after b c.in-Some.at c.in-Some-2.run' c.value_after-next.result
    c.value_after-next.ensures.none c.value_after-next.ensures.some in
    subst (λ o. length (values_at_place b c.value_after-next.result) < length (values_at_place b o))
    (sym c.in-Some.is)
    (fewer_after b c.in-Some.at c.in-Some-2.run' c.value_after-next.result place run.run after)

pub loop-next-preserved-in-Some-2 : goal.loop-next-preserved-in-Some-2
loop-next-preserved-in-Some-2 c =
    let b = c.args.nodes.now in
    let run
    = subst (λ o. IfSome o (IsMetRun b (kept c.loop-next.self))) c.in-Some-2.is
    c.in_ok-run.ensures.run in
    let after
    = is_after b c.in-Some.at c.in-Some-2.run' c.value_after-next.result
    c.value_after-next.ensures.none c.value_after-next.ensures.some in
    let old = kept c.loop-next.self in
    let want = kept c.args.self.now ++ values b (link_of c.args.node.now) in
    let stand
    = subst (λ o. StandFor (old ++ values_at_place b o) want) c.in-Some.is
    c.loop-next.invariant.stand in
    record {
      runs = c.in_ok-run.ensures.runs;
      stand
          = subst (λ ks. StandFor (ks ++ values_at_place b c.value_after-next.result) want)
          (sym c.in_ok-run.ensures.kept)
          (λ more.
          stand_after b old c.in-Some.at c.in-Some-2.run' c.value_after-next.result run.among after
          more ∙ stand more);
      place = c.value_after-next.ensures.place;
    }
