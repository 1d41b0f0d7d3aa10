use Rattle.std.proofs.Common.{ap, ◌∙◌, sym, arith, subst, ◌++◌, drop, length, ◌-◌, length-take}
use Rattle.std.proofs.Math.ListN.{length-drop}
use Rattle.std.proofs.lemmas.List.{drop-drop}
use Rattle.index_format.specs.Tree.{groups}
use Rattle.index_write.specs.Groups.{at_depth, groups_of, AllGoOn}
use Rattle.index_write.proofs.NodeLemmas.{ended-goes_on, groups-ended_drop, AllGoOn-drop}
use Rattle.index_write.proofs.NodeLemmas.{rest-shown, so_far-next}
use Rattle.index_write.proofs.node.push_groups.Goals as goal

pub loop-group-init : goal.loop-group-init
loop-group-init c =
    let all = at_depth c.args.depth c.args.entries.now in
    let before = groups_of c.args.pending.now.items in
    record {
      within = c.ended-from.ensures.within;
      go_on
          = subst (λ n. AllGoOn (drop n all)) (sym c.ended-from.ensures.count)
          (ended-goes_on all c.requires);
      so_far
          = ap (λ n. before ++ groups (drop n all)) c.ended-from.ensures.count
          ∙ ap (λ gs. before ++ gs) (groups-ended_drop all);
    }

pub first_group-requires : goal.first_group-requires
first_group-requires c =
    subst AllGoOn (sym (rest-shown c.args.depth c.loop-group.from c.args.entries.now))
    c.loop-group.invariant.go_on

pub loop-group-preserved : goal.loop-group-preserved
loop-group-preserved c =
    let all = at_depth c.args.depth c.args.entries.now in
    record {
      within
          = omega (
            arith,
            c.in-Some.ensures.within,
            c.loop-group.invariant.within,
            length-take (length c.args.entries.now - c.loop-group.from)
                (drop c.loop-group.from c.args.entries.now),
            length-drop c.loop-group.from c.args.entries.now,
          );
      go_on
          = subst AllGoOn (drop-drop c.in-Some.count c.loop-group.from all)
          (AllGoOn-drop c.in-Some.count (drop c.loop-group.from all)
          c.loop-group.invariant.go_on);
      so_far
          = so_far-next _ c.loop-group.pending.items c.push.new.self.items c.in-Some.group
          c.args.depth c.loop-group.from c.in-Some.count c.args.entries.now
          c.loop-group.invariant.so_far c.in_ok-push.ensures.items c.in-Some.ensures.some;
    }
