use Rattle.std.proofs.Common.{sym, subst, arith, true, ◌≡◌, drop, nat_lt}
use Rattle.std.specs.List.{list_all}
use Rattle.index_write.specs.Lists.{shown_values}
use Rattle.index_write.proofs.KeyLemmas.{place_found, place_front, place_before, inside_list}
use Rattle.index_write.proofs.lists.place_for.Goals as goal

pub loop-at-preserved : goal.loop-at-preserved
loop-at-preserved c = record {
  within = omega (arith, c.loop-at.invariant.within);
  greater
      = place_before c.args.list.now c.loop-at.at c.args.priority c.index-list-at.result
      c.loop-at-test.true (inside_list c.args.list.now c.loop-at.at c.loop-at.invariant.within)
      c.if-list-at.true c.loop-at.invariant.greater;
}

pub returns-else-list-at-clause-place : goal.returns-else-list-at-clause-place
returns-else-list-at-clause-place c = λ v e.
    place_found c.args.list.now c.loop-at.at c.index-list-at.result v c.loop-at-test.true
    (inside_list c.args.list.now c.loop-at.at c.loop-at.invariant.within)
    (omega (arith, e, c.if-list-at.false))
    (subst (λ p. list_all (λ x. nat_lt p x.0) (drop c.loop-at.at (shown_values c.args.list.now))
    ≡ true) (sym e) c.loop-at.invariant.greater)

pub returns-after-loop-at-clause-place : goal.returns-after-loop-at-clause-place
returns-after-loop-at-clause-place c = λ v e.
    place_front c.args.list.now c.loop-at.at v c.loop-at-test.false
    (subst (λ p. list_all (λ x. nat_lt p x.0) (drop c.loop-at.at (shown_values c.args.list.now))
    ≡ true) (sym e) c.loop-at.invariant.greater)
