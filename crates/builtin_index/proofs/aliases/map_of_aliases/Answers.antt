use Rattle.builtin_index.proofs.MapOrder.{map-more}
use Rattle.builtin_index.proofs.aliases.map_of_aliases.Goals as goal

pub loop-stated-preserved : goal.loop-stated-preserved
loop-stated-preserved c =
    map-more c.args.list.now c.loop-stated.stated-index _ c.loop-stated.key_map _
    c.loop-stated-test.true c.loop-stated.invariant c.in_ok-add_alias.ensures
