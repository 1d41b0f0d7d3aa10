use Rattle.std.proofs.Common.{◌+◌, ◌-◌, vec_len}
use Rattle.index_nodes.specs.ValueStarts.{AreValueStarts}
use Rattle.index_nodes.proofs.value_starts.ValueStarts.are_whole.Given as goal

abbrev pub invariant-loop-self : goal.invariant-loop-self
invariant-loop-self l = AreValueStarts l.bytes l.self

abbrev pub decreases-loop-self : goal.decreases-loop-self
decreases-loop-self l = l.count + 1 - vec_len l.self.last
