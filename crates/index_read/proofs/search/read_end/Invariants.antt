use Rattle.std.proofs.Common.{◌-◌}
use Rattle.index_read.proofs.ReadLemmas.{Reading}
use Rattle.index_read.proofs.search.read_end.Given as goal

abbrev pub invariant-loop-at : goal.invariant-loop-at
invariant-loop-at l = Reading l.fn.progress l.progress l.file l.start l.at l.end

abbrev pub decreases-loop-at : goal.decreases-loop-at
decreases-loop-at l = l.end - l.at
