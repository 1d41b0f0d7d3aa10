use Rattle.std.proofs.Common.{length}
use Rattle.module_symbols.proofs.work.long_string_bytes.Given as goal

abbrev pub decreases-loop-rest : goal.decreases-loop-rest
decreases-loop-rest l = length l.rest
