use Rattle.std.proofs.Common.{ap, map}
use Rattle.name_table.specs.Keys.{name_of}
use Rattle.builtin_index.proofs.seen.Seen.new.Goals as goal

pub returns-clause-seen : goal.returns-clause-seen
returns-clause-seen c = record { names = ap (map name_of) c.with_hasher.ensures.empty; last = tt }
