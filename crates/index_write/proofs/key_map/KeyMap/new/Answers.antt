use Rattle.std.proofs.Common.{ap, ◌∙◌}
use Rattle.index_write.specs.Lists.{map_of}
use Rattle.index_write.proofs.KeyLemmas.{map_of-nothing}
use Rattle.index_write.proofs.key_map.KeyMap.new.Goals as goal

pub returns : goal.returns
returns c = ap map_of c.new.ensures.empty ∙ map_of-nothing
