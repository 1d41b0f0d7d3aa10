use Rattle.std.proofs.Common.{◌∙◌}
use Rattle.km_names.proofs.NumberSums.{little_number-rest}
use Rattle.km_names.proofs.numbers.le_u16_at.Goals as goal

pub returns : goal.returns
returns c = c.read_u16.ensures ∙ little_number-rest 2 c.args.at c.args.bytes.now
