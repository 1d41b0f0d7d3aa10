use Rattle.std.proofs.Common.{◌∙◌}
use Rattle.km_names.proofs.NumberSums.{big_number-rest}
use Rattle.km_names.proofs.numbers.be_u32_at.Goals as goal

pub returns : goal.returns
returns c = c.read_u32.ensures ∙ big_number-rest 4 c.args.at c.args.bytes.now
