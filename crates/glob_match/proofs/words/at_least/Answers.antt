use Rattle.glob_match.proofs.WordLemmas.{least_bitmask}
use Rattle.glob_match.proofs.words.at_least.Goals as goal

pub returns : goal.returns
returns c = least_bitmask c.args.bytes c.args.low c.fits-bytes.0
