use Rattle.glob_match.proofs.WordLemmas.{both_lanes}
use Rattle.glob_match.proofs.words.in_range.Goals as goal

pub returns : goal.returns
returns c i lt =
    both_lanes c.args.bytes.now c.args.low c.args.high i c.at_least.result c.at_most.result lt
    c.requires c.at_least.ensures c.at_most.ensures
