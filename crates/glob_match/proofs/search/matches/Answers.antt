use Rattle.glob_match.proofs.MatchLemmas.{decided}
use Rattle.glob_match.proofs.search.matches.Goals as goal

pub returns-clause-test : goal.returns-clause-test
returns-clause-test c = decided c.search.result c.args.pattern.now c.args.text.now c.search.ensures
