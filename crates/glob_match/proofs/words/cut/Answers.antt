use Rattle.std.proofs.Common.{arith}
use Rattle.std.proofs.lemmas.List.{length-set}
use Rattle.glob_match.proofs.WordLemmas.{cut_bits}
use Rattle.glob_match.proofs.words.cut.Goals as goal

pub returns : goal.returns
returns c test h k i lt low =
    cut_bits c.args.words.now c.args.last test h c.requires k i
    (omega (arith, lt, length-set c.args.words.now)) low
