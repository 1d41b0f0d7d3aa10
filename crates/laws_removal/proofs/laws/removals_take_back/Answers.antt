use Rattle.laws_removal.proofs.BackLemmas.{older-left, removals-take-back}
use Rattle.laws_removal.proofs.laws.removals_take_back.Goals as goal

pub returns-clause-older : goal.returns-clause-older
returns-clause-older c = older-left

pub returns-clause-back : goal.returns-clause-back
returns-clause-back c = removals-take-back
