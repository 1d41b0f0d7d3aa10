use Rattle.glob_match.proofs.ReadLemmas.{begun}
use Rattle.glob_match.proofs.progress.Progress.new.Goals as goal

pub returns-clause-read : goal.returns-clause-read
returns-clause-read c =
    begun c.args.text.now _ _ (c.in_ok-vec.ensures.items_if_clones_equal (λ y e. e))
