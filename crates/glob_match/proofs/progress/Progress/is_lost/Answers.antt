use Rattle.std.proofs.Common.{subst, false}
use Rattle.glob_match.specs.Words.{HasBits}
use Rattle.glob_match.proofs.ReadLemmas.{lost}
use Rattle.glob_match.proofs.progress.Progress.is_lost.Goals as goal

pub returns : goal.returns
returns c text pattern over s yes_lost rest m =
    let p = c.args.self.now in
    lost text pattern p.state.first p.state.reached.items p.state.listed.items p.place s
    (subst (λ ws. HasBits ws (λ n. false)) c.deref.ensures.value (c.is_empty.ensures yes_lost))
    rest m
