use Rattle.std.proofs.Common.{◌≤◌, sym, subst}
use Rattle.std.specs.Prelude.{IfSome}
use Rattle.std.proofs.lemmas.Result.{IfOk-weaker}
use Rattle.kmod_words.specs.Trial.{trial_command}
use Rattle.kmod_words.specs.Understood.{understood}
use Rattle.kmod_words.proofs.TrialLemmas.{asked-range}
use Rattle.kmod_words.proofs.trial.read_trial.Goals as goal

pub returns-clause-range : goal.returns-clause-range
unfolding trial_command
returns-clause-range c =
    IfOk-weaker c.read_request.result _ _
    (λ request is. subst (λ asked. IfSome asked (λ words. (1 ≤ words.count) × (words.count ≤ 2000)))
    (sym is) (asked-range (understood trial_command c.args.words.now)))
    c.read_request.ensures
