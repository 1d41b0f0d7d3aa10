use Rattle.param_apply.proofs.NameLemmas.{where-ok-value}
use Rattle.param_apply.proofs.words.named_params.Goals as goal

pub returns : goal.returns
returns c =
    where-ok-value c.params_of_names.result c.params_of_names.ensures
    (λ t made. made c.args.words.now c.in_ok-names.ensures)
