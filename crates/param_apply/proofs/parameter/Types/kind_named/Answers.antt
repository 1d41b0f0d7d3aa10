use Rattle.std.proofs.Common.{ap, ◌∙◌}
use Rattle.std.specs.Prelude.{option_and_then, slice_get}
use Rattle.param_apply.specs.Kinds.{kind_of}
use Rattle.modinfo_fields.specs.Fields.{parameter_of, description_of}
use Rattle.param_apply.specs.Words.{kind_named}
use Rattle.param_apply.proofs.NameLemmas.{place-named}
use Rattle.param_apply.proofs.parameter.Types.kind_named.Goals as goal

pub returns : goal.returns
unfolding kind_named
returns c =
    c.kind_at.ensures
    ∙ ap (λ o. option_and_then (λ text. kind_of (description_of text))
    (option_and_then (slice_get c.args.self.now.texts) o))
    (c.in_ok-place.ensures
    ∙ place-named c.args.self.now.names parameter_of c.args.self.now.texts c.args.name.now
    c.args.self.now.named)
