use Rattle.std.proofs.Common.{ap, ◌∙◌, unwrap_or}
use Rattle.stated_texts.proofs.TextSteps.{kept-bytes}
use Rattle.stated_texts.proofs.text.Text.into_bytes.Goals as goal

pub returns : goal.returns
returns c bytes is =
    c.unwrap_or.ensures ∙ ap (λ o. unwrap_or o c.new.result) (kept-bytes c.args.self bytes is)
