use Rattle.std.proofs.Common.{◌≡◌, subst, OnOk}
use Rattle.stated_texts.specs.Text.{with_piece}
use Rattle.stated_texts.proofs.StatedSteps.{symbol-line}
use Rattle.stated_texts.proofs.stated.put_line.Goals as goal

pub returns-in-Symbol : goal.returns-in-Symbol
returns-in-Symbol c =
    subst (λ bytes. OnOk c.put_all-in-Symbol.result
    (c.put_all-in-Symbol.new.self ≡ with_piece c.args.text.now bytes))
    (symbol-line c.args.kind c.args.stated.now c.args.name.now c.in-Symbol.is)
    c.put_all-in-Symbol.ensures
