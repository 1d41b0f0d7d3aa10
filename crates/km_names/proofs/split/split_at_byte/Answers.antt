use Rattle.std.proofs.Common.{◌∙◌, ◌+◌, length, arith}
use Rattle.std.proofs.lemmas.List.{take_rest, drop_all}
use Rattle.km_names.proofs.Ends.{before_first-found, before_first-none, after_first-found}
use Rattle.km_names.proofs.Ends.{after_first-none}
use Rattle.km_names.proofs.split.split_at_byte.Goals as goal

pub returns-in-Some-clause-before : goal.returns-in-Some-clause-before
returns-in-Some-clause-before c = before_first-found _ _ _ c.in-Some.ensures

pub returns-in-Some-clause-after : goal.returns-in-Some-clause-after
returns-in-Some-clause-after c =
    take_rest c.args.bytes.now (c.in-Some.place + 1) ∙ after_first-found _ _ _ c.in-Some.ensures

pub returns-in-None-clause-before : goal.returns-in-None-clause-before
returns-in-None-clause-before c = before_first-none _ _ c.in-None.ensures

pub returns-in-None-clause-after : goal.returns-in-None-clause-after
returns-in-None-clause-after c =
    let bytes = c.args.bytes.now in
    take_rest bytes (length bytes) ∙ drop_all (length bytes) bytes (omega arith)
    ∙ after_first-none _ _ c.in-None.ensures
