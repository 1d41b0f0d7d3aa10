use Rattle.std.proofs.Common.{◌≡◌, ◌∙◌}
use Rattle.param_apply.specs.Naming.{parameters_of}
use Rattle.param_apply.specs.Words.{settings}
use Rattle.param_apply.proofs.ApplyLemmas.{numbers-within}
use Rattle.param_apply.proofs.apply.with_options.Goals as goal

pub written-requires-clause-numbers : goal.written-requires-clause-numbers
written-requires-clause-numbers c =
    numbers-within (parameters_of c.args.params.now) c.deref.result.now c.args.options.now
    (c.deref.ensures.value ∙ c.in_ok-settings.ensures)

pub returns-clause-image : goal.returns-clause-image
returns-clause-image c =
    let stated : c.deref.result.now
    ≡ settings (parameters_of c.args.params.now) c.args.options.now
    = c.deref.ensures.value ∙ c.in_ok-settings.ensures in
    rw (← stated) c.written.ensures.image

pub returns-clause-count : goal.returns-clause-count
returns-clause-count c =
    let stated : c.deref.result.now
    ≡ settings (parameters_of c.args.params.now) c.args.options.now
    = c.deref.ensures.value ∙ c.in_ok-settings.ensures in
    rw (← stated) c.written.ensures.count

pub returns-clause-passed : goal.returns-clause-passed
returns-clause-passed c =
    let stated : c.deref.result.now
    ≡ settings (parameters_of c.args.params.now) c.args.options.now
    = c.deref.ensures.value ∙ c.in_ok-settings.ensures in
    rw (← stated) c.written.ensures.passed

pub returns-clause-fault : goal.returns-clause-fault
returns-clause-fault c =
    let stated : c.deref.result.now
    ≡ settings (parameters_of c.args.params.now) c.args.options.now
    = c.deref.ensures.value ∙ c.in_ok-settings.ensures in
    rw (← stated) c.written.ensures.fault
