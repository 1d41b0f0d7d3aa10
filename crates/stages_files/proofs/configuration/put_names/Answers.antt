use Rattle.std.proofs.Common.{ap, ◌∙◌, take, ◌∷◌, []}
use Rattle.std.specs.FinMap as fin
use Rattle.stages_files.specs.Configuration.{with_names}
use Rattle.stages_files.proofs.ConfigurationSteps.{names-more, one-more, all-names}
use Rattle.stages_files.proofs.configuration.put_names.Goals as goal

pub loop-name-init : goal.loop-name-init
loop-name-init c = λ files before. before

pub loop-name-preserved : goal.loop-name-preserved
loop-name-preserved c = λ files before.
    let folder = c.args.folder.now.path in
    let names = c.args.folder.now.names in
    let i = c.loop-name.name-index in
    c.in_ok-put_name.ensures (with_names folder (take i names) files)
    (c.loop-name.invariant files before)
    ∙ ap (λ n. fin.entries (with_names folder (n ∷ []) (with_names folder (take i names) files)))
    c.as_bytes.ensures
    ∙ ap fin.entries (names-more folder (take i names) c.name-item.result files)
    ∙ ap (λ ns. fin.entries (with_names folder ns files))
    (one-more _ names i c.name-item.result c.as_slice-name-items.ensures c.loop-name-test.true
    c.name-item.is)

pub returns : goal.returns
returns c = λ files before.
    c.loop-name.invariant files before
    ∙ ap (λ ns. fin.entries (with_names c.args.folder.now.path ns files))
    (all-names _ c.args.folder.now.names c.loop-name.name-index c.as_slice-name-items.ensures
    c.loop-name-test.false)
