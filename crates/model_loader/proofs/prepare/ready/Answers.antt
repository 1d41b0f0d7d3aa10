use Rattle.std.proofs.Common.{◌≡◌, ◌⊎◌, Some, None}
use Rattle.std.proofs.lemmas.Result.{IfErr-weaker, err_from_is_err_and, on_ok_weaker}
use Rattle.km_names.specs.First.{first}
use Rattle.load_fault.specs.declared.fault.LoadFault.{LoadFault}
use Rattle.load_fault.specs.declared.fault.LoadFault.TheVariants.{Memory}
use Rattle.model_loader.specs.Machine.{Machine}
use Rattle.model_loader.specs.Parts.{HasParts}
use Rattle.model_loader.specs.Step.{placement_tests, refusal}
use Rattle.model_loader.proofs.StepLemmas.{refusal-name, refusal-place, refusal-none}
use Rattle.model_loader.proofs.prepare.ready.Goals as goal

pub returns-in_err-check_names-clause-fault : goal.returns-in_err-check_names-clause-fault
returns-in_err-check_names-clause-fault c =
    let p = err_from_is_err_and c.from_residual.result c.from_residual.ensures.1 in
    rw (p.1, p.2) (λ machine parts. refusal-name machine c.args.module.now _
    (c.in_err-check_names.ensures.fault machine parts.entries_are parts.keeps))

pub returns-clause-passed : goal.returns-clause-passed
returns-clause-passed c =
    on_ok_weaker
    {P = (machine : Machine)
    → HasParts machine c.args.region.now c.args.entries.now c.args.table.now
    → first (placement_tests machine c.args.module.now) ≡ None}
    {Q = (machine : Machine)
    → HasParts machine c.args.region.now c.args.entries.now c.args.table.now
    → refusal machine c.args.module.now ≡ None} c.prepare.result
    (λ passed machine parts. refusal-none machine c.args.module.now
    (c.in_ok-check_names.ensures.passed machine parts.entries_are parts.keeps)
    (passed machine parts))
    c.prepare.ensures.passed

pub returns-clause-fault : goal.returns-clause-fault
returns-clause-fault c =
    let m = c.args.module.now in
    IfErr-weaker c.prepare.result
    (λ (e : LoadFault). (machine : Machine)
    → HasParts machine c.args.region.now c.args.entries.now c.args.table.now
    → (e ≡ Memory) ⊎ (first (placement_tests machine m) ≡ Some e))
    (λ (e : LoadFault). (machine : Machine)
    → HasParts machine c.args.region.now c.args.entries.now c.args.table.now
    → (e ≡ Memory) ⊎ (refusal machine m ≡ Some e))
    (λ e is machine parts. refusal-place machine m e
    (c.in_ok-check_names.ensures.passed machine parts.entries_are parts.keeps)
    (is machine parts))
    c.prepare.ensures.fault
