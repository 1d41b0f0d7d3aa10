use Rattle.std.proofs.Common.{ap, sym, subst, ◌∙◌}
use Rattle.std.specs.Prelude.{Err}
use Rattle.provider_rel.specs.Faces.{kernel_of}
use Rattle.depmod_core.specs.declared.files.OutputFiles.{OutputFiles}
use Rattle.depmod_core.specs.Files.{files}
use Rattle.km_course.specs.Follows.{Answers}
use Rattle.command_depmod.specs.Outputs.{outputs_outcome}
use Rattle.command_depmod.proofs.OutputSteps.{made_ok, made_not}
use Rattle.command_depmod.proofs.outputs.check_outputs.Goals as goal

pub outputs-requires : goal.outputs-requires
outputs-requires c =
    record {
      tree = c.requires.tree;
      relation = (kernel_of c.args.tree.now.kernel, c.requires.relation);
    }

pub returns-in-Ok : goal.returns-in-Ok
returns-in-Ok c =
    let kernel = kernel_of c.args.tree.now.kernel in
    ap (λ bytes. outputs_outcome (files c.args.tree.now.facts kernel bytes))
    (sym c.as_bytes.ensures)
    ∙ made_ok c.args.tree.now.facts kernel c.as_bytes.result.now c.in-Ok.made
    (c.in-Ok.ensures.ok kernel c.requires.relation)

pub returns-in-Err-OutputTooLarge : goal.returns-in-Err-OutputTooLarge
returns-in-Err-OutputTooLarge c =
    let tree = c.args.tree.now in
    let kernel = kernel_of tree.kernel in
    let fault = c.in-Err-OutputTooLarge in
    subst (λ stop. Answers (λ (x : OutputFiles). x)
    (outputs_outcome (files tree.facts kernel c.args.builtin.now)) (Err stop))
    (sym c.from.ensures)
    (ap (λ bytes. outputs_outcome (files tree.facts kernel bytes)) (sym c.as_bytes.ensures)
    ∙ made_not tree.facts kernel tree.relation c.as_bytes.result.now fault.field-0 fault.file
    fault.field-0-1 fault.field-0-is fault.ensures.err c.requires.relation)
