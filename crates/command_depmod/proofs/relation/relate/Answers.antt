use Rattle.provider_rel.specs.Faces.{kernel_of}
use Rattle.command_depmod.proofs.RelationSteps.{related_ok, related_not}
use Rattle.command_depmod.proofs.relation.relate.Goals as goal

pub returns-in-Ok-clause-answers : goal.returns-in-Ok-clause-answers
returns-in-Ok-clause-answers c =
    related_ok (record { facts = c.args.facts; kernel = kernel_of c.args.kernel })
    c.in-Ok.ensures.passed

pub returns-in-Ok-clause-related : goal.returns-in-Ok-clause-related
returns-in-Ok-clause-related c = record { tree = c.requires; relation = c.in-Ok.ensures.ok }

pub returns-in-Err-clause-answers : goal.returns-in-Err-clause-answers
returns-in-Err-clause-answers c =
    related_not (record { facts = c.args.facts; kernel = kernel_of c.args.kernel }) c.in-Err.fault
    c.refused.result c.in-Err.ensures.err c.refused.ensures
