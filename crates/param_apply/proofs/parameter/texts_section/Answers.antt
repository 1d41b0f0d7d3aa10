use Rattle.param_apply.proofs.ParameterLemmas.{modinfo-some, modinfo-none}
use Rattle.param_apply.proofs.parameter.texts_section.Goals as goal
use Rattle.std.proofs.Common.{sym}

pub returns-in-Some : goal.returns-in-Some
returns-in-Some c =
    modinfo-some c.args.object.now c.in-Some.i c.section_bytes.result.now
    (sym c.in-Some.ensures.first) c.in-Some.ensures.within c.section_bytes.ensures.bytes

pub returns-in-None : goal.returns-in-None
returns-in-None c = modinfo-none c.args.object.now (sym c.in-None.ensures.first)
