use Rattle.std.proofs.Common.{sym, subst, ◌∙◌, arith}
use Rattle.std.specs.Prelude.{Err}
use Rattle.elf_object.specs.Object.{file_object}
use Rattle.module_facts.specs.declared.facts.Facts.{Facts}
use Rattle.module_facts.specs.Faults.{fact_fault}
use Rattle.km_course.specs.Follows.{Answers}
use Rattle.command_depmod.specs.Modules.{facts_outcome}
use Rattle.command_depmod.proofs.ModuleSteps.{checked_ok, checked_not, facts-at}
use Rattle.command_depmod.proofs.modules.check_facts.Goals as goal

pub returns-in-Ok-clause-answers : goal.returns-in-Ok-clause-answers
returns-in-Ok-clause-answers c =
    checked_ok c.args.path.now c.args.bytes.now c.in-Ok.facts _ c.in-Ok.ensures.facts
    c.in-Ok.ensures.passed

pub returns-in-Ok-clause-facts : goal.returns-in-Ok-clause-facts
returns-in-Ok-clause-facts c =
    facts-at c.args.path.now c.args.bytes.now (file_object c.args.bytes.now) c.in-Ok.facts
    c.in-Ok.ensures.facts c.in-Ok.ensures.path c.in-Ok.ensures.sound

pub returns-clause-answers : goal.returns-clause-answers
returns-clause-answers c =
    let at = c.args.path.now in
    subst (λ stop. Answers (λ (x : Facts). x)
    (facts_outcome at c.args.bytes.now (fact_fault at c.args.bytes.now)) (Err stop))
    (sym c.from.ensures)
    (checked_not at c.args.bytes.now c.in_ok-text-in-Compressed.text c.in_ok-path-in-Compressed.path
    _ c.in-Err.fault c.in-Err.ensures.fault
    (λ ran_out. let is = c.in-Compressed.is in grind arith)
    c.in_ok-text-in-Compressed.ensures
    (c.in_ok-path-in-Compressed.ensures ∙ c.as_bytes.ensures))
