use Rattle.std.proofs.Common.{◌≡◌, None, ap, sym, ◌∙◌}
use Rattle.elf_object.specs.Object.{file_object}
use Rattle.km_names.specs.First.{first}
use Rattle.module_facts.specs.declared.facts.Facts.{Facts}
use Rattle.module_facts.specs.Facts.{object_facts}
use Rattle.module_facts.specs.Faults.{facts_tests}
use Rattle.module_facts.proofs.FaultLemmas.{IsModule-read, fact_fault-none, object_facts-path}
use Rattle.module_facts.proofs.SoundLemmas.{IsSound-passed}
use Rattle.module_facts.proofs.read.read_module.Goals as goal

pub invariant_of-result : goal.invariant_of-result
invariant_of-result c =
    let path = c.args.path.now in
    let bytes = c.args.bytes in
    let o = c.in_ok-object.object in
    let f = c.in_ok-facts.facts in
    let object = c.in_ok-object.ensures.object in
    let facts = c.in_ok-facts.ensures.facts in
    let tests : first (facts_tests o (object_facts path o)) ≡ None = c.in_ok-facts.ensures.passed in
    let passed : first (facts_tests (file_object bytes) (object_facts path (file_object bytes)))
    ≡ None
    = rw object at tests in
    record {
      valid
          = IsModule-read path bytes o f object facts
          (fact_fault-none path bytes (sym c.is_compressed.ensures ∙ c.if-is_compressed.false)
          c.in_ok-object.ensures.passed passed);
      sound = IsSound-passed path o f facts (ap (λ x. first (facts_tests o x)) facts ∙ tests);
    }

pub returns-clause-path : goal.returns-clause-path
returns-clause-path c =
    ap (λ (f : Facts). f.path) c.in_ok-facts.ensures.facts
    ∙ object_facts-path c.args.path.now c.in_ok-object.object
