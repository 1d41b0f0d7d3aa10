use Rattle.std.proofs.Common.{◌≡◌, ℕ, List, None, ap, ◌∙◌, Result, Ok, Err, IfOk, OnOk}
use Rattle.std.proofs.lemmas.Result.{IfOk-weaker}
use Rattle.km_names.specs.First.{first}
use Rattle.elf_object.specs.Object.{FileObject}
use Rattle.module_facts.specs.declared.facts.Facts.{Facts}
use Rattle.module_facts.specs.Facts.{object_facts}
use Rattle.module_facts.specs.Faults.{facts_tests}
use Rattle.module_facts.specs.Module.{IsSound}
use Rattle.module_facts.proofs.FaultLemmas.{object_facts-path}
use Rattle.module_facts.proofs.SoundLemmas.{IsSound-passed}
use Rattle.module_facts.proofs.read.read_facts.Goals as goal

pub returns-clause-path : goal.returns-clause-path
returns-clause-path c =
    let path = c.args.path.now in
    let o = c.in_ok-object.object in
    IfOk-weaker c.checked_facts.result (λ facts. facts ≡ object_facts path o)
    (λ facts. facts.path ≡ path)
    (λ facts is. ap (λ (f : Facts). f.path) is ∙ object_facts-path path o)
    c.checked_facts.ensures.facts

-- facts that passed their tests are sound
sound : {E : Type 0} (path : List ℕ) (o : FileObject) (r : Result Facts E)
    → IfOk r (λ f. f ≡ object_facts path o)
    → OnOk r (first (facts_tests o (object_facts path o)) ≡ None) → IfOk r (IsSound o)
sound path o (Ok f) is passed =
    IsSound-passed path o f is (ap (λ x. first (facts_tests o x)) is ∙ passed)
sound path o (Err e) is passed = tt

pub returns-clause-sound : goal.returns-clause-sound
returns-clause-sound c =
    let object = c.in_ok-object.ensures.object in
    rw object at (sound c.args.path.now c.in_ok-object.object c.checked_facts.result
    c.checked_facts.ensures.facts c.checked_facts.ensures.passed)
