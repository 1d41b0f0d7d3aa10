use Rattle.std.proofs.Common.{◌≡◌, true, false, ◌∷◌, [], ltb, length, None, ap, sym, ◌∙◌, inl, inr}
use Rattle.std.proofs.Common.{arith}
use Rattle.std.proofs.lemmas.Bool.{le-ltb}
use Rattle.std.proofs.lemmas.Result.{err_from_is_err_and}
use Rattle.km_names.specs.First.{first}
use Rattle.elf_sections.specs.Shape.{fault_if}
use Rattle.module_facts.specs.declared.fault.ModuleFault.TheVariants.{BadVersions}
use Rattle.module_facts.specs.Faults.{has_bad_versions, has_good_names, space_test, twice_test}
use Rattle.module_facts.specs.Faults.{undefined_test}
use Rattle.module_facts.proofs.FaultLemmas.{facts_tests-last, facts_tests-rest}
use Rattle.module_facts.proofs.checks.check_facts.Goals as goal

pub returns-in_err-check_defined-clause-fault : goal.returns-in_err-check_defined-clause-fault
returns-in_err-check_defined-clause-fault c =
    let o = c.args.object.now in
    let f = c.args.facts.now in
    let exports = c.as_slice-exports.ensures in
    let short : ltb 55 (length f.name) ≡ false
    = le-ltb 55 (length f.name) (omega (arith, c.len.ensures)) in
    let good : has_good_names f ≡ true
    = sym c.has_good_names.ensures ∙ c.if-not-has_good_names.false in
    let once : twice_test f.exports ≡ None = rw exports at c.in_ok-check_once.ensures.passed in
    let p
    = err_from_is_err_and c.from_residual-in_err-check_defined.result
    c.from_residual-in_err-check_defined.ensures.1 in
    rw (p.1, p.2)
    (elim c.in_err-check_defined.ensures.fault [
      | inl memory ↦ inl memory
      | inr failed ↦
          inr
          (facts_tests-rest o f short good
          ∙ ap (λ t. first
          (t ∷ undefined_test o f.exports ∷ fault_if (has_bad_versions o f.exports) BadVersions
          ∷ space_test o f.exports ∷ [])) once
          ∙ ap (λ t. first
          (t ∷ fault_if (has_bad_versions o f.exports) BadVersions ∷ space_test o f.exports
          ∷ [])) (rw exports at failed))
    ])

pub returns-then-has_bad_versions-clause-fault :
    goal.returns-then-has_bad_versions-clause-fault
returns-then-has_bad_versions-clause-fault c =
    let o = c.args.object.now in
    let f = c.args.facts.now in
    let exports = c.as_slice-exports.ensures in
    let short : ltb 55 (length f.name) ≡ false
    = le-ltb 55 (length f.name) (omega (arith, c.len.ensures)) in
    let good : has_good_names f ≡ true
    = sym c.has_good_names.ensures ∙ c.if-not-has_good_names.false in
    let once : twice_test f.exports ≡ None = rw exports at c.in_ok-check_once.ensures.passed in
    let defined : undefined_test o f.exports ≡ None
    = rw exports at c.in_ok-check_defined.ensures.passed in
    let bad : has_bad_versions o f.exports ≡ true
    = rw exports at (sym c.has_bad_versions.ensures ∙ c.if-has_bad_versions.true) in
    inr (facts_tests-last o f short good once defined
    ∙ ap (λ b. first (fault_if b BadVersions ∷ space_test o f.exports ∷ [])) bad)

pub returns-in_err-check_spaces-clause-fault : goal.returns-in_err-check_spaces-clause-fault
returns-in_err-check_spaces-clause-fault c =
    let o = c.args.object.now in
    let f = c.args.facts.now in
    let exports = c.as_slice-exports.ensures in
    let short : ltb 55 (length f.name) ≡ false
    = le-ltb 55 (length f.name) (omega (arith, c.len.ensures)) in
    let good : has_good_names f ≡ true
    = sym c.has_good_names.ensures ∙ c.if-not-has_good_names.false in
    let once : twice_test f.exports ≡ None = rw exports at c.in_ok-check_once.ensures.passed in
    let defined : undefined_test o f.exports ≡ None
    = rw exports at c.in_ok-check_defined.ensures.passed in
    let fine : has_bad_versions o f.exports ≡ false
    = rw exports at (sym c.has_bad_versions.ensures ∙ c.if-has_bad_versions.false) in
    let p
    = err_from_is_err_and c.from_residual-in_err-check_spaces.result
    c.from_residual-in_err-check_spaces.ensures.1 in
    rw (p.1, p.2)
    (elim c.in_err-check_spaces.ensures.fault [
      | inl memory ↦ inl memory
      | inr failed ↦
          inr
          (facts_tests-last o f short good once defined
          ∙ ap (λ b. first (fault_if b BadVersions ∷ space_test o f.exports ∷ [])) fine
          ∙ ap (λ t. first (t ∷ [])) (rw exports at failed))
    ])

pub returns-clause-passed : goal.returns-clause-passed
returns-clause-passed c =
    let o = c.args.object.now in
    let f = c.args.facts.now in
    let exports = c.as_slice-exports.ensures in
    let short : ltb 55 (length f.name) ≡ false
    = le-ltb 55 (length f.name) (omega (arith, c.len.ensures)) in
    let good : has_good_names f ≡ true
    = sym c.has_good_names.ensures ∙ c.if-not-has_good_names.false in
    let once : twice_test f.exports ≡ None = rw exports at c.in_ok-check_once.ensures.passed in
    let defined : undefined_test o f.exports ≡ None
    = rw exports at c.in_ok-check_defined.ensures.passed in
    let fine : has_bad_versions o f.exports ≡ false
    = rw exports at (sym c.has_bad_versions.ensures ∙ c.if-has_bad_versions.false) in
    let spaced : space_test o f.exports ≡ None
    = rw exports at c.in_ok-check_spaces.ensures.passed in
    facts_tests-last o f short good once defined
    ∙ ap (λ b. first (fault_if b BadVersions ∷ space_test o f.exports ∷ [])) fine
    ∙ ap (λ t. first (t ∷ [])) spaced
