-- What the tests of a module say.
use Rattle.std.proofs.Common.{◌≡◌, ℕ, true, false, List, [], ◌∷◌, length, ltb, Option, Some, None}
use Rattle.std.proofs.Common.{refl, sym, ap, ◌∙◌}
use Rattle.km_names.specs.First.{first}
use Rattle.km_names.specs.Path.{is_compressed}
use Rattle.elf_object.specs.Object.{FileObject, file_object, object_fault}
use Rattle.elf_sections.specs.Shape.{fault_if}
use Rattle.module_facts.specs.declared.facts.Facts.{Facts}
use Rattle.module_facts.specs.declared.fault.ModuleFault.TheVariants.{BadVersions}
use Rattle.module_symbols.specs.Exports.{exports_of}
use Rattle.module_facts.specs.Facts.{facts_of, object_facts}
use Rattle.module_facts.specs.Module.{IsModule}
use Rattle.module_facts.specs.Faults.{fact_fault, facts_tests, has_bad_versions, has_good_names}
use Rattle.module_facts.specs.Faults.{module_tests, space_test, twice_test, undefined_test}

-- after the tests of the names the others decide
pub facts_tests-rest : (o : FileObject) (f : Facts) → ltb 55 (length f.name) ≡ false
    → has_good_names f ≡ true
    → first (facts_tests o f)
    ≡ first (twice_test f.exports ∷ undefined_test o f.exports
    ∷ fault_if (has_bad_versions o f.exports) BadVersions ∷ space_test o f.exports ∷ [])
unfolding facts_tests
facts_tests-rest o f short good = rw (short, good) refl

-- and after those of each export the last
pub facts_tests-last : (o : FileObject) (f : Facts) → ltb 55 (length f.name) ≡ false
    → has_good_names f ≡ true → twice_test f.exports ≡ None → undefined_test o f.exports ≡ None
    → first (facts_tests o f)
    ≡ first (fault_if (has_bad_versions o f.exports) BadVersions ∷ space_test o f.exports ∷ [])
facts_tests-last o f short good once defined =
    facts_tests-rest o f short good ∙ rw (once, defined) refl

-- all tests of the module pass
pub fact_fault-none : (path b : List ℕ) → is_compressed path ≡ false → object_fault b ≡ None
    → first (facts_tests (file_object b) (object_facts path (file_object b))) ≡ None
    → fact_fault path b ≡ None
unfolding fact_fault module_tests
fact_fault-none path b plain object facts = rw (plain, object, facts) refl

pub object_facts-path : (path : List ℕ) (o : FileObject) → (object_facts path o).path ≡ path
unfolding object_facts
object_facts-path path o = refl

pub object_facts-exports : (path : List ℕ) (o : FileObject)
    → (object_facts path o).exports ≡ exports_of o
unfolding object_facts
object_facts-exports path o = refl

-- what was read is a module
pub IsModule-read : (path b : List ℕ) (o : FileObject) (f : Facts) → o ≡ file_object b
    → f ≡ object_facts path o → fact_fault path b ≡ None → IsModule o f
IsModule-read path b o f object facts passed =
    let file : o.file ≡ b = ap (λ (v : FileObject). v.file) object in
    let at : f.path ≡ path = ap (λ (v : Facts). v.path) facts ∙ object_facts-path path o in
    let object_is : o ≡ file_object o.file = object ∙ ap file_object (sym file) in
    record {
      object = object_is;
      facts
          = facts ∙ ap (object_facts path) object_is
          ∙ ap (λ p. object_facts p (file_object o.file)) (sym at);
      passed = rw (at, file) passed;
    }

-- if no test fails, none does after the first
pub passed-on : {X : Type 0} (test : Option X) (tests : List (Option X))
    → first (test ∷ tests) ≡ None → first tests ≡ None
passed-on None tests passed = passed
passed-on (Some fault) tests passed = cc

-- if all tests of a module pass, the tests of its facts do
pub facts-pass : (path bytes : List ℕ) → fact_fault path bytes ≡ None
    → first (facts_tests (file_object bytes) (facts_of path bytes)) ≡ None
unfolding fact_fault module_tests
facts-pass path bytes passed =
    passed-on _ (facts_tests (file_object bytes) (facts_of path bytes))
    (passed-on _ (_ ∷ facts_tests (file_object bytes) (facts_of path bytes)) passed)
