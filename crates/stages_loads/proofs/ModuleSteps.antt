-- The stages of a module that is to be loaded.
use Rattle.std.proofs.Common.{◌≡◌, ℕ, List, sym, ap, subst, ◌∙◌, inl, inr}
use Rattle.std.proofs.Props.{props}
use Rattle.std.specs.Prelude.{Option, Some, None, ◌⊎◌}
use Rattle.elf_object.specs.Object.{FileObject, file_object}
use Rattle.module_facts.specs.declared.facts.Facts.{Facts}
use Rattle.module_facts.specs.declared.fault.ModuleFault.{ModuleFault}
use Rattle.module_facts.specs.declared.fault.ModuleFault.TheVariants.{Memory}
use Rattle.module_facts.specs.declared.module.Module.{Module}
use Rattle.module_facts.specs.Facts.{facts_of}
use Rattle.module_facts.specs.Faults.{fact_fault}
use Rattle.module_facts.specs.FaultText.{module_fault_text}
use Rattle.module_facts.specs.Module.{IsModule, IsSound}
use Rattle.km_course.specs.Course.{Stage, given}
use Rattle.km_course.specs.Course.Outcome.{value, end}
use Rattle.km_course.specs.declared.end.End.TheVariants.{Refused}
use Rattle.km_course.specs.declared.refusal.Refusal.TheVariants.{BadModule}
use Rattle.stages_loads.specs.Modules.{file_outcome, module_at, module_outcome}

-- the stage after the file of a module was read
abbrev pub checked : List ℕ → List ℕ → List ℕ → Stage Module
checked file path bytes = given (file_outcome file path bytes)

IsModule-prop : (o : FileObject) (f : Facts) → IsProp (IsModule o f)
IsModule-prop o f = Prim.hlevel props

IsSound-prop : (o : FileObject) (f : Facts) → IsProp (IsSound o f)
IsSound-prop o f = Prim.hlevel props

with_parts : (o : FileObject) (f : Facts) → IsModule o f → IsSound o f → Module
with_parts o f valid sound = record { object = o; facts = f; valid = valid; sound = sound }

by_parts : (o p : FileObject) → o ≡ p → (f g : Facts) → f ≡ g
    → (v : IsModule o f) (w : IsModule p g) (s : IsSound o f) (t : IsSound p g)
    → with_parts o f v s ≡ with_parts p g w t
by_parts o p object =
    subst (λ q. (f g : Facts) → f ≡ g
    → (v : IsModule o f) (w : IsModule q g) (s : IsSound o f) (t : IsSound q g)
    → with_parts o f v s ≡ with_parts q g w t) object
    (λ f g facts. subst
    (λ h. (v : IsModule o f) (w : IsModule o h) (s : IsSound o f) (t : IsSound o h)
    → with_parts o f v s ≡ with_parts o h w t) facts
    (λ v w s t. ap (λ x. with_parts o f x s) (IsModule-prop o f v w)
    ∙ ap (λ y. with_parts o f w y) (IsSound-prop o f s t)))

-- the module of a file, by its object and its facts
pub module_at-same : (path bytes : List ℕ) (m : Module) (passed : fact_fault path bytes ≡ None)
    → m.object ≡ file_object bytes → m.facts ≡ facts_of path bytes → module_at path bytes passed ≡ m
unfolding module_at with_parts
module_at-same path bytes m passed object facts =
    by_parts _ m.object (sym object) _ m.facts (sym facts) _ m.valid _ m.sound

pub checked_ok : (file path bytes : List ℕ) (m : Module) (o : Option ModuleFault)
    (is : fact_fault path bytes ≡ o)
    → m.object ≡ file_object bytes → m.facts ≡ facts_of path bytes → o ≡ None
    → module_outcome file path bytes o is ≡ value m
unfolding module_outcome
checked_ok file path bytes m None is object facts passed =
    ap value (module_at-same path bytes m is object facts)
checked_ok file path bytes m (Some fault) is object facts passed = cc

-- a fault that isn't out of memory is the first test that fails
pub checked_not : (file path bytes text : List ℕ) (o : Option ModuleFault)
    (is : fact_fault path bytes ≡ o) (fault : ModuleFault)
    → (fault ≡ Memory) ⊎ (o ≡ Some fault) → (fault ≡ Memory → ⊥) → text ≡ module_fault_text fault
    → module_outcome file path bytes o is ≡ end (Refused (BadModule file text))
unfolding module_outcome
checked_not file path bytes text o is fault (inl m) wanting same = absurd (wanting m)
checked_not file path bytes text None is fault (inr f) wanting same = cc
checked_not file path bytes text (Some found) is fault (inr f) wanting same =
    let one : found ≡ fault = cc in
    ap (λ x. end (Refused (BadModule file (module_fault_text x)))) one
    ∙ ap (λ t. end (Refused (BadModule file t))) (sym same)
