-- The stages of files that are read and checked.
use Rattle.std.proofs.Common.{◌≡◌, ℕ, List, refl, sym, ap, ◌∙◌, inl, inr}
use Rattle.std.specs.Prelude.{Option, Some, None, ◌⊎◌}
use Rattle.elf_sections.specs.declared.fault.SectionFault.{SectionFault}
use Rattle.elf_sections.specs.declared.fault.SectionFault.TheVariants as faults
use Rattle.elf_sections.specs.FaultText.{section_fault_text}
use Rattle.elf_sections.specs.Shape.{shape_fault}
use Rattle.elf_sections.specs.Sections.{FileSections, file_sections}
use Rattle.km_course.specs.declared.end.End.TheVariants.{Refused}
use Rattle.km_course.specs.declared.refusal.Refusal.TheVariants.{BadModule, BadIndex}
use Rattle.km_course.specs.Course.{Stage, given, gives}
use Rattle.km_course.specs.Course.Outcome.{value, end}
use Rattle.index_format.specs.Check.{Fault, index_fault}
use Rattle.index_nodes.specs.declared.fault.IndexFault.{IndexFault}
use Rattle.index_nodes.specs.declared.fault.IndexFault.TheVariants as told
use Rattle.index_nodes.specs.Faults.{IsFirstFault, index_fault_text}
use Rattle.index_read.specs.declared.index.Index.{Index}
use Rattle.stages_files.specs.declared.kernel_modules.KernelModules.{KernelModules}
use Rattle.stages_files.specs.ModuleFile.{sections_outcome}
use Rattle.stages_files.specs.IndexFile.{index_of, index_outcome}

-- the stage after a module was read
abbrev pub checked : List ℕ → List ℕ → Stage FileSections
checked path bytes = given (sections_outcome path bytes (shape_fault bytes))

pub checked_ok : (path bytes : List ℕ) (sections : FileSections) → sections ≡ file_sections bytes
    → shape_fault bytes ≡ None → sections_outcome path bytes (shape_fault bytes) ≡ value sections
unfolding sections_outcome
checked_ok path bytes sections e n = ap (sections_outcome path bytes) n ∙ ap value (sym e)

-- a fault that isn't out of memory is the first test that fails
pub checked_fault : (path bytes text : List ℕ) (fault : SectionFault)
    → (fault ≡ faults.Memory) ⊎ (shape_fault bytes ≡ Some fault) → (fault ≡ faults.Memory → ⊥)
    → text ≡ section_fault_text fault
    → sections_outcome path bytes (shape_fault bytes) ≡ end (Refused (BadModule path text))
unfolding sections_outcome
checked_fault path bytes text fault (inl m) wanting is = absurd (wanting m)
checked_fault path bytes text fault (inr f) wanting is =
    ap (sections_outcome path bytes) f ∙ ap (λ t. end (Refused (BadModule path t))) (sym is)

-- the stage after an index was read
abbrev pub adopted : List ℕ → List ℕ → Stage Index
adopted file bytes = given (index_outcome file bytes (index_fault bytes))

pub adopted_ok : (file bytes : List ℕ) (index : Index) (o : Option Fault) → index.nodes ≡ bytes
    → o ≡ None → index_outcome file bytes o ≡ value index
unfolding index_outcome
adopted_ok file bytes index o e n =
    ap (index_outcome file bytes) n ∙ ap (λ b. value (index_of b)) (sym e)

-- a fault that isn't out of memory is the first one of the file
pub adopted_fault : (file bytes text : List ℕ) (o : Option Fault) (fault : IndexFault)
    → IsFirstFault o fault → (fault ≡ told.Memory → ⊥) → text ≡ index_fault_text fault
    → index_outcome file bytes o ≡ end (Refused (BadIndex file text))
unfolding index_outcome
adopted_fault file bytes text o told.BadMagic first wanting is =
    ap (index_outcome file bytes) first ∙ ap (λ t. end (Refused (BadIndex file t))) (sym is)
adopted_fault file bytes text o told.BadVersion first wanting is =
    ap (index_outcome file bytes) first ∙ ap (λ t. end (Refused (BadIndex file t))) (sym is)
adopted_fault file bytes text o (told.BadNode offset) first wanting is =
    ap (index_outcome file bytes) first ∙ ap (λ t. end (Refused (BadIndex file t))) (sym is)
adopted_fault file bytes text o (told.Revisited offset) first wanting is =
    ap (index_outcome file bytes) first ∙ ap (λ t. end (Refused (BadIndex file t))) (sym is)
adopted_fault file bytes text o told.Memory first wanting is = absurd (wanting refl)

-- the stage after the index of a folder was read
abbrev pub listed : List ℕ → Index → Stage KernelModules
listed folder index = gives (record { folder = folder; index = index })
