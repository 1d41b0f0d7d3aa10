-- The modules that are to be loaded, each read and checked at its turn. modprobe(8),
-- modules.dep(5).
use Rattle.std.specs.Prelude.{◌≡◌, ℕ, List, Option, Some, None}
use Rattle.std.proofs.Common.{refl}
use Rattle.km_names.specs.Path.{path_below, is_compressed}
use Rattle.elf_object.specs.Object.{file_object}
use Rattle.module_facts.specs.declared.fault.ModuleFault.{ModuleFault}
use Rattle.module_facts.specs.declared.module.Module.{Module}
use Rattle.module_facts.specs.Facts.{facts_of}
use Rattle.module_facts.specs.Faults.{fact_fault}
use Rattle.module_facts.specs.FaultText.{module_fault_text}
use Rattle.module_facts.proofs.FaultLemmas.{IsModule-read, facts-pass}
use Rattle.module_facts.proofs.SoundLemmas.{IsSound-passed}
use Rattle.km_course.specs.Course.{Outcome, Stage, ◌>>=◌, given, ends, when◌then◌else◌, reads}
use Rattle.km_course.specs.Course.Outcome.{value, end}
use Rattle.km_course.specs.declared.end.End.TheVariants.{Refused}
use Rattle.km_course.specs.declared.refusal.Refusal.TheVariants.{BadModule, Compressed}

-- The module at a path whose file has these bytes, if nothing is wrong with it.
unfoldable pub module_at : (path bytes : List ℕ) → fact_fault path bytes ≡ None → Module
module_at path bytes passed = record {
  object = file_object bytes;
  facts = facts_of path bytes;
  valid = IsModule-read path bytes (file_object bytes) (facts_of path bytes) refl refl passed;
  sound
      = IsSound-passed path (file_object bytes) (facts_of path bytes) refl
      (facts-pass path bytes passed);
}

-- What the file of a module results in, by its first failing test: the module at a path, or the
-- refusal of the file by its whole path.
unfoldable pub module_outcome : List ℕ → (path bytes : List ℕ) (fault : Option ModuleFault)
    → fact_fault path bytes ≡ fault → Outcome Module
module_outcome file path bytes None passed = value (module_at path bytes passed)
module_outcome file path bytes (Some fault) first =
    end (Refused (BadModule file (module_fault_text fault)))

-- What the file of these bytes results in.
abbrev pub file_outcome : List ℕ → List ℕ → List ℕ → Outcome Module
file_outcome file path bytes = module_outcome file path bytes (fact_fault path bytes) refl

-- The module at a path of the tree in the folder. A compressed one is refused unread. Refusals name
-- the whole path.
abbrev pub reads_module : List ℕ → List ℕ → Stage Module
reads_module folder path =
    when is_compressed path then ends (Refused (Compressed (path_below folder path))) else (do
      bytes ← reads (path_below folder path)
      given (file_outcome (path_below folder path) path bytes))
