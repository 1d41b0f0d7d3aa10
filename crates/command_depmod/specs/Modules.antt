-- The modules of a tree, each read and checked at its turn. depmod(8).
use Rattle.std.specs.Prelude.{◌≡◌, ℕ, List, [], ◌∷◌, ◌++◌, Option, Some, None, All, AllPairs}
use Rattle.std.specs.Prelude.{IsTrue}
use Rattle.km_names.specs.Path.{path_below, is_compressed, module_name}
use Rattle.km_names.specs.Ascii.{is_graphic}
use Rattle.module_symbols.specs.declared.exports.Export.{Export}
use Rattle.module_facts.specs.declared.facts.Facts.{Facts}
use Rattle.module_symbols.specs.declared.needs.Need.{Need}
use Rattle.module_facts.specs.declared.fault.ModuleFault.{ModuleFault}
use Rattle.module_facts.specs.Facts.{facts_of}
use Rattle.module_facts.specs.Faults.{fact_fault}
use Rattle.module_facts.specs.FaultText.{module_fault_text}
use Rattle.km_course.specs.Course.{Outcome, Stage, ◌>>=◌, given, gives, ends, when◌then◌else◌}
use Rattle.km_course.specs.Course.{reads, each_from}
use Rattle.km_course.specs.Course.Outcome.{value, end}
use Rattle.km_course.specs.declared.end.End.TheVariants.{Refused}
use Rattle.km_course.specs.declared.refusal.Refusal.TheVariants.{BadModule, Compressed}

-- What the file of a module with this first failing test results in: the module's facts, or its
-- refusal, which names its path in the tree.
unfoldable pub facts_outcome : List ℕ → List ℕ → Option ModuleFault → Outcome Facts
facts_outcome path bytes None = value (facts_of path bytes)
facts_outcome path bytes (Some fault) = end (Refused (BadModule path (module_fault_text fault)))

-- The facts of the module at a path of the tree in the folder. A compressed one is refused unread.
abbrev pub reads_facts : List ℕ → List ℕ → Stage Facts
reads_facts folder path =
    when is_compressed path then ends (Refused (Compressed path)) else (do
      bytes ← reads (path_below folder path)
      given (facts_outcome path bytes (fact_fault path bytes)))

-- The facts of one module more.
abbrev pub adds_facts : List ℕ → List Facts → List ℕ → Stage (List Facts)
adds_facts folder before path = do
  facts ← reads_facts folder path
  gives (before ++ facts ∷ [])

-- The facts of the modules at the paths, in order.
abbrev pub reads_modules_facts : List ℕ → List (List ℕ) → Stage (List Facts)
reads_modules_facts folder paths = each_from (adds_facts folder) [] paths

-- What is known of the facts of a module that was read at a path of the tree.
pub record AreFactsAt (path : List ℕ) (f : Facts) : Type 0 where
  pub path_is : f.path ≡ path
  pub name_is : f.name ≡ module_name path
  pub name : IsTrue (is_graphic f.name)
  pub exports : All (λ (e : Export). IsTrue (is_graphic e.name)) f.exports
  pub needs : All (λ (n : Need). IsTrue (is_graphic n.name)) f.needs
  pub distinct : AllPairs (λ (a b : Export). a.name ≡ b.name → ⊥) f.exports
