-- Modules.
use Rattle.std.specs.Prelude.{◌≡◌, ◌<◌, ◌≤◌, length, All, AllPairs, IsTrue, None}
use Rattle.km_names.specs.Ascii.{is_graphic}
use Rattle.elf_object.specs.Object.{FileObject, file_object}
use Rattle.module_symbols.specs.declared.exports.Export.{Export}
use Rattle.module_facts.specs.declared.facts.Facts.{Facts}
use Rattle.module_symbols.specs.declared.needs.Need.{Need}
use Rattle.module_facts.specs.Facts.{facts_of}
use Rattle.module_facts.specs.Faults.{fact_fault}

-- The object and the facts are the ones of a file at a path, and no test of the module there fails.
pub record IsModule (o : FileObject) (f : Facts) : Type 0 where
  pub object : o ≡ file_object o.file
  pub facts : f ≡ facts_of f.path o.file
  pub passed : fact_fault f.path o.file ≡ None

-- What is known of the facts of a module. Its name has at most 55 bytes, all names are words of
-- visible characters of ASCII, and no two exports have one name. Exports and needs have symbols of
-- the object.
pub record IsSound (o : FileObject) (f : Facts) : Type 0 where
  pub short : length f.name ≤ 55
  pub name : IsTrue (is_graphic f.name)
  pub exports : All (λ (e : Export). IsTrue (is_graphic e.name)) f.exports
  pub needs : All (λ (n : Need). IsTrue (is_graphic n.name)) f.needs
  pub distinct : AllPairs (λ (a b : Export). a.name ≡ b.name → ⊥) f.exports
  pub exported : All (λ (e : Export). e.symbol < length o.symbols) f.exports
  pub needed : All (λ (n : Need). n.symbol < length o.symbols) f.needs
