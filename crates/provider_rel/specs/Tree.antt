-- The facts of a tree. depmod.d(5), modules.dep(5).
use Rattle.std.specs.Prelude.{◌≡◌, ◌≤◌, ◌==◌, not, List, length, All, AllPairs, IsTrue}
use Rattle.std.specs.List.{list_any}
use Rattle.km_names.specs.Ascii.{is_graphic}
use Rattle.module_symbols.specs.declared.exports.Export.{Export}
use Rattle.module_symbols.specs.declared.needs.Need.{Need}
use Rattle.module_facts.specs.declared.facts.Facts.{Facts}

-- A module of a tree. It exports no name twice. Its path, its name, and the names that it exports
-- and needs are words of visible characters, and its path has no `:`.
pub record IsTreeModule (f : Facts) : Type 0 where
  pub distinct : AllPairs (λ (a b : Export). a.name ≡ b.name → ⊥) f.exports
  pub path : IsTrue (is_graphic f.path)
  pub name : IsTrue (is_graphic f.name)
  pub exports : All (λ (e : Export). IsTrue (is_graphic e.name)) f.exports
  pub needs : All (λ (n : Need). IsTrue (is_graphic n.name)) f.needs
  pub colon : IsTrue (not (list_any (λ b. b == 58) f.path))

-- The facts of the modules of a tree: there are at most 10,000, each with a name of its own.
pub record IsTree (tree : List Facts) : Type 0 where
  pub few : length tree ≤ 10000
  pub distinct : AllPairs (λ (a b : Facts). a.name ≡ b.name → ⊥) tree
  pub modules : All IsTreeModule tree
