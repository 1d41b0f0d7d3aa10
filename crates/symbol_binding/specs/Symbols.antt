-- Modules and the kernel as symbol binding sees them: their exports and needs. The kernel's
-- include/linux/export.h and include/linux/module.h.
use Rattle.std.specs.Prelude.{ℕ, Bool, List, Option}

-- An export: its name, its version if one is stated, whether it is GPL-only, and its namespace,
-- which is empty for none.
pub record Export : Type 0 where
  pub name : List ℕ
  pub crc : Option ℕ
  pub gpl : Bool
  pub space : List ℕ

-- A name that is needed from elsewhere, whether it may stay unbound, and the needed version if one
-- is stated.
pub record Need : Type 0 where
  pub name : List ℕ
  pub weak : Bool
  pub crc : Option ℕ

-- The face of a module: its name, its exports and needs, whether its license is GPL-compatible, and
-- the namespaces that it imports.
pub record Face : Type 0 where
  pub name : List ℕ
  pub exports : List Export
  pub needs : List Need
  pub free : Bool
  pub imports : List (List ℕ)

-- A module of a tree, at its path.
pub record Module : Type 0 where
  pub path : List ℕ
  pub face : Face

-- A kernel. If its table isn't known it lists no exports, and counts as exporting every name that
-- no module exports.
pub record Kernel : Type 0 where
  pub known : Bool
  pub exports : List Export
