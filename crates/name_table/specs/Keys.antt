-- Names as keys of tables.
use Rattle.std.specs.Prelude.{ℕ, List}
use Rattle.name_table.specs.declared.key.OwnedNameKey.{OwnedNameKey}
use Rattle.name_table.specs.declared.key.OwnedNameKey.TheVariants.{Owned, Asked}

-- The name that a key has.
abbrev pub name_of : OwnedNameKey → List ℕ
name_of (Owned name) = name
name_of (Asked name) = name.now
