-- The state of the writer of an object while it writes.
-- It belongs to the code: no public meaning rests on it.
use Rattle.std.specs.Prelude.{◌≡◌, ℕ, List, ◌++◌, length, map}
use Rattle.std.specs.Borrow.{Bor}
use Rattle.sheet_object.specs.declared.symbols.Symbol.{Symbol}
use Rattle.sheet_object.specs.declared.symbols.SymbolTable.{SymbolTable}
use Rattle.sheet_object.specs.Symbols.{SymbolEntry, names_bytes, entries_bytes}

-- The names that a list of slices has, in their order.
abbrev pub names_of : List (Bor (List ℕ)) → List (List ℕ)
names_of keys = map (λ (k : Bor (List ℕ)). k.now) keys

-- The symbol of this name with these numbers.
abbrev pub named : List ℕ → Symbol → SymbolEntry
named name s =
    record { name = name; info = s.info; section = s.section; value = s.value; size = s.size }

-- The table has gained these symbols.
pub record Adds (old new : SymbolTable) (added : List SymbolEntry) : Type 0 where
  pub entries : new.entries.items
      ≡ old.entries.items ++ entries_bytes (length old.names.items) added
  pub names : new.names.items ≡ old.names.items ++ names_bytes added
