use Rattle.std.proofs.Common.{◌≡◌, ℕ, ◌<◌, ◌≤◌, List, map, None}
use Rattle.std.specs.List.{range_with_len}
use Rattle.elf_sections.specs.declared.strings.TheConstants.{SEARCH_LIMIT}
use Rattle.elf_object.specs.declared.symbol.SymbolRef.{SymbolRef}
use Rattle.elf_object.specs.Symbols.{owned_symbol, symbol_in, symbol_test_in}
use Rattle.elf_object.proofs.symbol.read_symbols.Given as goal

pub record Read (table names : List ℕ) (count : ℕ) (symbols : List SymbolRef) (left n : ℕ) : Type 0
  where
    pub tests : (k : ℕ) → k < n → symbol_test_in table names count k ≡ None
    pub symbols_are : map owned_symbol symbols ≡ map (symbol_in table names) (range_with_len 0 n)
    pub within : left ≤ SEARCH_LIMIT

abbrev pub invariant-loop-index : goal.invariant-loop-index
invariant-loop-index l = Read l.table l.names l.count l.symbols.items l.left l.index
