-- The needs of a module from the kernel or other modules.
use Rattle.std.specs.Prelude.{ℕ, ◌==◌, ◌&&◌, nat_lt, not, Bool, List, map, filter, codes}
use Rattle.std.specs.List.{enumerate_from}
use Rattle.std.specs.Str.{bytes_eq}
use Rattle.elf_format.specs.declared.symbol.TheConstants.{STB_WEAK}
use Rattle.elf_object.specs.declared.symbol.Symbol.{Symbol}
use Rattle.elf_object.specs.Object.{FileObject}
use Rattle.module_symbols.specs.declared.needs.Need.{Need}
use Rattle.module_symbols.specs.Roles.{is_defined}
use Rattle.module_symbols.specs.Versions.{stated_version, version_list}

-- Whether the symbol i is needed from elsewhere: it is undefined, and isn't the global offset
-- table, which the linker makes. Symbol 0 is no symbol. gABI 4, "Symbol Table"; x86-64 psABI,
-- "Global Offset Table".
unfoldable pub is_need : ℕ → Symbol → Bool
is_need i s =
    nat_lt 0 i && not (is_defined s) && not (bytes_eq s.name (codes "_GLOBAL_OFFSET_TABLE_"))

-- The need that the symbol i states, by a version list.
unfoldable pub need_of : List (List ℕ × ℕ) → ℕ → Symbol → Need
need_of versions i s = record {
  name = s.name;
  symbol = i;
  weak = s.binding == STB_WEAK;
  crc = stated_version versions s.name;
}

-- The needs, in the order of their symbols.
unfoldable pub needs_of : FileObject → List Need
needs_of o =
    map (λ p. need_of (version_list o) p.0 p.1)
    (filter (λ p. is_need p.0 p.1) (enumerate_from 0 o.symbols))
