-- The lines of a System.map, which the kernel's build writes with nm(1): `ADDRESS LETTER NAME`.
use Rattle.std.specs.Prelude.{ℕ, ◌==◌, ◌&&◌, Bool, List, length, map, find, slice_index, Option}
use Rattle.std.specs.Prelude.{Some, None, option_map, if◌then◌else◌}
use Rattle.std.specs.Option.{option_or}
use Rattle.std.specs.Char.{is_ascii_uppercase}
use Rattle.std.specs.Str.{bytes_eq}
use Rattle.km_names.specs.Ascii.{is_graphic, hexadecimal}
use Rattle.km_names.specs.Space.{before_space, past_space}
use Rattle.name_table.specs.NameTable.{Table, IsTableOf}

-- A symbol that a line states: its address, the letter of its kind, and its name.
pub record MapSymbol : Type 0 where
  pub address : ℕ
  pub letter : ℕ
  pub name : List ℕ

-- What a line states, if it is understood: a number of 1 to 16 hexadecimal digits, one visible
-- character and a word of visible characters, with one space between them.
unfoldable pub map_line : List ℕ → Option MapSymbol
map_line text =
    let kind = before_space (past_space text) in
    let name = past_space (past_space text) in
    if length kind == 1 && is_graphic kind && is_graphic name
    then option_map
    (λ address. record { address = address; letter = slice_index kind 0; name = name })
    (hexadecimal (before_space text))
    else None

-- Whether the symbol is global: its letter is A to Z. nm(1).
abbrev pub is_global : MapSymbol → Bool
is_global s = is_ascii_uppercase s.letter

-- The symbol of a name: the first global one that has it, and otherwise the first that has it.
abbrev pub symbol_of : List MapSymbol → List ℕ → Option MapSymbol
symbol_of symbols name =
    option_or (find (λ s. is_global s && bytes_eq s.name name) symbols)
    (find (λ s. bytes_eq s.name name) symbols)

-- The address of a name, from its symbol.
abbrev pub address_of : List MapSymbol → List ℕ → Option ℕ
address_of symbols name = option_map (λ s. s.address) (symbol_of symbols name)

-- The name of a symbol in the table of the global names, and in the table of all names.
abbrev pub global_name : MapSymbol → Option (List ℕ)
global_name s = if is_global s then Some s.name else None

abbrev pub any_name : MapSymbol → Option (List ℕ)
any_name s = Some s.name

-- The two tables of the names of some symbols.
pub record AreTables (symbols : List MapSymbol) (globals all : Table) : Type 0 where
  pub global : IsTableOf globals (map global_name symbols)
  pub any : IsTableOf all (map any_name symbols)
