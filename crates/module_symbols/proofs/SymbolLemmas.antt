-- The symbols that state names.
use Rattle.std.proofs.Common.{◌≡◌, ℕ, ◌<◌, Bor, List, length, Option, Some, None, is_some}
use Rattle.std.proofs.Common.{option_copied, false, true≢false, sym, arith}
use Rattle.std.proofs.lemmas.List.{length-map}
use Rattle.std.proofs.lemmas.List.Quantifiers.{position-Some}
use Rattle.name_table.specs.NameTable.{states}
use Rattle.elf_object.specs.Object.{FileObject}
use Rattle.module_symbols.specs.declared.role.Role.{Role}
use Rattle.module_symbols.specs.Roles.{first_symbol, stated_name, stated_names}

-- the first symbol that states a name is one of the object's
pub first_symbol-within : (role : Role) (o : FileObject) (name : List ℕ) (i : ℕ)
    → Some i ≡ first_symbol role o name → i < length o.symbols
first_symbol-within role o name i is =
    let within : i < length (stated_names role o)
    = (position-Some (states name) (stated_names role o) i None (sym is)).0 in
    omega (arith, within, length-map o.symbols (stated_name role))

-- what a symbol doesn't state
pub states-nothing : (found : Option (Bor (List ℕ))) (name : Option (List ℕ))
    → option_copied found ≡ name → is_some found ≡ false → None ≡ name
states-nothing None name is none = is
states-nothing (Some x) name is none = absurd (true≢false none)
