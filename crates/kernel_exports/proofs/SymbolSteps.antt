-- The symbols of a map by the tables of their names.
use Rattle.std.proofs.Common.{◌≡◌, ℕ, true, false, ◌&&◌, List, cond, Option, Some, None}
use Rattle.std.proofs.Common.{option_and_then, find, refl, ap, ◌∙◌}
use Rattle.std.specs.List.{slice_get}
use Rattle.std.specs.Option.{option_or}
use Rattle.std.specs.Str.{bytes_eq}
use Rattle.name_table.specs.NameTable.{Table, states, place_of}
use Rattle.kernel_exports.specs.MapLines.{MapSymbol, is_global, global_name, any_name, symbol_of}
use Rattle.kernel_exports.specs.MapLines.{AreTables}
use Rattle.kernel_exports.proofs.NameSteps.{table-find}

states-global : (name : List ℕ) (s : MapSymbol)
    → states name (global_name s) ≡ (is_global s && bytes_eq s.name name)
states-global name s =
    elim (is_global s) as
    (λ b. states name (cond b (Some s.name) None) ≡ (b && bytes_eq s.name name))
    [ true ↦ refl | false ↦ refl ]

-- what is found by the two tables
module _ (symbols : List MapSymbol) (globals all : Table) (name : List ℕ)
    (tables : AreTables symbols globals all) where
  global-found : option_and_then (slice_get symbols) (place_of globals name)
      ≡ find (λ (s : MapSymbol). is_global s && bytes_eq s.name name) symbols
  global-found
      = table-find global_name (λ (s : MapSymbol). is_global s && bytes_eq s.name name) name
      (states-global name) globals symbols tables.global

  any-found : option_and_then (slice_get symbols) (place_of all name)
      ≡ find (λ (s : MapSymbol). bytes_eq s.name name) symbols
  any-found
      = table-find any_name (λ (s : MapSymbol). bytes_eq s.name name) name (λ s. refl) all symbols
      tables.any

  pub symbol-global : (place : Option ℕ) (line : MapSymbol) → place ≡ place_of globals name
      → Some line ≡ option_and_then (slice_get symbols) place → Some line ≡ symbol_of symbols name
  symbol-global place line at found =
      ap (λ o. option_or o (find (λ (s : MapSymbol). bytes_eq s.name name) symbols))
      (found ∙ ap (option_and_then (slice_get symbols)) at ∙ global-found)

  pub symbol-any : (place other : Option ℕ) (found : Option MapSymbol)
      → place ≡ place_of globals name → None ≡ option_and_then (slice_get symbols) place
      → other ≡ place_of all name → found ≡ option_and_then (slice_get symbols) other
      → found ≡ symbol_of symbols name
  symbol-any place other found at none then is =
      is ∙ ap (option_and_then (slice_get symbols)) then ∙ any-found
      ∙ ap (λ o. option_or o (find (λ (s : MapSymbol). bytes_eq s.name name) symbols))
      (none ∙ ap (option_and_then (slice_get symbols)) at ∙ global-found)
