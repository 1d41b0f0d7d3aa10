use Rattle.std.proofs.Common.{◌≡◌, ℕ, [], ◌∷◌, ◌++◌, List, Option, map, ap, sym, subst, ◌∙◌}
use Rattle.std.proofs.lemmas.List.{map-append}
use Rattle.name_table.specs.NameTable.{IsTableOf, Table}
use Rattle.elf_object.specs.Symbols.{owned_symbol}
use Rattle.elf_object.specs.declared.symbol.Symbol.{Symbol}
use Rattle.module_symbols.specs.declared.role.Role.{Role}
use Rattle.module_symbols.specs.declared.role.Role.TheVariants.{Export, Version, Space, Definition}
use Rattle.module_symbols.specs.Roles.{stated_name}
use Rattle.module_symbols.proofs.tables.SymbolTables.push.Goals as goal

-- the table of one role, a symbol later
later : (role : Role) (t : Table) (symbols : List Symbol) (s : Symbol) (stated : Option (List ℕ))
    → stated ≡ stated_name role s → IsTableOf t (map (stated_name role) symbols ++ stated ∷ [])
    → IsTableOf t (map (stated_name role) (symbols ++ s ∷ []))
later role t symbols s stated is holds =
    subst (IsTableOf t)
    (ap (λ o. map (stated_name role) symbols ++ o ∷ []) is
    ∙ sym (map-append (stated_name role) symbols (s ∷ []))) holds

pub returns : goal.returns
returns c = λ symbols tables.
    let s = owned_symbol c.args.symbol in
    record {
      exports =
          later Export _ symbols s _ c.stated_name.ensures
          (c.in_ok-push.ensures.ok _ tables.exports);
      versions =
          later Version _ symbols s _ c.stated_name-2.ensures
          (c.in_ok-push-2.ensures.ok _ tables.versions);
      spaces =
          later Space _ symbols s _ c.stated_name-3.ensures
          (c.in_ok-push-3.ensures.ok _ tables.spaces);
      definitions =
          later Definition _ symbols s _ c.stated_name-4.ensures
          (c.in_ok-push-4.ensures.ok _ tables.definitions);
    }
