use Rattle.std.proofs.Common.{[], map, subst}
use Rattle.std.proofs.Math.ListN.{get_or-map}
use Rattle.std.proofs.lemmas.List.Elements.{All-get_or}
use Rattle.elf_object.specs.declared.symbol.Symbol.{Symbol}
use Rattle.elf_object.specs.declared.symbol.SymbolRef.{SymbolRef}
use Rattle.elf_object.specs.Object.{IsSymbolIn}
use Rattle.elf_object.specs.Symbols.{owned_symbol}
use Rattle.elf_object.proofs.view.ObjectView.symbol.Goals as goal

pub returns-clause-inside : goal.returns-clause-inside
returns-clause-inside c =
    let symbols = c.self.inside.symbols in
    let sections = c.self.inside.table.list in
    let other : SymbolRef
    = record
    { name = record { ref_ptr = (0, 0); now = [] }; binding = 0; section = 0; value = 0 } in
    let inside
    = All-get_or (IsSymbolIn sections) (map owned_symbol symbols) c.args.i (owned_symbol other)
    (rw (← c.self.view_is) at c.requires) c.self.invariant.loadable.symbols in
    rw (← c.self.view_is, c.as_slice.ensures)
    (subst (λ (s : Symbol). IsSymbolIn sections s)
    (get_or-map owned_symbol symbols c.args.i other) inside)
