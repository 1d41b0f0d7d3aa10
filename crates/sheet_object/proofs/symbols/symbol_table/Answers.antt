use Rattle.std.proofs.Common.{◌≤◌, All, length, map, sym, subst, ap, arith}
use Rattle.std.specs.List.{flat_map}
use Rattle.sheet_object.specs.Symbols.{local_symbols, export_symbols, need_symbol}
use Rattle.sheet_object.specs.Writing.{Adds}
use Rattle.sheet_object.proofs.SheetLemmas.{fits}
use Rattle.sheet_object.proofs.SymbolLemmas.{table-adds, table-entries, table-names}
use Rattle.sheet_object.proofs.symbols.symbol_table.Goals as goal

pub push_locals-requires-clause-short : goal.push_locals-requires-clause-short
push_locals-requires-clause-short c =
    subst (λ xs. All (λ e. length e.name ≤ 4096) xs) (sym c.as_slice-exports.ensures)
    (fits c.args.sheet.now c.args.further.now.more.now c.requires).export_names

pub push_locals-requires-clause-fits : goal.push_locals-requires-clause-fits
push_locals-requires-clause-fits c =
    let f = fits c.args.sheet.now c.args.further.now.more.now c.requires in
    omega (
      arith,
      ap length c.in_ok-table.ensures.names,
      ap length c.as_slice-exports.ensures,
      f.exports,
    )

pub push_exports-requires-clause-few : goal.push_exports-requires-clause-few
push_exports-requires-clause-few c =
    let f
    = fits c.args.sheet.now c.args.further.now.more.now c.requires in omega
    (arith, ap length c.as_slice-exports.ensures, f.exports)

pub push_exports-requires-clause-short : goal.push_exports-requires-clause-short
push_exports-requires-clause-short c =
    subst (λ xs. All (λ e. length e.name ≤ 4096) xs) (sym c.as_slice-exports.ensures)
    (fits c.args.sheet.now c.args.further.now.more.now c.requires).export_names

pub push_exports-requires-clause-fits : goal.push_exports-requires-clause-fits
push_exports-requires-clause-fits c =
    let f = fits c.args.sheet.now c.args.further.now.more.now c.requires in
    omega (
      arith,
      ap length c.in_ok-table.ensures.names,
      c.in_ok-push_locals.ensures.length,
      ap length c.as_slice-exports.ensures,
      f.exports,
    )

pub push_needs-requires-clause-short : goal.push_needs-requires-clause-short
push_needs-requires-clause-short c =
    subst (λ xs. All (λ n. length n.name ≤ 4096) xs) (sym c.as_slice.ensures)
    (fits c.args.sheet.now c.args.further.now.more.now c.requires).need_names

pub push_needs-requires-clause-fits : goal.push_needs-requires-clause-fits
push_needs-requires-clause-fits c =
    let f = fits c.args.sheet.now c.args.further.now.more.now c.requires in
    omega (
      arith,
      ap length c.in_ok-table.ensures.names,
      c.in_ok-push_locals.ensures.length,
      c.in_ok-push_exports.ensures.length,
      ap length c.as_slice-exports.ensures,
      ap length c.as_slice.ensures,
      f.exports,
      f.needs,
    )

pub returns-clause-entries : goal.returns-clause-entries
returns-clause-entries c =
    let m = c.args.further.now.more.now in
    let a = c.in_ok-table.table in
    let b = c.push_locals.new.self in
    let d = c.push_exports.new.self in
    let e = c.push_needs.new.self in
    table-entries c.args.sheet.now m a e c.in_ok-table.ensures.entries c.in_ok-table.ensures.names
    (table-adds c.args.sheet.now m a b d e
    (subst (λ xs. Adds a b (flat_map (local_symbols m) xs)) c.as_slice-exports.ensures
    c.in_ok-push_locals.ensures.added)
    (subst (λ xs. Adds b d (export_symbols 0 xs)) c.as_slice-exports.ensures
    c.in_ok-push_exports.ensures.added)
    (subst (λ xs. Adds d e (map need_symbol xs)) c.as_slice.ensures c.in_ok-push_needs.ensures))

pub returns-clause-names : goal.returns-clause-names
returns-clause-names c =
    let m = c.args.further.now.more.now in
    let a = c.in_ok-table.table in
    let b = c.push_locals.new.self in
    let d = c.push_exports.new.self in
    let e = c.push_needs.new.self in
    table-names c.args.sheet.now m a e c.in_ok-table.ensures.names
    (table-adds c.args.sheet.now m a b d e
    (subst (λ xs. Adds a b (flat_map (local_symbols m) xs)) c.as_slice-exports.ensures
    c.in_ok-push_locals.ensures.added)
    (subst (λ xs. Adds b d (export_symbols 0 xs)) c.as_slice-exports.ensures
    c.in_ok-push_exports.ensures.added)
    (subst (λ xs. Adds d e (map need_symbol xs)) c.as_slice.ensures c.in_ok-push_needs.ensures))
