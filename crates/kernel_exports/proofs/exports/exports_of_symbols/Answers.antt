use Rattle.std.proofs.Common.{take, option_map, refl, sym, ap, ◌∙◌, arith}
use Rattle.std.specs.List.{filter_map}
use Rattle.kernel_exports.specs.KernelTable.{with_export, first_of_each, with_addresses}
use Rattle.kernel_exports.specs.KernelTable.{with_its_address, export_of_symbol, export_of_entry}
use Rattle.kernel_exports.specs.KernelTable.{exported_name}
use Rattle.kernel_exports.proofs.ExportSteps.{exports-more, exports-same, with-addressed}
use Rattle.kernel_exports.proofs.exports.exports_of_symbols.Goals as goal
use Rattle.kernel_exports.proofs.exports.exports_of_symbols.Goals.{in-Some+in_ok-entry_export+in_ok-add_first}
use Rattle.kernel_exports.proofs.exports.exports_of_symbols.Goals.{in_default}

pub loop-symbol-preserved : goal.loop-symbol-preserved
loop-symbol-preserved c =
    let symbol = c.symbol-item.result in
    let before = c.loop-symbol.list in
    let kept = c.loop-symbol.invariant in
    let symbols = c.args.symbols.now in
    let lines = c.lines-lines.result.now in
    let i = c.loop-symbol.symbol-index in
    let firsts = first_of_each (filter_map export_of_symbol (take i lines)) in
    elim c.match-exported_name.branch [
      | in-Some+in_ok-entry_export+in_ok-add_first w ↦
          let e = export_of_entry w.in-Some.name.now in
          record {
            count = rw w.names-is (omega (arith, w.in_ok-add_first.ensures.count, kept.count));
            first = rw (w.names-is, w.list-is) (w.in_ok-add_first.ensures.first kept.first);
            list
                = w.list-is ∙ w.in_ok-add_first.ensures.list kept.first
                ∙ ap (with_export before) w.in_ok-entry_export.ensures
                ∙ ap (λ list. with_export list (with_its_address symbols e)) kept.list
                ∙ sym (with-addressed symbols firsts e)
                ∙ ap (with_addresses symbols) (exports-more export_of_symbol lines i symbol
                c.loop-symbol-test.true c.symbol-item.is firsts (with_export firsts e) e
                (ap (option_map export_of_entry)
                (ap exported_name (sym c.name.ensures) ∙ sym w.in-Some.ensures)) refl refl);
          }
      | in_default w ↦ record {
        count = rw w.names-is (omega (arith, kept.count));
        first = rw (w.names-is, w.list-is) kept.first;
        list = w.list-is ∙ kept.list
            ∙ ap (with_addresses symbols) (exports-same export_of_symbol lines i symbol
            c.loop-symbol-test.true c.symbol-item.is firsts firsts
            (ap (option_map export_of_entry)
            (ap exported_name (sym c.name.ensures) ∙ sym w.in_default.ensures)) refl refl);
      }
    ]
