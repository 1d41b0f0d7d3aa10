use Rattle.std.proofs.Common.{◌++◌, map, ap, ◌∙◌}
use Rattle.sheet_object.specs.declared.sheet.SheetExport.{SheetExport}
use Rattle.sheet_object.specs.declared.sheet.SheetNeed.{SheetNeed}
use Rattle.sheet_object.specs.Writing.{names_of}
use Rattle.sheet_object.proofs.names.symbol_names.Goals as goal

pub returns : goal.returns
returns c =
    c.in_ok-push_names-2.ensures
    ∙ ap (λ l. l ++ map (λ (n : SheetNeed). n.name) c.as_slice-2.result.now)
    (c.in_ok-push_names.ensures
    ∙ ap (λ l. names_of l ++ map (λ (e : SheetExport). e.name) c.as_slice.result.now)
    c.new-symbols.ensures.items)
    ∙ (λ i. map (λ (e : SheetExport). e.name) (c.as_slice.ensures i)
    ++ map (λ (n : SheetNeed). n.name) (c.as_slice-2.ensures i))
