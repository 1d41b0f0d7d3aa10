use Rattle.std.proofs.Common.{◌∷◌, [], ◌++◌, codes, subst}
use Rattle.std.proofs.lemmas.Result.{on_ok_weaker}
use Rattle.sheet_object.specs.declared.symbols.Symbol.{Symbol}
use Rattle.sheet_object.specs.Writing.{named, Adds}
use Rattle.sheet_object.proofs.SymbolLemmas.{local-steps}
use Rattle.sheet_object.proofs.symbols.SymbolTable.push_local.Goals as goal

pub returns : goal.returns
returns c =
    let m = c.args.further.now.more.now in
    on_ok_weaker c.push_space.result
    (local-steps m c.args.export.now c.args.self.now c.push.new.self c.push_version.new.self
    c.push_space.new.self c.as_bytes-name.result.now c.table_section-section.result
    c.strings_section.result c.space_place-place.result
    c.as_bytes-name.ensures c.table_section-section.ensures c.strings_section.ensures
    c.space_place-place.ensures
    (subst (λ (s : Symbol). Adds c.args.self.now c.push.new.self
    (named (codes "__ksymtab_" ++ c.as_bytes-name.result.now) s ∷ [])) c.local.ensures
    c.in_ok-push.ensures)
    c.in_ok-push_version.ensures)
    c.push_space.ensures
