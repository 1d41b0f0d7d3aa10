use Rattle.std.proofs.Common.{◌∙◌, sym}
use Rattle.elf_object.specs.Symbols.{owned_symbol}
use Rattle.module_symbols.specs.declared.role.Role.TheVariants.{Export}
use Rattle.module_symbols.specs.Roles.{stated_name}
use Rattle.module_symbols.specs.Exports.{export_of}
use Rattle.module_symbols.proofs.ListLemmas.{filter_map-given, filter_map-silent}
use Rattle.module_symbols.proofs.exports.read_exports.Goals as goal
use Rattle.module_symbols.proofs.exports.read_exports.Goals.{in-Some+in_ok-names+in_ok-spaces+in_ok-searches+in_ok-read_export+in_ok-push}
use Rattle.module_symbols.proofs.exports.read_exports.Goals.{in_default}

pub loop-i-preserved : goal.loop-i-preserved
loop-i-preserved c =
    let o = c.args.object.now in
    let i = c.loop-i.i in
    let s = owned_symbol c.symbol.result in
    elim c.match-stated_name.branch [
      | in-Some+in_ok-names+in_ok-spaces+in_ok-searches+in_ok-read_export+in_ok-push w ↦
          w.exports-is ∙ w.in_ok-push.ensures.ok
          ∙ rw (c.loop-i.invariant, w.in_ok-read_export.ensures)
          (sym (filter_map-given (stated_name Export) (export_of o) o.symbols i s w.in-Some.name.now
          c.symbol.ensures.symbol w.in-Some.ensures))
      | in_default w ↦
          w.exports-is ∙ c.loop-i.invariant
          ∙ sym (filter_map-silent (stated_name Export) (export_of o) o.symbols i s
          c.symbol.ensures.symbol w.in_default.ensures)
    ]
