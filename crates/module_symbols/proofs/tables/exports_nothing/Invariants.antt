use Rattle.std.proofs.Common.{◌≡◌, [], map, take}
use Rattle.std.specs.List.{filter_map}
use Rattle.module_symbols.specs.declared.role.Role.TheVariants.{Export}
use Rattle.module_symbols.specs.Roles.{stated_name}
use Rattle.module_symbols.specs.Exports.{export_of}
use Rattle.module_symbols.proofs.tables.exports_nothing.Given as goal

abbrev pub invariant-loop-i : goal.invariant-loop-i
invariant-loop-i l =
    map (export_of l.object) (filter_map (stated_name Export) (take l.i l.object.symbols)) ≡ []
