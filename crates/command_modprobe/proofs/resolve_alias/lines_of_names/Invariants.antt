use Rattle.std.proofs.Common.{◌≡◌, ◌++◌, drop}
use Rattle.km_names.specs.Lines.{lines_text}
use Rattle.command_modprobe.proofs.resolve_alias.lines_of_names.Given as goal

abbrev pub invariant-loop-name : goal.invariant-loop-name
invariant-loop-name l =
    l.text ++ lines_text (drop l.name-index l.names) ≡ lines_text l.names
