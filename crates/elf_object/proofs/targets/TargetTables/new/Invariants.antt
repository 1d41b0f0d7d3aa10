use Rattle.std.proofs.Common.{◌-◌}
use Rattle.elf_object.specs.Inner.{AreTargetTables}
use Rattle.elf_object.proofs.targets.TargetTables.new.Given as goal

abbrev pub invariant-loop-done : goal.invariant-loop-done
invariant-loop-done l =
    AreTargetTables l.sections.file l.first.items l.next.items (l.count - l.done)
