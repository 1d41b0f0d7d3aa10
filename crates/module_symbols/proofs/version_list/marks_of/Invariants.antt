use Rattle.std.proofs.Common.{◌≡◌, map, take}
use Rattle.module_symbols.specs.Listed.{mark_of}
use Rattle.module_symbols.proofs.version_list.marks_of.Given as goal

abbrev pub invariant-loop-version : goal.invariant-loop-version
invariant-loop-version l =
    l.marks.items ≡ map (λ v. mark_of v.name.now) (take l.version-index l.entries)
