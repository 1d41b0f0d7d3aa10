use Rattle.std.proofs.Common.{◌≡◌, map, take}
use Rattle.std.specs.List.{enumerate_from, filter}
use Rattle.module_symbols.specs.Needs.{is_need, need_of}
use Rattle.module_symbols.specs.Versions.{version_list}
use Rattle.module_symbols.proofs.needs.needs_by.Given as goal

abbrev pub invariant-loop-i : goal.invariant-loop-i
invariant-loop-i l =
    l.needs
    ≡ map (λ p. need_of (version_list l.object) p.0 p.1)
    (filter (λ p. is_need p.0 p.1) (enumerate_from 0 (take l.i l.object.symbols)))
