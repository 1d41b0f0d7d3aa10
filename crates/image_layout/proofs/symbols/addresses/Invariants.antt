use Rattle.std.proofs.Common.{◌≡◌, map}
use Rattle.std.specs.List.{range_with_len}
use Rattle.image_layout.specs.Symbols.{address}
use Rattle.image_layout.proofs.symbols.addresses.Given as goal

abbrev pub invariant-loop-i : goal.invariant-loop-i
invariant-loop-i l =
    l.addresses.items ≡ map (address l.object l.base l.given) (range_with_len 0 l.i)
