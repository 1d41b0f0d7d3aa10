use Rattle.std.proofs.Common.{◌≡◌, take, map}
use Rattle.std.specs.List.{range_with_len}
use Rattle.image_layout.specs.Offsets.{offset}
use Rattle.image_layout.specs.Ends.{AreEnds}
use Rattle.image_layout.proofs.layout.Layout.new.Given as goal

abbrev pub invariant-loop-i : goal.invariant-loop-i
invariant-loop-i l =
    AreEnds l.object.sections (take l.i l.object.sections) l.ends
    × (l.offsets.items ≡ map (offset l.object.sections) (range_with_len 0 l.i))
