use Rattle.std.proofs.Common.{◌≡◌, ◌+◌, ◌*◌, ◌^◌, ◌≤◌, take}
use Rattle.image_layout.specs.Offsets.{end_of, of_class}
use Rattle.image_layout.proofs.ends.end_of_first.Given as goal

abbrev pub invariant-loop-i : goal.invariant-loop-i
invariant-loop-i l =
    (l.end ≡ end_of l.start (of_class l.class (take l.i l.object.sections)))
    × (l.end ≤ l.start + l.i * 2 ^ 65)
