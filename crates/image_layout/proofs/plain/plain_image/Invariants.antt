use Rattle.std.proofs.Common.{◌≡◌, map}
use Rattle.std.specs.List.{range_with_len}
use Rattle.image_layout.specs.Offsets.{image_size}
use Rattle.image_layout.specs.Plain.{filled, piece}
use Rattle.image_layout.proofs.plain.plain_image.Given as goal

abbrev pub invariant-loop-i : goal.invariant-loop-i
invariant-loop-i l =
    l.image ≡ filled (image_size l.object.sections) (map (piece l.object) (range_with_len 0 l.i))
