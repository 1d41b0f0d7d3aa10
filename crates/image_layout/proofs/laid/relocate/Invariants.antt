use Rattle.std.proofs.Common.{◌≡◌, map, take, None}
use Rattle.x86_relocate.specs.Patched.{patched, first_too_wide}
use Rattle.image_layout.specs.Laid.{patch_of}
use Rattle.image_layout.proofs.laid.relocate.Given as goal

abbrev pub invariant-loop-i : goal.invariant-loop-i
invariant-loop-i l =
    let done = map (patch_of l.object l.base l.addresses) (take l.i l.object.places) in
    (l.image ≡ patched l.initial.image done) × (first_too_wide done ≡ None)
