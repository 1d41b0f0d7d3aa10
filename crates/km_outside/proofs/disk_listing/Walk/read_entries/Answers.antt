use Rattle.std.proofs.Common.{refl, arith, ◌∙◌}
use Rattle.km_outside.proofs.disk_listing.Walk.read_entries.Goals as goal

pub loop-entry-init : goal.loop-entry-init
loop-entry-init g c = (c.requires, omega arith, refl)

pub loop-entry-preserved : goal.loop-entry-preserved
loop-entry-preserved g c =
    let taken = c.in_ok-take-in-Ok.ensures in
    let before = c.loop-entry.invariant in
    (taken.sound, omega (arith, taken.left, before.1), taken.listing ∙ before.2)

pub returns-in-Err-clause-listing : goal.returns-in-Err-clause-listing
returns-in-Err-clause-listing g c = c.loop-entry.invariant.2

pub returns-clause-sound : goal.returns-clause-sound
returns-clause-sound g c = c.loop-entry.invariant.0

pub returns-clause-left : goal.returns-clause-left
returns-clause-left g c = c.loop-entry.invariant.1

pub returns-clause-listing : goal.returns-clause-listing
returns-clause-listing g c = c.loop-entry.invariant.2
