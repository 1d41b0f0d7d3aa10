use Rattle.std.proofs.Common.{arith, ◌∙◌}
use Rattle.std.proofs.lemmas.Result.{on_ok_weaker}
use Rattle.km_outside.proofs.disk_listing.Walk.take.Goals as goal

-- an entry that isn't listed

pub returns-then-not-lists-clause-sound : goal.returns-then-not-lists-clause-sound
returns-then-not-lists-clause-sound g c = c.in_ok-meet.ensures.sound

pub returns-then-not-lists-clause-left : goal.returns-then-not-lists-clause-left
returns-then-not-lists-clause-left g c = omega (arith, c.in_ok-meet.ensures.left)

pub returns-then-not-lists-clause-listing : goal.returns-then-not-lists-clause-listing
returns-then-not-lists-clause-listing g c = c.in_ok-meet.ensures.listing

-- one that is kept

pub keep-requires-clause-sound : goal.keep-requires-clause-sound
keep-requires-clause-sound g c = c.in_ok-meet.ensures.sound

pub keep-requires-clause-room : goal.keep-requires-clause-room
keep-requires-clause-room g c = c.in_ok-meet.ensures.room

pub returns-clause-sound : goal.returns-clause-sound
returns-clause-sound g c = c.keep.ensures.sound

pub returns-clause-left : goal.returns-clause-left
returns-clause-left g c =
    on_ok_weaker c.keep.result (λ left. omega (arith, left, c.in_ok-meet.ensures.left))
    c.keep.ensures.left

pub returns-clause-listing : goal.returns-clause-listing
returns-clause-listing g c = c.keep.ensures.listing ∙ c.in_ok-meet.ensures.listing

pub returns-clause-past : goal.returns-clause-past
returns-clause-past g c = c.keep.ensures.past
