use Rattle.std.proofs.Common.{◌≡◌}
use Rattle.km_outside.specs.WalkSeen.{IsSoundWalk, walk_left}
use Rattle.km_outside.proofs.disk_listing.Walk.read_pending.Given as goal

abbrev pub invariant-loop-folder : goal.invariant-loop-folder
invariant-loop-folder g l = IsSoundWalk l.self × (l.self.listing ≡ l.initial.self.listing)

abbrev pub decreases-loop-folder : goal.decreases-loop-folder
decreases-loop-folder g l = walk_left l.self
