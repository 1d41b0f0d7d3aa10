use Rattle.std.proofs.Common.{◌≡◌, ◌≤◌}
use Rattle.km_outside.specs.WalkSeen.{IsSoundWalk, walk_left}
use Rattle.km_outside.proofs.disk_listing.Walk.read_entries.Given as goal

abbrev pub invariant-loop-entry : goal.invariant-loop-entry
invariant-loop-entry g l =
    IsSoundWalk l.self × (walk_left l.self ≤ walk_left l.initial.self)
    × (l.self.listing ≡ l.initial.self.listing)
