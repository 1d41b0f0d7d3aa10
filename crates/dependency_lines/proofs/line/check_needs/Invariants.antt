use Rattle.std.proofs.Common.{◌≡◌, take, None}
use Rattle.dependency_lines.specs.GoodPaths.{AreKept, are_good_needs, is_good}
use Rattle.dependency_lines.specs.Modules.{bad_among}
use Rattle.dependency_lines.proofs.line.check_needs.Given as goal

abbrev pub invariant-loop-place : goal.invariant-loop-place
invariant-loop-place g l =
    record {
      none : bad_among (g.K.KnownNames.has l.known) (take l.place l.lines) ≡ None;
      paths : AreKept (is_good (g.K.KnownNames.has l.known)) l.paths.slots.items;
      lists : AreKept (are_good_needs (g.K.KnownNames.has l.known)) l.lists.slots.items;
    }
