use Rattle.std.proofs.Common.{◌≡◌, take, None}
use Rattle.name_table.specs.FirstSeen.{is_among}
use Rattle.plan_builder.specs.Obstacles.{first_line}
use Rattle.plan_builder.proofs.check.check_unmet.Given as goal

abbrev pub invariant-loop-line : goal.invariant-loop-line
invariant-loop-line l =
    first_line l.kind (is_among l.planned) (is_among l.there) (take l.line-index l.unmet) ≡ None
