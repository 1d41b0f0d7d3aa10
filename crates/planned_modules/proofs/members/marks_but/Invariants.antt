use Rattle.std.proofs.Common.{◌≡◌, map, not}
use Rattle.relation_order.specs.Sets.{below}
use Rattle.name_table.specs.FirstSeen.{is_among}
use Rattle.dependency_lines.specs.Modules.{name_at}
use Rattle.planned_modules.proofs.members.marks_but.Given as goal

abbrev pub invariant-loop-place : goal.invariant-loop-place
invariant-loop-place l =
    l.marks.items ≡ map (λ x. not (is_among l.names (name_at l.modules x))) (below l.place)
