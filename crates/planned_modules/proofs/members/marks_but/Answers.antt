use Rattle.std.proofs.Common.{not, ap, ◌∙◌}
use Rattle.name_table.specs.FirstSeen.{is_among}
use Rattle.dependency_lines.specs.Modules.{name_at}
use Rattle.planned_modules.proofs.Marks.{mark-more}
use Rattle.planned_modules.proofs.members.marks_but.Goals as goal

pub loop-place-preserved : goal.loop-place-preserved
loop-place-preserved c =
    mark-more (λ x. not (is_among c.args.names.now (name_at c.args.modules.now x)))
    c.loop-place.place c.loop-place.marks.items c.push.new.self.items _ c.loop-place.invariant
    c.in_ok-push.ensures.items
    (ap not (c.contains.ensures ∙ ap (is_among c.args.names.now) c.name.ensures))
