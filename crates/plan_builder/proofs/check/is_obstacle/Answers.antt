use Rattle.std.proofs.Common.{◌∙◌, sym}
use Rattle.std.specs.Prelude.{◌||◌}
use Rattle.symbol_binding.specs.declared.unbound.Unbound.TheVariants.{Double}
use Rattle.symbol_binding.specs.Unmet.{collides}
use Rattle.name_table.specs.FirstSeen.{is_among}
use Rattle.plan_builder.specs.Obstacles.{is_obstacle}
use Rattle.plan_builder.proofs.check.is_obstacle.Goals as goal

pub returns-in-Double-Double : goal.returns-in-Double-Double
returns-in-Double-Double c =
    let w = c.in-Double-Double in
    let planned = is_among c.args.planned.now in
    let there = is_among c.args.there.now in
    c.collides.ensures w.symbol-1
    ∙ (λ i. collides (λ path. planned path || there path) planned
    (Double w.symbol-1 (c.as_bytes.ensures i) (c.as_bytes-in-Double-Double.ensures i)))
    ∙ sym (λ i. is_obstacle (w.is-0 i) planned there (w.is-1 i))
