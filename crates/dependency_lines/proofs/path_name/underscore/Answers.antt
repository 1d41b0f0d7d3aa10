use Rattle.std.proofs.Common.{◌≡◌, ◌==◌, ℕ, cond, get_or, arith}
use Rattle.std.proofs.lemmas.List.{get_or_default}
use Rattle.std.proofs.lemmas.List.Edits.{map_over_more}
use Rattle.dependency_lines.proofs.path_name.underscore.Goals as goal

pub loop-i-preserved : goal.loop-i-preserved
loop-i-preserved c =
    let f = λ (b : ℕ). cond (b == 45) 95 b in
    let old = get_or c.loop-i.text c.loop-i.i 0 in
    let new : c.with_underscore.result
    ≡ cond (get_or c.loop-i.text c.loop-i.i 0 == 45) 95 (get_or c.loop-i.text c.loop-i.i 0)
    = c.with_underscore.ensures in
    rw new (map_over_more f c.args.text.now c.loop-i.text c.loop-i.i old c.loop-i-test.true
    c.loop-i.invariant (get_or_default c.loop-i.text c.loop-i.i 0 old (omega arith)))
