use Rattle.std.proofs.Common.{◌≡◌, ◌+◌, ◌-◌, ◌<◌, length, below_more, arith}
use Rattle.dependency_lines.proofs.NamedFiles.{name-is}
use Rattle.dependency_lines.proofs.path_name.ends_with_name.Goals as goal

pub loop-i-preserved : goal.loop-i-preserved
loop-i-preserved c =
    below_more _ _ c.loop-i.invariant (c.stands_for.ensures c.if-not-stands_for.false)

pub returns : goal.returns
returns c = λ _.
    let size = length c.args.name.now in
    let start = length c.args.path.now - 3 - size in
    let some : 0 < start = omega (arith, c.if-path-lt4.false, c.if-path-size.false) in
    let long : start + size + 3 ≡ length c.args.path.now
    = omega (arith, c.if-path-lt4.false, c.if-path-size.false) in
    name-is c.args.path.now c.args.name.now start some long c.if-path-start-ne47.false
    c.if-path-start-ne46.false c.if-path-start-ne107.false c.if-path-start-ne111.false
    (λ k l. c.loop-i.invariant k (omega (arith, l, c.loop-i-test.false)))
