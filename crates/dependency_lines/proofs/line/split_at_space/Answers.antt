use Rattle.std.proofs.Common.{◌==◌, ap, length, arith}
use Rattle.dependency_lines.proofs.Lines.{any-short, any-whole}
use Rattle.dependency_lines.proofs.line.split_at_space.Goals as goal

pub returns-then-before-text-clause-after : goal.returns-then-before-text-clause-after
returns-then-before-text-clause-after c =
    let size = ap length c.split_at_byte.ensures.before in (
      any-short (λ b. b == 32) c.args.text.now (omega (arith, size, c.if-before-text.true)),
      c.split_at_byte.ensures.after,
    )

pub returns-else-before-text-clause-after : goal.returns-else-before-text-clause-after
returns-else-before-text-clause-after c =
    let size = ap length c.split_at_byte.ensures.before in
    any-whole (λ b. b == 32) c.args.text.now (omega (arith, size, c.if-before-text.false))
