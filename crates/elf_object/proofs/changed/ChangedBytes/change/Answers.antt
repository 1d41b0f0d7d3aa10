use Rattle.std.proofs.Common.{◌≡◌, ◌+◌, ◌≤◌, ◌∙◌, arith}
use Rattle.elf_object.proofs.changed.ChangedBytes.change.Goals as goal

pub loop-at-preserved : goal.loop-at-preserved
loop-at-preserved c =
    let low : c.args.offset ≤ c.loop-at.at = omega (arith, c.loop-at.auto.at) in
    record {
      changed = λ count has.
          c.change_byte.ensures.changed c.args.offset count low
          (c.loop-at.invariant.changed count has);
      mark = c.change_byte.ensures.mark ∙ c.loop-at.invariant.mark;
      size = c.change_byte.ensures.size ∙ c.loop-at.invariant.size;
    }

pub returns-clause-changed : goal.returns-clause-changed
returns-clause-changed c = λ count has.
    let end : c.loop-at.at ≡ c.args.offset + c.args.width
    = omega (arith, c.loop-at-test.false, c.loop-at.auto.at-end, c.from.ensures) in
    rw end at (c.loop-at.invariant.changed count has)
