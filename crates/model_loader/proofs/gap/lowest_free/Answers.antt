use Rattle.std.proofs.Common.{arith}
use Rattle.model_loader.specs.declared.gap.Run.{Run}
use Rattle.model_loader.proofs.GapLemmas.{lowest-early}
use Rattle.model_loader.proofs.gap.lowest_free.Goals as goal

-- What a read past the end would give.
abbrev past : Run
past = record { base = 0; size = 0 }

pub returns-then-at-size-clause-lowest : goal.returns-then-at-size-clause-lowest
returns-then-at-size-clause-lowest c =
    let i = c.loop-run.invariant in
    lowest-early c.args.base c.args.size c.loop-run.at c.loop-run.run-index c.args.runs.now past
    i.low i.page c.requires.sorted c.loop-run-test.true
    (omega (arith, c.from.ensures, c.if-at-size.true)) i.met
