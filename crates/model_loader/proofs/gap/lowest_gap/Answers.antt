use Rattle.std.proofs.Common.{arith}
use Rattle.model_loader.proofs.GapLemmas.{gap-found, gap-none, paged-runs}
use Rattle.model_loader.proofs.gap.lowest_gap.Goals as goal

pub lowest_free-at-requires-clause-paged : goal.lowest_free-at-requires-clause-paged
lowest_free-at-requires-clause-paged c =
    rw c.deref.ensures.value
    (paged-runs c.args.entries.now c.in_ok-runs.runs.items c.in_ok-runs.ensures.runs
    c.requires.paged)

pub returns-then-at-size : goal.returns-then-at-size
returns-then-at-size c =
    gap-found c.args.region.now c.args.entries.now c.in_ok-runs.runs.items c.args.size
    c.lowest_free-at.result c.args.region.now.pages c.in_ok-runs.ensures.runs (omega arith)
    (rw c.deref.ensures.value at c.lowest_free-at.ensures.lowest) (omega arith)

pub returns : goal.returns
returns c =
    gap-none c.args.region.now c.args.entries.now c.in_ok-runs.runs.items c.args.size
    c.lowest_free-at.result c.in_ok-runs.ensures.runs
    (rw c.deref.ensures.value at c.lowest_free-at.ensures.lowest) (omega arith)
