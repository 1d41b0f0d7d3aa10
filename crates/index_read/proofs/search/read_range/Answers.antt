use Rattle.std.proofs.Common.{◌≡◌, ◌++◌, ◌-◌, take, drop, arith}
use Rattle.index_read.proofs.ReadLemmas.{Reading, begin, read_on, all_read, all_lost}
use Rattle.index_read.proofs.search.read_range.Goals as goal

pub loop-at-init : goal.loop-at-init
loop-at-init c =
    begin c.args.progress.now c.args.file.now c.args.range.0 c.args.range.1 c.requires.order
    c.requires.whole

pub loop-at-preserved : goal.loop-at-preserved
loop-at-preserved c =
    let e = c.in_ok-at.ensures in
    read_on c.args.progress.now c.loop-at.progress c.args.file.now c.args.range.0 c.loop-at.at
    c.args.range.1 c.loop-at.invariant c.push_next.new.self c.in_ok-at.at e.more e.high e.whole
    e.over e.read

pub returns-then-is_lost-clause-over : goal.returns-then-is_lost-clause-over
returns-then-is_lost-clause-over c text o =
    c.in_ok-at.ensures.over text (c.loop-at.invariant.over text o)

pub returns-then-is_lost-clause-read : goal.returns-then-is_lost-clause-read
returns-then-is_lost-clause-read c text pattern o h =
    let e = c.in_ok-at.ensures in
    let p = c.args.progress.now in
    let b = c.args.file.now in
    let start = c.args.range.0 in
    let end = c.args.range.1 in
    let new = c.push_next.new.self in
    let next = c.in_ok-at.at in
    let w : Reading p new b start next end
    = read_on p c.loop-at.progress b start c.loop-at.at end c.loop-at.invariant new next e.more
    e.high e.whole e.over e.read in
    all_lost p new b start next end w text pattern
    (c.is_lost.ensures text (pattern ++ take (next - start) (drop start b)) (w.over text o)
    (w.more text pattern o h) c.if-is_lost.true)

pub returns-clause-over : goal.returns-clause-over
returns-clause-over c text o = c.loop-at.invariant.over text o

pub returns-clause-read : goal.returns-clause-read
returns-clause-read c text pattern o h =
    let w = c.loop-at.invariant in
    let high = w.high in
    let done : c.loop-at.at ≡ c.args.range.1 = omega (arith, high, c.loop-at-test.false) in
    all_read c.args.progress.now c.loop-at.progress c.args.file.now c.args.range.0 c.loop-at.at
    c.args.range.1 w text pattern done o h
