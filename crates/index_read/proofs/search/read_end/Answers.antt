use Rattle.std.proofs.Common.{◌≡◌, ◌↔◌, ◌++◌, ◌-◌, IsTrue, subst, take, drop, arith}
use Rattle.glob_pattern.specs.Pattern.{Matches}
use Rattle.index_read.proofs.ReadLemmas.{Reading, begin, read_on, whole_key, all_read, all_lost}
use Rattle.index_read.proofs.ReadLemmas.{never}
use Rattle.index_read.proofs.search.read_end.Goals as goal

pub loop-at-init : goal.loop-at-init
loop-at-init c =
    begin c.args.progress.now c.args.file.now c.args.range.0 c.args.range.1 c.requires.order
    c.requires.whole

pub loop-at-preserved : goal.loop-at-preserved
loop-at-preserved c =
    let e = c.in_ok-at.ensures in
    read_on c.args.progress.now c.loop-at.progress c.args.file.now c.args.range.0 c.loop-at.at
    c.args.range.1 c.loop-at.invariant c.push_next.new.self c.in_ok-at.at e.more e.high e.whole
    e.over e.read

pub returns-in-Some-clause-decides : goal.returns-in-Some-clause-decides
returns-in-Some-clause-decides c text pattern o h =
    let b = c.args.file.now in
    let start = c.args.range.0 in
    let at = c.loop-at.at in
    let w = c.loop-at.invariant in
    subst (λ key. IsTrue c.in-Some.is_match ↔ Matches key text)
    (whole_key c.args.progress.now c.loop-at.progress b start at c.args.range.1 w pattern)
    (rw (c.in-Some.is) at
    (c.is_match_with.ensures b text (pattern ++ take (at - start) (drop start b))
    (c.requires.ends text o) (w.over text o) (w.more text pattern o h)))

pub returns-then-is_lost-clause-over : goal.returns-then-is_lost-clause-over
returns-then-is_lost-clause-over c text o =
    c.in_ok-at.ensures.over text (c.loop-at.invariant.over text o)

pub returns-then-is_lost-clause-decides : goal.returns-then-is_lost-clause-decides
returns-then-is_lost-clause-decides c text pattern o h =
    let e = c.in_ok-at.ensures in
    let p = c.args.progress.now in
    let b = c.args.file.now in
    let start = c.args.range.0 in
    let end = c.args.range.1 in
    let new = c.push_next.new.self in
    let next = c.in_ok-at.at in
    let w : Reading p new b start next end
    = read_on p c.loop-at.progress b start c.loop-at.at end c.loop-at.invariant new next e.more
    e.high e.whole e.over e.read in
    never text (pattern ++ take (end - start) (drop start b))
    (all_lost p new b start next end w text pattern
    (c.is_lost.ensures text (pattern ++ take (next - start) (drop start b)) (w.over text o)
    (w.more text pattern o h) c.if-is_lost.true))

pub returns-clause-over : goal.returns-clause-over
returns-clause-over c text o = c.loop-at.invariant.over text o

pub returns-clause-decides : goal.returns-clause-decides
returns-clause-decides c text pattern o h =
    let b = c.args.file.now in
    let start = c.args.range.0 in
    let end = c.args.range.1 in
    let w = c.loop-at.invariant in
    let high = w.high in
    let done : c.loop-at.at ≡ end = omega (arith, high, c.loop-at-test.false) in
    c.is_match.ensures text (pattern ++ take (end - start) (drop start b)) (w.over text o)
    (all_read c.args.progress.now c.loop-at.progress b start c.loop-at.at end w text pattern
    done o h)
