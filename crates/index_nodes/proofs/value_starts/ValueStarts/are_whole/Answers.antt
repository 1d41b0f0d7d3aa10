use Rattle.std.proofs.Common.{◌≡◌, sym, ap, subst, ◌∙◌, ◌+◌, ◌-◌, drop, suc, vec_len, arith}
use Rattle.std.proofs.lemmas.List.{get_or_read}
use Rattle.index_format.specs.Check.{whole_values}
use Rattle.index_nodes.specs.ValueStarts.{IsLastStart}
use Rattle.index_nodes.proofs.ValueStartLemmas.{cut_after, next_start, none_whole, starts_next}
use Rattle.index_nodes.proofs.value_starts.ValueStarts.are_whole.Goals as goal
use Rattle.index_nodes.proofs.value_starts.ValueStarts.are_whole.Goals.{After-last_start}

-- the last place that is known
limit_is : (c : After-last_start)
    → IsLastStart c.args.bytes.now (c.len-in-loop-self.result - 1) c.index-limit.result.now
limit_is c =
    let known = c.loop-self.invariant in
    let last = c.loop-self.self.last in
    let n = c.len-in-loop-self.result - 1 in
    let size : c.len-in-loop-self.result ≡ vec_len last = c.len-in-loop-self.ensures in
    subst (IsLastStart c.args.bytes.now n)
    (sym (get_or_read last.items n c.index-limit.result.now
    (omega (arith, size, known.some, last.ok.0)) c.index-limit.ensures 0))
    (known.each n (omega (arith, size, known.some)))

pub returns-in_default-clause-whole : goal.returns-in_default-clause-whole
returns-in_default-clause-whole c =
    let b = c.args.bytes.now in
    let n = c.len-in-loop-self.result - 1 in
    let size : c.len-in-loop-self.result ≡ vec_len c.loop-self.self.last
    = c.len-in-loop-self.ensures in
    let more : c.args.count - suc n + suc n ≡ c.args.count
    = omega (arith, c.loop-self-test.true, c.loop-self.invariant.some, size, c.len.ensures) in
    sym (ap (λ m. whole_values m (drop c.args.start b)) (sym more)
    ∙ none_whole b (suc n) (c.args.count - suc n)
    (λ place within. cut_after b n c.index-limit.result.now place
    (limit_is (goal.at.returns-in_default-clause-whole c).After-last_start)
    (λ k from to. c.in_default.ensures k (omega (arith, from)) to) within)
    c.args.start c.requires.within)

pub loop-self-preserved : goal.loop-self-preserved
loop-self-preserved c =
    let b = c.args.bytes.now in
    let n = c.len-in-loop-self.result - 1 in
    let size : suc n ≡ vec_len c.loop-self.self.last
    = omega (arith, c.len-in-loop-self.ensures, c.loop-self.invariant.some) in
    let limit = limit_is (goal.at.loop-self-preserved c).After-last_start in
    starts_next b c.loop-self.self (record { last = c.push.new.self }) c.in-Some.next
    c.loop-self.invariant c.in_ok-push.ensures.items
    (subst (λ m. IsLastStart b m c.in-Some.next) size
    (next_start b n c.index-limit.result.now c.in-Some.next limit c.in-Some.ensures.0
    c.in-Some.ensures.1 c.in-Some.ensures.2))
