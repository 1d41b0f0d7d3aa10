use Rattle.std.proofs.Common.{◌≡◌, sym, subst, ◌∙◌, length, drop, arith}
use Rattle.std.proofs.lemmas.List.{take_at}
use Rattle.glob_match.specs.Words.{HasBits}
use Rattle.glob_match.proofs.WordLemmas.{cut_places}
use Rattle.glob_match.proofs.state.State.cut.Goals as goal

pub returns-then-last-len-clause-places : goal.returns-then-last-len-clause-places
returns-then-last-len-clause-places c test h =
    let s = c.args.self.now in
    let size = c.args.size in
    let new = c.cut.new.words in
    let count : length new ≡ c.truncate.new.self.len
    = omega (arith, c.cut.auto.words, c.deref_mut.ensures.len) in
    rw (take_at new (drop (length new) c.truncate.new.self.items) c.truncate.new.self.len count)
    (cut_places s.first size s.reached.items new test c.requires.low
    (omega (arith, c.if-last-len.true, c.len.ensures, s.reached.ok.0))
    (omega (arith, count, c.truncate.ensures.len, c.if-last-len.true, c.len.ensures))
    (λ t bits. c.cut.ensures t
    (subst (λ ws. HasBits ws t) (sym (c.deref_mut.ensures.value ∙ c.truncate.ensures.items))
    bits)) h)
