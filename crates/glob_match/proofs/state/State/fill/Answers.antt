use Rattle.std.proofs.Common.{◌≡◌, refl, sym, subst, length, drop, arith}
use Rattle.std.proofs.lemmas.List.{take_at}
use Rattle.glob_match.specs.Words.{HasBits, any_up_to}
use Rattle.glob_match.proofs.WordLemmas.{filled_places}
use Rattle.glob_match.proofs.state.State.fill.Goals as goal

pub returns-clause-places : goal.returns-clause-places
returns-clause-places c test h =
    let s = c.args.self.now in
    let new = c.fill.new.words in
    let longer = c.resize.new.self.items in
    let e = c.in_ok-resize.ensures in
    let count : length new ≡ c.resize.new.self.len
    = omega (arith, c.fill.auto.words, c.deref_mut.ensures.len) in
    c.cut.ensures.places (any_up_to test)
    (rw (take_at new (drop (length new) longer) c.resize.new.self.len count)
    (filled_places s.first c.args.size s.reached.items longer new test c.requires.low
    (omega (arith, e.len, c.resize.new.self.ok.0))
    (omega (arith, count, c.resize.new.self.ok.0))
    (λ k lt inside. e.by_index.0 k 0 (omega (arith, lt, e.len, c.resize.new.self.ok.0))
    (omega (arith, inside, s.reached.ok.0)))
    (λ k lt past. e.by_index.1 k 0 refl (omega (arith, past, s.reached.ok.0))
    (omega (arith, lt, e.len, c.resize.new.self.ok.0)))
    (λ t bits. c.fill.ensures t (subst (λ ws. HasBits ws t) (sym c.deref_mut.ensures.value) bits))
    h))
