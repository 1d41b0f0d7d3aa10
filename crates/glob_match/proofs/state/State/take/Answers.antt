use Rattle.std.proofs.Common.{◌≡◌, sym, subst, ◌+◌, length, drop, arith}
use Rattle.std.proofs.lemmas.List.{take_at}
use Rattle.glob_match.specs.Words.{HasBits, moved}
use Rattle.glob_match.proofs.WordLemmas.{kept_places}
use Rattle.glob_match.proofs.state.State.take.Goals as goal

pub returns-clause-places : goal.returns-clause-places
returns-clause-places c test list h g =
    let s = c.args.self.now in
    let new = c.keep.new.words in
    let count : length new ≡ s.reached.len
    = omega (arith, c.keep.auto.words, c.deref_mut.ensures.len) in
    let bits
    = c.keep.ensures (λ n. test (s.first + n)) (λ n. list (s.first + n))
    (subst (λ ws. HasBits ws (λ n. test (s.first + n))) (sym c.deref_mut.ensures.value)
    h.bits)
    (subst (λ ws. HasBits ws (λ n. list (s.first + n))) (sym c.deref.ensures.value) g) in
    c.cut.ensures.places (moved test list)
    (rw (take_at new (drop (length new) s.reached.items) s.reached.len count)
    (kept_places s.first s.reached.items new test list (omega (arith, count, s.reached.ok.0)) h bits
    c.args.size))
