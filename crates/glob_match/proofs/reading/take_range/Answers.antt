use Rattle.std.proofs.Common.{ℕ, false, slice_index}
use Rattle.glob_match.specs.Words.{is_between}
use Rattle.glob_match.proofs.StateLemmas.{still_places, still_listed}
use Rattle.glob_match.proofs.reading.take_range.Goals as goal

pub returns-clause-places : goal.returns-clause-places
returns-clause-places c test h =
    let u = c.unlist.new.self in
    let l = c.list.new.self in
    let list = λ (m : ℕ). is_between c.args.low c.args.high (slice_index c.args.bytes.now m) in
    c.take.ensures.places test list
    (still_places u l test c.list.ensures.same
    (still_places c.args.state.now u test c.unlist.ensures.same h))
    (still_listed u l list c.list.ensures.same
    (c.list.ensures.listed (λ n. false) c.unlist.ensures.listed))
