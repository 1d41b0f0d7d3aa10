use Rattle.std.proofs.Common.{refl, sym, subst, ◌&&◌, false, nat_le, rules}
use Rattle.glob_match.specs.Words.{HasPlaces, moved}
use Rattle.glob_match.proofs.StateLemmas.{still_places, moved_state}
use Rattle.glob_match.proofs.ReadLemmas.{empty_set, bang_read, first_read}
use Rattle.glob_match.proofs.reading.read_opened.Goals as goal

pub returns-in-93-clause-read : goal.returns-in-93-clause-read
returns-in-93-clause-read c text pattern t s =
    let old = c.args.state.now in
    let u = c.unlist.new.self in
    let new = c.take.new.self in
    rw (c.in-93.is)
    (empty_set text pattern old.first old.reached.items old.listed.items s (λ n. false) new.first
    new.reached.items new.listed.items (λ n. refl)
    (λ test h. subst (λ z. HasPlaces new.first new.reached.items
    (λ n. nat_le n z && moved test (λ m. false) n)) (sym t)
    (c.take.ensures.places test (λ n. false)
    (still_places old u test c.unlist.ensures.same h) c.unlist.ensures.listed)))

pub returns-in-33-clause-read : goal.returns-in-33-clause-read
returns-in-33-clause-read c text pattern t s =
    let old = c.args.state.now in
    let u = c.unlist.new.self in
    rw (c.in-33.is)
    (moved_state text _ _ old u c.unlist.ensures.same u.listed.items
    (bang_read text pattern old.first old.reached.items old.listed.items s u.listed.items
    c.unlist.ensures.listed))

pub returns-in_default-clause-read : goal.returns-in_default-clause-read
returns-in_default-clause-read c text pattern t s =
    let old = c.args.state.now in
    let u = c.unlist.new.self in
    moved_state text _ _ old u c.unlist.ensures.same u.listed.items
    (first_read text pattern old.first old.reached.items old.listed.items s c.args.byte
    u.listed.items (search rules) (search rules) c.unlist.ensures.listed)
