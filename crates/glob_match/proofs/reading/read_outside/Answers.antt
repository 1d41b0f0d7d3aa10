use Rattle.std.proofs.Common.{◌≢◌, ap, subst, ◌∙◌, ◌&&◌, ◌==◌, ℕ, nat_le, slice_index, arith, rules}
use Rattle.std.proofs.lemmas.Bool.{le-leb, and_from}
use Rattle.glob_pattern.specs.Pattern.{star, question, bracket}
use Rattle.glob_match.specs.Words.{HasPlaces, is_between, moved, any_up_to}
use Rattle.glob_match.proofs.ReadLemmas.{star_read, bracket_read, question_read, byte_read}
use Rattle.glob_match.proofs.ReadLemmas.{same_between}
use Rattle.glob_match.proofs.reading.read_outside.Goals as goal

pub returns-in_ok-fill-in-42-clause-read : goal.returns-in_ok-fill-in-42-clause-read
returns-in_ok-fill-in-42-clause-read c text pattern t s =
    let old = c.args.state.now in
    let new = c.fill.new.self in
    rw (c.in-42.is)
    (star_read text pattern old.first old.reached.items old.listed.items s new.first
    new.reached.items new.listed.items
    (λ test h. subst
    (λ z. HasPlaces new.first new.reached.items (λ n. nat_le n z && any_up_to test n))
    t.size_is (c.in_ok-fill-in-42.ensures.places test h)))

pub returns-in-63-clause-read : goal.returns-in-63-clause-read
returns-in-63-clause-read c text pattern t s =
    let old = c.args.state.now in
    let new = c.take_range.new.state in
    let list = λ (m : ℕ). is_between 0 255 (slice_index c.args.bytes.now m) in
    rw (c.in-63.is)
    (question_read text pattern old.first old.reached.items old.listed.items s list new.first
    new.reached.items new.listed.items
    (λ n. let fits
    = c.type_inv.bytes n in and_from _ _
    (le-leb 0 (slice_index c.args.bytes.now n) (omega arith))
    (le-leb (slice_index c.args.bytes.now n) 255 (omega (arith, fits))))
    (λ test h. subst
    (λ z. HasPlaces new.first new.reached.items (λ n. nat_le n z && moved test list n))
    t.size_is (c.take_range.ensures.places test h)))

pub returns-in-91-clause-read : goal.returns-in-91-clause-read
returns-in-91-clause-read c text pattern t s =
    let old = c.args.state.now in
    rw (c.in-91.is)
    (bracket_read text pattern old.first old.reached.items old.listed.items s old.listed.items)

pub returns-in_default-clause-read : goal.returns-in_default-clause-read
returns-in_default-clause-read c text pattern t s =
    let byte = c.args.byte in
    let old = c.args.state.now in
    let new = c.take_range-in_default.new.state in
    let list = λ (m : ℕ). is_between byte byte (slice_index c.args.bytes.now m) in
    let a : byte ≢ star = search rules in
    let b : byte ≢ question = search rules in
    let d : byte ≢ bracket = search rules in
    byte_read text pattern old.first old.reached.items old.listed.items s byte list new.first
    new.reached.items new.listed.items a b d
    (λ n. same_between byte (slice_index c.args.bytes.now n) ∙ ap (λ x. x == byte) (t.same n))
    (λ test h. subst
    (λ z. HasPlaces new.first new.reached.items (λ n. nat_le n z && moved test list n))
    t.size_is (c.take_range-in_default.ensures.places test h))
