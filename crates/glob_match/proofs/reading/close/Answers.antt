use Rattle.std.proofs.Common.{subst, ◌&&◌, ◌||◌, ◌+◌, ℕ, Bool, nat_le, slice_index}
use Rattle.glob_pattern.specs.Parts.{is_listed}
use Rattle.glob_match.specs.Words.{HasBits, HasPlaces, moved}
use Rattle.glob_match.specs.States.{SamePlaces}
use Rattle.glob_match.specs.Progress.{flip, pending_items}
use Rattle.glob_match.specs.declared.state.State.{State}
use Rattle.glob_match.proofs.StateLemmas.{same_on, still_places, still_listed}
use Rattle.glob_match.proofs.ReadLemmas.{set_read}
use Rattle.glob_match.proofs.reading.close.Goals.{then-negated, else-negated}
use Rattle.glob_match.proofs.reading.close.Goals as goal

-- what the items list, negated or not
record Listed (old new : State) (test : ℕ → Bool) : Type 0 where
  same : SamePlaces old new
  bits : HasBits new.listed.items (λ n. test (old.first + n))

pub returns-clause-read : goal.returns-clause-read
returns-clause-read c text pattern t s =
    let old = c.args.state.now in
    let new = c.take.new.self in
    let items = pending_items c.args.pending in
    let bytes = c.args.bytes.now in
    set_read text pattern old.first old.reached.items old.listed.items c.args.negated c.args.pending
    s bytes new.first new.reached.items new.listed.items t.same
    (λ list g test h.
    let whole = λ (m : ℕ). list m || is_listed items (slice_index bytes m) in
    let done : Listed old c.if-negated.state (λ m. flip c.args.negated (whole m))
    = elim c.if-negated.branch [
      | then-negated v ↦ rw (v.state-is, v.if-negated.true)
          (record {
            same
                = same_on old c.add_pending.new.state v.list_others.new.self
                c.add_pending.ensures.same v.list_others.ensures.same;
            bits
                = v.list_others.ensures.listed (λ n. whole (old.first + n))
                (c.add_pending.ensures.listed (λ n. list (old.first + n)) g);
          })
      | else-negated v ↦ rw (v.state-is, v.if-negated.false)
          (record {
            same = c.add_pending.ensures.same;
            bits = c.add_pending.ensures.listed (λ n. list (old.first + n)) g;
          })
    ] in
    subst (λ z. HasPlaces new.first new.reached.items
    (λ n. nat_le n z && moved test (λ m. flip c.args.negated (whole m)) n)) t.size_is
    (c.take.ensures.places test (λ m. flip c.args.negated (whole m))
    (still_places old c.if-negated.state test done.same h)
    (still_listed old c.if-negated.state (λ m. flip c.args.negated (whole m)) done.same
    done.bits)))
