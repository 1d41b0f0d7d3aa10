use Rattle.glob_match.proofs.StateLemmas.{moved_state}
use Rattle.glob_match.proofs.ReadLemmas.{items_read}
use Rattle.glob_match.proofs.reading.read_inside.Goals as goal

pub returns-then-byte-eq93-clause-read : goal.returns-then-byte-eq93-clause-read
returns-then-byte-eq93-clause-read c text pattern t s =
    rw (c.if-byte-eq93.true) (c.close.ensures.read text pattern t s)

pub returns-else-byte-eq93-clause-read : goal.returns-else-byte-eq93-clause-read
returns-else-byte-eq93-clause-read c text pattern t s =
    let old = c.args.state.now in
    let new = c.add_item.new.state in
    moved_state text _ _ old new c.add_item.ensures.same new.listed.items
    (items_read text pattern old.first old.reached.items old.listed.items c.args.negated
    c.args.pending s c.args.byte c.add_item.result new.listed.items c.if-byte-eq93.false
    (λ items o. c.add_item.ensures.items text c.args.negated items t o))
