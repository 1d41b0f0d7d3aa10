use Rattle.image_layout.proofs.NextLemmas.{next-kept, next-unkept}
use Rattle.image_layout.proofs.layout.next_offset.Goals as goal

pub returns-then-section : goal.returns-then-section
returns-then-section c =
    λ xs i is are. next-kept xs i c.args.section.now c.args.ends.now c.place.new.self c.place.result
    is c.if-section.true are c.place.ensures.at c.place.ensures.ends

pub returns-else-section : goal.returns-else-section
returns-else-section c =
    λ xs i is are. next-unkept xs i c.args.section.now c.args.ends.now is c.if-section.false are
