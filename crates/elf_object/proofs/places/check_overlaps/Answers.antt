use Rattle.elf_object.proofs.OverlapLemmas.{overlaps-none}
use Rattle.elf_object.proofs.PlaceLemmas.{All-places_of}
use Rattle.elf_object.proofs.places.check_overlaps.Goals as goal

pub returns-then-order-clause-passed : goal.returns-then-order-clause-passed
returns-then-order-clause-passed c =
    let b = c.args.sections.now.file in
    overlaps-none b c.requires.small
    (All-places_of b c.requires.read.table c.requires.read.within c.requires.fit
    c.requires.passed)
    (c.requires.order c.if-order.true).once
