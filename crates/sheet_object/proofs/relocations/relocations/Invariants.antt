use Rattle.std.proofs.Common.{◌≡◌, take}
use Rattle.sheet_object.specs.Contents.{places_bytes}
use Rattle.sheet_object.proofs.relocations.relocations.Given as goal

abbrev pub invariant-loop-k : goal.invariant-loop-k
invariant-loop-k l =
    l.content.items ≡ places_bytes l.sheet l.further.more.now 0 (take l.k l.sheet.places)
