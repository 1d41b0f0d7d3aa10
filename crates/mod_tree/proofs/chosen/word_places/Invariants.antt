use Rattle.std.proofs.Common.{take}
use Rattle.mod_tree.specs.Places.{IsPlacesOf}
use Rattle.mod_tree.proofs.chosen.word_places.Given as goal

abbrev pub invariant-loop-word : goal.invariant-loop-word
invariant-loop-word l = IsPlacesOf (take l.word-index l.word-items) l.places
