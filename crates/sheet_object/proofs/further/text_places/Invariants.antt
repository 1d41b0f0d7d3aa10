use Rattle.std.proofs.Common.{◌≡◌, map}
use Rattle.std.specs.List.{range_with_len}
use Rattle.sheet_object.specs.Further.{text_place}
use Rattle.sheet_object.proofs.further.text_places.Given as goal

abbrev pub invariant-loop-space : goal.invariant-loop-space
invariant-loop-space l = record {
  places : l.places.items ≡ map (text_place l.spaces) (range_with_len 0 l.space-index);
  place : l.place ≡ text_place l.spaces l.space-index;
}
