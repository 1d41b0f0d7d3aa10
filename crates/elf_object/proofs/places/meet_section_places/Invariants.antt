use Rattle.std.proofs.Common.{◌≡◌, ℕ, ◌<◌, ◌++◌, List, map, None}
use Rattle.std.specs.List.{range_with_len}
use Rattle.elf_object.specs.declared.place.RelaPlace.{RelaPlace}
use Rattle.elf_object.specs.Places.{entry_test, place_of}
use Rattle.elf_object.proofs.places.meet_section_places.Given as goal

abbrev pub invariant-loop-entry : goal.invariant-loop-entry
invariant-loop-entry g l =
    record {
      tests : (k : ℕ) → k < l.entry → entry_test l.sections.file l.index k ≡ None;
      has_met : (before : List RelaPlace) → g.M.MetPlaces.has_met l.initial.met before
          → g.M.MetPlaces.has_met l.met
          (before ++ map (place_of l.sections.file l.index) (range_with_len 0 l.entry));
    }
