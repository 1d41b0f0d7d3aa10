use Rattle.std.proofs.Common.{◌≡◌, ℕ, ◌<◌, None}
use Rattle.std.specs.List.{flat_map, range_with_len}
use Rattle.elf_object.specs.Places.{rela_test, section_places}
use Rattle.elf_object.proofs.places.meet_places.Given as goal

abbrev pub invariant-loop-index : goal.invariant-loop-index
invariant-loop-index g l =
    record {
      tests : (k : ℕ) → k < l.index → rela_test l.sections.file k ≡ None;
      has_met : g.M.MetPlaces.has_met l.met
          (flat_map (section_places l.sections.file) (range_with_len 0 l.index));
    }
