-- What the names of a request stand for. modprobe(8), modprobe.d(5).
use Rattle.std.specs.Prelude.{ℕ, ◌==◌, Bool, List, find}
use Rattle.std.specs.List.{flat_map}
use Rattle.km_names.specs.AliasForm.{normal_or_itself}
use Rattle.name_lookup.specs.declared.found.Found.{Found}
use Rattle.name_lookup.specs.Found.{found}
use Rattle.name_lookup.specs.Maps.{maps_of}
use Rattle.km_course.specs.Course.{Outcome, value_unless}
use Rattle.km_course.specs.declared.refusal.Refusal.TheVariants.{NotFound}
use Rattle.stages_known.specs.declared.known.Known.{Known}

-- What is found for a name. The blacklist applies to names too, or not.
abbrev pub found_in : Known → Bool → List ℕ → Found
found_in known everywhere name = found known.rules (maps_of known.indexes) everywhere name

-- A name stands for nothing: all its lists are empty.
abbrev pub is_unknown : Known → Bool → List ℕ → Bool
is_unknown known everywhere name = (found_in known everywhere name).list == 0

-- What names stand for, in the order of the names.
abbrev pub found_names : Known → Bool → List (List ℕ) → List (List ℕ)
found_names known everywhere names = flat_map (λ name. (found_in known everywhere name).names) names

-- What the names result in: what they stand for, unless one stands for nothing; then the first such
-- name is reported.
unfoldable pub names_outcome : Known → Bool → List (List ℕ) → Outcome (List (List ℕ))
names_outcome known everywhere names =
    value_unless (λ name. NotFound (normal_or_itself name))
    (find (is_unknown known everywhere) names) (found_names known everywhere names)
