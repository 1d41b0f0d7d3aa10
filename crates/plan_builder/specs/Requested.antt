-- What the names of a request are resolved to. modprobe(8).
use Rattle.std.specs.Prelude.{ℕ, Bool, List}
use Rattle.std.specs.List.{list_any}
use Rattle.name_table.specs.FirstSeen.{is_among}
use Rattle.name_lookup.specs.declared.found.Found.{Found}
use Rattle.plan_sources.specs.Sources.{Sources}
use Rattle.planned_modules.specs.Members.{founds_of}
use Rattle.plan_builder.specs.declared.request.Request.{Request}

-- What is found for each requested name.
abbrev pub found_for : Sources → Request → List Found
found_for s request = founds_of s request.names

-- Whether one of the lists that were found has this name.
abbrev pub is_member_of : List Found → List ℕ → Bool
is_member_of founds name = list_any (λ f. is_among f.names name) founds

-- Whether a requested name is resolved to this one.
abbrev pub is_member : Sources → Request → List ℕ → Bool
is_member s request name = is_member_of (found_for s request) name
