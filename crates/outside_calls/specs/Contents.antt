-- The files of a machine, and what is listed of a folder.
use Rattle.std.specs.Prelude.{ℕ, nat_lt, nat_eq, ◌==◌, ◌&&◌, Bool, not, List, [], length, codes}
use Rattle.std.specs.List.{filter, filter_map, ends_with, list_any}
use Rattle.std.specs.FinMap as map
use Rattle.km_names.specs.Path.{path_below}
pub use Rattle.km_names.specs.Order.{by_bytes}
pub use Rattle.km_names.specs.Prefix.{rest_after}

-- The files of a machine: a map from the bytes of a path to the bytes of the file there.
abbrev pub Contents : Type 0
Contents = map.FinMap by_bytes (List ℕ)

-- The paths below a folder: the rest of each path that begins with the folder and a slash, in the
-- order of the paths.
abbrev pub rests_below : List ℕ → Contents → List (List ℕ)
rests_below folder files = filter_map (rest_after (path_below folder [])) (map.keys files)

-- The paths below a folder that pass the test.
abbrev pub listed : (List ℕ → Bool) → List ℕ → Contents → List (List ℕ)
listed fits folder files = filter fits (rests_below folder files)

-- Whether a path relative to a folder is one: it has at least one byte.
abbrev pub is_path : List ℕ → Bool
is_path rest = nat_lt 0 (length rest)

-- Whether this is the name of a configuration file in a folder: it ends in `.conf`, and is in no
-- folder below. modprobe.d(5), depmod.d(5).
abbrev pub is_conf_name : List ℕ → Bool
is_conf_name name = ends_with nat_eq name (codes ".conf") && not (list_any (λ b. b == 47) name)
