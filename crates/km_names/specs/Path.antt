-- Paths of modules: their names, how they are joined, and which are of compressed modules.
use Rattle.std.specs.Prelude.{ℕ, ◌-◌, List, ◌∷◌, ◌++◌, Bool, ◌||◌, ◌==◌, if◌then◌else◌, codes, map}
use Rattle.std.specs.Prelude.{length, take, nat_eq}
use Rattle.std.specs.List.{before_first, after_last, suffix_len, ends_with}

-- The text with each `-` replaced by `_`: names of modules that differ only in this are the same.
-- modprobe(8).
abbrev pub underscored : List ℕ → List ℕ
underscored text = map (λ b. if b == 45 then 95 else b) text

-- The name of the module at a path: the bytes after the last `/`, up to the first `.`, each `-`
-- replaced by `_`. modprobe(8), modules.dep(5).
abbrev pub module_name : List ℕ → List ℕ
module_name path = underscored (before_first (λ b. b == 46) (after_last (λ b. b == 47) path))

-- Whether the path is of a compressed module: it ends in `.ko.gz`, `.ko.xz` or `.ko.zst`.
-- depmod(8).
abbrev pub is_compressed : List ℕ → Bool
is_compressed path =
    ends_with nat_eq path (codes ".ko.gz")
    || ends_with nat_eq path (codes ".ko.xz")
    || ends_with nat_eq path (codes ".ko.zst")

-- The path without the slashes at its end.
abbrev pub without_end_slashes : List ℕ → List ℕ
without_end_slashes path = take (length path - suffix_len (λ b. b == 47) path) path

-- A path below a folder: the folder's path without the slashes at its end, one `/`, and the rest.
abbrev pub path_below : List ℕ → List ℕ → List ℕ
path_below folder rest = without_end_slashes folder ++ 47 ∷ rest
