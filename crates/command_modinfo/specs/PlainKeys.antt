-- Keys whose values are the values of the fields with that key. No public meaning rests on these
-- definitions.
use Rattle.std.specs.Prelude.{ℕ, ◌||◌, Bool, List, Option, Some, None, if◌then◌else◌, codes}
use Rattle.std.specs.Str.{bytes_eq}

-- Whether the key stands for something else: the path of the module, or its parameters.
unfoldable pub stands_for_else : List ℕ → Bool
stands_for_else key = bytes_eq key (codes "filename") || bytes_eq key (codes "parm")

-- the key, unless it stands for something else
abbrev pub if_plain : List ℕ → Option (List ℕ)
if_plain key = if stands_for_else key then None else Some key

-- the key, if there is one that doesn't stand for something else
abbrev pub plain_key : Option (List ℕ) → Option (List ℕ)
plain_key None = None
plain_key (Some key) = if_plain key
