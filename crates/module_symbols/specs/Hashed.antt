-- What of a name is hashed.
-- It belongs to the code: no public meaning rests on it.
use Rattle.std.specs.Prelude.{ℕ, ◌-◌, nat_le, List, [], ◌∷◌, ◌++◌, length, take, drop}
use Rattle.std.specs.Prelude.{if◌then◌else◌}
use Rattle.std.specs.Hash as fed

-- All of a name of at most 4096 bytes; of a longer one its length, its first 2048 bytes and its
-- last 2048.
abbrev pub hashed_parts : List ℕ → List (List ℕ)
hashed_parts name =
    if nat_le (length name) 4096 then name ∷ []
    else fed.usize (length name) ++ take 2048 name ∷ drop (length name - 2048) name ∷ []
