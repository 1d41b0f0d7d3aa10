-- Texts that begin with another one.
use Rattle.std.specs.Prelude.{ℕ, List, Option, Some, None, nat_eq, length, drop, if◌then◌else◌}
use Rattle.std.specs.List.{starts_with}

-- What follows a prefix in a text, if the text begins with it.
abbrev pub rest_after : List ℕ → List ℕ → Option (List ℕ)
rest_after prefix text =
    if starts_with nat_eq text prefix then Some (drop (length prefix) text) else None
