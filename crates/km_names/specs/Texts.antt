-- The texts that lines of several commands have. They are this project's own.
use Rattle.std.specs.Prelude.{ℕ, List, [], ◌∷◌, ◌++◌, codes, drop, slice_get, unwrap_or}
use Rattle.std.specs.List.{flat_map}

-- Texts with a space between each and the next.
abbrev pub spaced : List (List ℕ) → List ℕ
spaced texts = drop 1 (flat_map (λ text. 32 ∷ text) texts)

-- The text for a name that stands for nothing.
abbrev pub not_found_text : List ℕ → List ℕ
not_found_text name = codes "not found " ++ name

-- The text for modules that depend on each other in a cycle. Each name leads to the next, and the
-- last to the first, which is named again.
abbrev pub cycle_text : List (List ℕ) → List ℕ
cycle_text names =
    codes "cycle "
    ++ (flat_map (λ name. name ++ codes " -> ") names ++ unwrap_or (slice_get names 0) [])
