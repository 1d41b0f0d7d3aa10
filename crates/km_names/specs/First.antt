-- Ordered tests: the first that fails decides.
use Rattle.std.specs.Prelude.{List, [], ◌∷◌, Option, Some, None}

-- The first fault of a list of tests. Each test is None if it passes, and its fault if it doesn't.
abbrev pub first : {F : Type 0} → List (Option F) → Option F
first [] = None
first (None ∷ tests) = first tests
first (Some fault ∷ tests) = Some fault
