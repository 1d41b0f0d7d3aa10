-- Whether a text matches a pattern, as a test for filters of lists. It is the relation of
-- `Pattern`, which the law of `glob_pattern` decides for each pattern and each text. fnmatch(3),
-- glob(7).
use Rattle.std.specs.Prelude.{ℕ, Bool, true, false, List}
use Rattle.glob_pattern.specs.Pattern.{Matches}
use Rattle.glob_pattern.proofs.DecisionLemmas.{decision}

-- Whether something that is decided holds.
abbrev pub holds : (P : Type 0) → Dec P → Bool
holds P (yes proof) = true
holds P (no refutation) = false

-- Whether the text matches the pattern.
unfoldable pub is_match : List ℕ → List ℕ → Bool
is_match pattern text = holds (Matches pattern text) (decision pattern text)
