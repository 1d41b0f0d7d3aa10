-- The test of a match is the relation, and is what the parts of the pattern answer.
use Rattle.std.proofs.Common.{◌≡◌, ◌↔◌, refl, ℕ, Bool, List, IsTrue}
use Rattle.std.specs.Bool.{Decides}
use Rattle.std.proofs.lemmas.Bool.{false≢true}
use Rattle.std.proofs.lemmas.Bool.Decides.{same_from_decides}
use Rattle.glob_pattern.specs.Pattern.{Matches}
use Rattle.glob_match.specs.Decision.{holds, is_match}
use Rattle.glob_pattern.proofs.DecisionLemmas as parts

holds-decides : (P : Type 0) (d : Dec P) → Decides (holds P d) P
holds-decides P (yes p) = (λ e. p, λ h. refl)
holds-decides P (no lacks) = (λ e. absurd (false≢true e), λ h. absurd (lacks h))

pub decides : (pattern text : List ℕ) → Decides (is_match pattern text) (Matches pattern text)
unfolding is_match
decides pattern text = holds-decides (Matches pattern text) (parts.decision pattern text)

pub decided : (answer : Bool) (pattern text : List ℕ) → (IsTrue answer ↔ Matches pattern text)
    → answer ≡ is_match pattern text
decided answer pattern text h =
    same_from_decides answer (is_match pattern text) (h.0, h.1) (decides pattern text)

pub is_match-parts : (pattern text : List ℕ) → is_match pattern text ≡ parts.is_taken pattern text
is_match-parts pattern text =
    same_from_decides (is_match pattern text) (parts.is_taken pattern text) (decides pattern text)
    (parts.decides pattern text)
