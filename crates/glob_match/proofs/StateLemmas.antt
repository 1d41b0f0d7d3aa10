-- States whose listed bytes changed.
use Rattle.std.proofs.Common.{sym, subst, ◌∙◌, ℕ, ◌+◌, Bool, List}
use Rattle.glob_match.specs.Words.{HasBits, HasPlaces}
use Rattle.glob_match.specs.States.{SamePlaces}
use Rattle.glob_match.specs.Progress.{Stands}
use Rattle.glob_match.specs.declared.place.Place.{Place}
use Rattle.glob_match.specs.declared.state.State.{State}

pub same_on : (a b c : State) → SamePlaces a b → SamePlaces b c → SamePlaces a c
same_on a b c f g =
    record
    { first = g.first ∙ f.first; reached = g.reached ∙ f.reached; listed = g.listed ∙ f.listed }

pub still_places : (old new : State) (test : ℕ → Bool) → SamePlaces old new
    → HasPlaces old.first old.reached.items test → HasPlaces new.first new.reached.items test
still_places old new test same h =
    subst (λ f. HasPlaces f new.reached.items test) (sym same.first)
    (subst (λ ws. HasPlaces old.first ws.items test) (sym same.reached) h)

pub still_listed : (old new : State) (list : ℕ → Bool) → SamePlaces old new
    → HasBits new.listed.items (λ n. list (old.first + n))
    → HasBits new.listed.items (λ n. list (new.first + n))
still_listed old new list same h =
    subst (λ f. HasBits new.listed.items (λ n. list (f + n))) (sym same.first) h

-- A pattern that was read, by another state with the same places.
pub moved_state : (text pattern : List ℕ) (place : Place) (old new : State) → SamePlaces old new
    → (listed : List ℕ) → Stands text pattern place old.first old.reached.items listed
    → Stands text pattern place new.first new.reached.items listed
moved_state text pattern place old new same listed s =
    subst (λ f. Stands text pattern place f new.reached.items listed) (sym same.first)
    (subst (λ ws. Stands text pattern place old.first ws.items listed) (sym same.reached) s)
