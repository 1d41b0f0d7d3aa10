-- Lists of one item.
use Rattle.std.proofs.Common.{◌≡◌, ◌∷◌, [], List, All, subst, sym}
use Rattle.std.proofs.lemmas.List.Elements.{All-nil, All-cons}

-- what holds of the only member of a list
pub alone : {A : Type 0} (P : A → Type 0) (xs : List A) (x : A) → xs ≡ x ∷ [] → P x → All P xs
alone P xs x is one = subst (All P) (sym is) (All-cons P x [] one (All-nil P))
