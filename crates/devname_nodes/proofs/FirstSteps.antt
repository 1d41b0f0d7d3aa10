-- What the first of some texts gives, text by text.
use Rattle.std.proofs.Common.{◌≡◌, ℕ, ◌+◌, ◌<◌, ◌≤◌, List, ◌∷◌, length, map, drop, get_or, Option}
use Rattle.std.proofs.Common.{Some, None, ap, ◌∙◌}
use Rattle.std.proofs.lemmas.List.{drop_more, drop_all}
use Rattle.km_names.specs.First.{first}

module _ {X : Type 0} (f : List ℕ → Option X) (texts : List (List ℕ)) (i : ℕ) where
  -- a text that gives nothing
  pub first-passed : (d : List ℕ) → i < length texts → f (get_or texts i d) ≡ None
      → first (map f (drop i texts)) ≡ first (map f (drop (i + 1) texts))
  first-passed d inside none =
      ap (λ l. first (map f l)) (drop_more texts i d inside)
      ∙ ap (λ o. first (o ∷ map f (drop (i + 1) texts))) none

  -- one that gives something
  pub first-found : (d : List ℕ) (x : X) → i < length texts → f (get_or texts i d) ≡ Some x
      → first (map f (drop i texts)) ≡ Some x
  first-found d x inside some =
      ap (λ l. first (map f l)) (drop_more texts i d inside)
      ∙ ap (λ o. first (o ∷ map f (drop (i + 1) texts))) some

  -- after the last text
  pub first-over : length texts ≤ i → first (map f (drop i texts)) ≡ None
  first-over past = ap (λ l. first (map f l)) (drop_all i texts past)
