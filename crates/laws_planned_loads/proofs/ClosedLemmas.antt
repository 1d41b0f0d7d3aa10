-- Plans that are closed over listed names are closed over these names in the other order.
use Rattle.std.proofs.Common.{◌≡◌, ◌∙◌, ℕ, Bool, ◌||◌, List, [], ◌∷◌, ◌++◌, map, reverse, refl, sym}
use Rattle.std.proofs.Common.{ap}
use Rattle.std.specs.List.{list_any}
use Rattle.std.specs.Str.{bytes_eq}
use Rattle.std.proofs.lemmas.List.Folds.{list_any-append}
use Rattle.std.proofs.lemmas.List.Sorted.{IsPermutation-reverse, list_any-IsPermutation}
use Rattle.name_table.specs.FirstSeen.{is_among}
use Rattle.symbol_binding.specs.declared.unbound.Unbound.{Unbound}
use Rattle.symbol_binding.specs.Unmet.{vmlinux, collides}
use Rattle.laws_closed_plans.specs.Lines.{AreClosed, Lines}

any-reversed : (p : List ℕ → Bool) (xs : List (List ℕ)) → list_any p (reverse xs) ≡ list_any p xs
any-reversed p xs = sym (list_any-IsPermutation p xs (reverse xs) (IsPermutation-reverse xs))

pub among-reversed : (names : List (List ℕ)) (x : List ℕ)
    → is_among (reverse names) x ≡ is_among names x
among-reversed names x = any-reversed (bytes_eq x) names

both-reversed : (p : List ℕ → Bool) (xs ys : List (List ℕ))
    → list_any p (reverse xs ++ ys) ≡ list_any p (xs ++ ys)
both-reversed p xs ys =
    list_any-append p (reverse xs) ys ∙ ap (λ b. b || list_any p ys) (any-reversed p xs)
    ∙ sym (list_any-append p xs ys)

any-mapped : (p : List ℕ → Bool) (f : List ℕ → List ℕ) (xs : List (List ℕ))
    → list_any p (map f xs) ≡ list_any (λ x. p (f x)) xs
any-mapped p f [] = refl
any-mapped p f (x ∷ xs) = ap (λ b. p (f x) || b) (any-mapped p f xs)

paths-reversed : (deps : Lines) (listed plan : List (List ℕ)) (a : List ℕ)
    → is_among (map deps.path (reverse listed ++ plan)) a
    ≡ is_among (map deps.path (listed ++ plan)) a
paths-reversed deps listed plan a =
    any-mapped (bytes_eq a) deps.path (reverse listed ++ plan)
    ∙ both-reversed (λ x. bytes_eq a (deps.path x)) listed plan
    ∙ sym (any-mapped (bytes_eq a) deps.path (listed ++ plan))

pub closed-reversed : (deps : Lines) (unmet : List Unbound) (listed plan : List (List ℕ))
    → AreClosed deps unmet listed plan → AreClosed deps unmet (reverse listed) plan
closed-reversed deps unmet listed plan closed = record {
  distinct = closed.distinct;
  unlisted = λ x in'. among-reversed listed x ∙ closed.unlisted x in';
  behind
      = λ before x after split y needed. both-reversed (bytes_eq y) listed before
      ∙ closed.behind before x after split y needed;
  alone =
      (λ i. list_any (collides (λ a. bytes_eq a vmlinux || paths-reversed deps listed plan a i)
      (is_among (map deps.path plan))) unmet)
      ∙ closed.alone;
  clear = closed.clear;
}
