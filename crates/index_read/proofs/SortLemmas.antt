-- Values that were sorted by their priorities, as those of an index.
use Rattle.std.proofs.Common.{◌≡◌, refl, sym, ap, subst, ◌∙◌, ℕ, zero, suc, ◌+◌, ◌<◌, Bool, true}
use Rattle.std.proofs.Common.{false, cond, List, [], ◌∷◌, length, filter, get_or, map, arith}
use Rattle.std.specs.List.Sorted.{IsSortedByKey, IsStableByKey, ties}
use Rattle.std.specs.Ordering.{nat_cmp, is_lt}
use Rattle.index_format.specs.Map.{Value}
use Rattle.index_format.specs.Listing.{IsByPriority}

shown_get : {X : Type 0} (shown : X → Value) (vs : List X) (i : ℕ) (d : Value) (e : X)
    → i < length vs → get_or (map shown vs) i d ≡ shown (get_or vs i e)
shown_get shown [] i d e low = absurd (omega (arith, low))
shown_get shown (v ∷ vs) zero d e low = refl
shown_get shown (v ∷ vs) (suc i) d e low = shown_get shown vs i d e (omega (arith, low))

shown_size : {X : Type 0} (shown : X → Value) (vs : List X) → length (map shown vs) ≡ length vs
shown_size shown [] = refl
shown_size shown (v ∷ vs) = ap suc (shown_size shown vs)

shown_filter : {X : Type 0} (shown : X → Value) (f : Value → Bool) (vs : List X)
    → filter f (map shown vs) ≡ map shown (filter (λ v. f (shown v)) vs)
shown_filter shown f [] = refl
shown_filter shown f (v ∷ vs) =
    elim (f (shown v)) as
    (λ t. cond t (shown v ∷ filter f (map shown vs)) (filter f (map shown vs))
    ≡ map shown (cond t (v ∷ filter (λ v. f (shown v)) vs) (filter (λ v. f (shown v)) vs))) [
      | true ↦ ap (λ us. shown v ∷ us) (shown_filter shown f vs)
      | false ↦ shown_filter shown f vs
    ]

-- `made` gives a value in code with this priority.
pub by_priority : {X : Type 0} (shown : X → Value) (made : ℕ → X)
    → ((n : ℕ) → (shown (made n)).0 ≡ n) → (before after : List X)
    → IsSortedByKey (λ v. (shown v).0) nat_cmp after
    → IsStableByKey (λ v. (shown v).0) nat_cmp before after
    → IsByPriority (map shown before) (map shown after)
by_priority {X} shown made has before after up still = record {
  rises =
      λ k d low high.
      let e = made 0 in
      let inside : k + 1 < length after = omega (arith, high, shown_size shown after) in
      ap is_lt (λ i. nat_cmp (shown_get shown after (k + 1) d e inside i).0
      (shown_get shown after k d e (omega (arith, inside)) i).0)
      ∙ up k e low inside;
  stable =
      λ x.
      let tie = λ (n : ℕ) (v : X). ties (λ (a b : ℕ). is_lt (nat_cmp a b)) n (shown v).0 in
      let same = λ (a b : Value). is_lt (nat_cmp a.0 b.0) in
      shown_filter shown (ties same x) after
      ∙ ap (map shown)
      (subst (λ n. filter (tie n) after ≡ filter (tie n) before) (has x.0) (still (made x.0)))
      ∙ sym (shown_filter shown (ties same x) before);
}
