-- The reader's way through the nodes that were written: no test fails.
use Rattle.std.proofs.Common.{◌≡◌, refl, sym, ap, subst, ◌∙◌, ◌⊎◌, inl, inr, ⊎_elim, ℕ, ◌+◌, ◌-◌}
use Rattle.std.proofs.Common.{◌^◌, ◌<◌, ◌≤◌, true, false, not, cond, ◌==◌, ◌||◌, nat_eq, List, []}
use Rattle.std.proofs.Common.{◌∷◌, ◌++◌, length, map, filter_map, Option, Some, None, arith}
use Rattle.std.proofs.lemmas.Bool.{lt-ltb}
use Rattle.std.proofs.lemmas.Bool.Decides.{eqb_tells}
use Rattle.std.specs.List.{AllByRecursion, list_any, cons_option}
use Rattle.index_format.specs.Map.{Value}
use Rattle.index_format.specs.Link.{place_of, link_to}
use Rattle.index_format.specs.Node.{after_prefix, child, children, upward}
use Rattle.index_format.specs.Check.{BadNode, Revisited, Arrival, is_sound, arrival_fault}
use Rattle.index_format.specs.Check.{arrival_faults}
use Rattle.index_format.specs.Tree.{Entry, common_prefix, ending, siblings, nodes_below}
use Rattle.index_format.specs.File.{Links, offset, last, children_field, node_bytes, written}
use Rattle.index_format.proofs.TreeLemmas.{behind}
use Rattle.index_format.proofs.Passing.{Passes, seen_after, passes-cons, passes-append}
use Rattle.index_format.proofs.Passing.{seen_after-append}
use Rattle.index_write.proofs.Reading.{read_first, read_last}
use Rattle.index_write.proofs.Lookup.{has, AllAbove, BytesRise}
use Rattle.index_write.proofs.Accepted.{lookup, LinksRise, Between, sweep}

-- ---- tests that pass, one after the other

-- no place that was seen is from s on and below e
abbrev pub NotIn : ℕ → ℕ → List ℕ → Type 0
NotIn s e seen = AllByRecursion (λ q. (q < s) ⊎ (e ≤ q)) seen

pub record RowOk (b seen : List ℕ) (rs : List Arrival) (e : ℕ) : Type 0 where
  pub passes : Passes b seen rs
  pub after : (s2 e2 : ℕ) → e ≤ s2 → NotIn s2 e2 seen → NotIn s2 e2 (seen_after rs seen)

pub row-append : (b seen : List ℕ) (xs ys : List Arrival) (e f : ℕ) → e ≤ f → RowOk b seen xs e
    → RowOk b (seen_after xs seen) ys f → RowOk b seen (xs ++ ys) f
row-append b seen xs ys e f le p q = record {
  passes = passes-append b xs ys seen p.passes q.passes;
  after
      = λ s2 e2 h n. subst (NotIn s2 e2) (sym (seen_after-append xs ys seen))
      (q.after s2 e2 h (p.after s2 e2 (omega (arith, le, h)) n));
}

pub row-nil : (b seen : List ℕ) (e : ℕ) → RowOk b seen [] e
unfolding arrival_faults
row-nil b seen e = record { passes = refl; after = λ s2 e2 h n. n }

pub row-cons : (b seen : List ℕ) (a : Arrival) (rs : List Arrival) (e : ℕ) → place_of a.link < e
    → arrival_fault b seen a ≡ None → RowOk b (place_of a.link ∷ seen) rs e
    → RowOk b seen (a ∷ rs) e
row-cons b seen a rs e lt f h = record {
  passes = passes-cons b seen a rs f h.passes;
  after = λ s2 e2 le n. h.after s2 e2 le (inl (omega (arith, lt, le)), n);
}

pub row-more : (b seen : List ℕ) (rs : List Arrival) (e f : ℕ) → e ≤ f → RowOk b seen rs e
    → RowOk b seen rs f
row-more b seen rs e f le h =
    record { passes = h.passes; after = λ s2 e2 le2 n. h.after s2 e2 (omega (arith, le, le2)) n }

pub narrow : (s e s2 e2 : ℕ) (seen : List ℕ) → s ≤ s2 → e2 ≤ e → NotIn s e seen → NotIn s2 e2 seen
narrow s e s2 e2 [] a b h = tt
narrow s e s2 e2 (q ∷ seen) a b h = (
  ⊎_elim (λ lt. inl (omega (arith, lt, a))) (λ ge. inr (omega (arith, ge, b))) h.0,
  narrow s e s2 e2 seen a b h.1,
)

unseen : (q s e : ℕ) (seen : List ℕ) → s ≤ q → q < e → NotIn s e seen
    → list_any (nat_eq q) seen ≡ false
unseen q s e [] a b h = refl
unseen q s e (x ∷ seen) a b h =
    let apart : nat_eq q x ≡ false
    = ⊎_elim (λ p. absurd
    (⊎_elim (λ lt. omega (arith, p.1, lt, a)) (λ ge. omega (arith, p.1, ge, b)) h.0))
    (λ p. p.0) (eqb_tells q x) in
    ap (λ t. t || list_any (nat_eq q) seen) apart ∙ unseen q s e seen a b h.1

pub arrival-ok : (b seen : List ℕ) (a : Arrival) (s e : ℕ) → place_of a.link < a.above
    → s ≤ place_of a.link → place_of a.link < e → NotIn s e seen → is_sound b a ≡ true
    → arrival_fault b seen a ≡ None
unfolding arrival_fault
arrival-ok b seen a s e lt from to n sound =
    let q = place_of a.link in
    ap (λ t. cond (not t) (Some (BadNode q))
    (cond (list_any (nat_eq q) seen) (Some (Revisited q))
    (cond (is_sound b a) None (Some (BadNode q))))) (lt-ltb q a.above lt)
    ∙ ap (λ t. cond t (Some (Revisited q)) (cond (is_sound b a) None (Some (BadNode q))))
    (unseen q s e seen from to n)
    ∙ ap (λ t. cond t None (Some (BadNode q))) sound

-- ---- the links of a row

pub row_lookup : (d c : ℕ) (gs : List (ℕ × List Entry)) (s : ℕ)
    → lookup c (written s (siblings (nodes_below d) gs)).links
    ≡ cond (has c gs) (Some (offset (written s (siblings (nodes_below d) gs)).links c)) None
unfolding written
row_lookup d c [] s = refl
row_lookup d c ((byte, es) ∷ gs) s =
    let under = written s (nodes_below d (behind es)) in
    let at = s + length under.bytes in
    let link = link_to at (common_prefix es) under.links (ending (behind es)) in
    let next = at + length (node_bytes (common_prefix es) under.links (ending (behind es))) in
    let more = (written next (siblings (nodes_below d) gs)).links in
    elim (byte == c) as
    (λ t. cond t (Some link) (lookup c more)
    ≡ cond (cond t true (has c gs)) (Some (cond t link (offset more c))) None) [
      | true ↦ refl
      | false ↦ row_lookup d c gs next
    ]

row_above : (d byte : ℕ) (gs : List (ℕ × List Entry)) (s : ℕ) → AllAbove byte gs
    → AllByRecursion (λ m. byte < m.0) (written s (siblings (nodes_below d) gs)).links
unfolding written
row_above d byte [] s h = tt
row_above d byte ((b, es) ∷ gs) s h =
    let under = written s (nodes_below d (behind es)) in (
      h.0,
      row_above d byte gs
          (s
          + length under.bytes
          + length (node_bytes (common_prefix es) under.links (ending (behind es)))) h.1,
    )

pub row_rise : (d : ℕ) (gs : List (ℕ × List Entry)) (s : ℕ) → BytesRise gs
    → LinksRise (written s (siblings (nodes_below d) gs)).links
unfolding written
row_rise d [] s h = tt
row_rise d ((b, es) ∷ gs) s h =
    let under = written s (nodes_below d (behind es)) in
    let next
    = s
    + length under.bytes
    + length (node_bytes (common_prefix es) under.links (ending (behind es))) in
    (row_above d b gs next h.0, row_rise d gs next h.1)

pub last-bounds : (b : ℕ) (ls : Links) → AllByRecursion (λ m. b < m.0) ls → LinksRise ls
    → (b ≤ last b ls) × AllByRecursion (λ m. m.0 ≤ last b ls) ls
last-bounds b [] above rise = (omega arith, tt)
last-bounds b (l ∷ ls) above rise =
    let rest = last-bounds l.0 ls rise.0 rise.1 in
    (omega (arith, above.0, rest.0), (rest.0, rest.1))

between_last : (b n : ℕ) (ls : Links) → AllByRecursion (λ m. b < m.0) ls
    → AllByRecursion (λ m. m.0 ≤ n) ls → Between b (n - b + 1) ls
between_last b n [] above h = tt
between_last b n (l ∷ ls) above h =
    ((omega (arith, above.0), omega (arith, above.0, h.0)), between_last b n ls above.1 h.1)

none_of : (f : ℕ → Option ℕ) (xs : List ℕ) → ((c : ℕ) → f c ≡ None) → filter_map f xs ≡ []
none_of f [] h = refl
none_of f (x ∷ xs) h = ap (λ o. cons_option o (filter_map f xs)) (h x) ∙ none_of f xs h

module _ (b : List ℕ) (at : ℕ) (p : List ℕ) (vs : List Value) (more : List ℕ) (low : at < 2 ^ 28)
    (d : ℕ) where
  pub children_of : (gs : List (ℕ × List Entry)) (s : ℕ)
      → after_prefix b (link_to at p (written s (siblings (nodes_below d) gs)).links vs)
      ≡ children_field (written s (siblings (nodes_below d) gs)).links ++ more
      → BytesRise gs
      → ((c : ℕ)
      → child b (link_to at p (written s (siblings (nodes_below d) gs)).links vs) c
      ≡ lookup c (written s (siblings (nodes_below d) gs)).links)
      → children b (link_to at p (written s (siblings (nodes_below d) gs)).links vs)
      ≡ map (λ l. l.1) (written s (siblings (nodes_below d) gs)).links
  unfolding written children
  children_of [] s tail rise is = none_of _ _ is
  children_of ((byte, es) ∷ gs) s tail rise is =
      let under = written s (nodes_below d (behind es)) in
      let place = s + length under.bytes in
      let next = place + length (node_bytes (common_prefix es) under.links (ending (behind es))) in
      let l : ℕ × ℕ = (byte, link_to place (common_prefix es) under.links (ending (behind es))) in
      let ls = (written next (siblings (nodes_below d) gs)).links in
      let rises = row_rise d ((byte, es) ∷ gs) s rise in
      let bounds = last-bounds byte ls rises.0 rises.1 in
      (λ i. filter_map (child b (link_to at p (l ∷ ls) vs))
      (upward (read_first b at p vs more low l ls tail i)
      (read_last b at p vs more low l ls tail i
      - read_first b at p vs more low l ls tail i
      + 1)))
      ∙ sweep (last byte ls - byte + 1) (child b (link_to at p (l ∷ ls) vs)) (l ∷ ls) byte rises (
        (omega arith, omega (arith, bounds.0)),
        between_last byte (last byte ls) ls rises.0 bounds.1,
      ) (λ c le. is c)
