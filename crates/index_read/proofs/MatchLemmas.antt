-- The values of the nodes whose keys match a text, node by node.
use Rattle.std.proofs.Common.{◌≡◌, refl, sym, ap, subst, ◌∙◌, ℕ, List, [], ◌∷◌, ◌++◌, map}
use Rattle.std.proofs.Common.{append_assoc, ◌⊎◌, inl, inr}
use Rattle.std.proofs.lemmas.List.{append-nil, map-append}
use Rattle.index_format.specs.Map.{Value}
use Rattle.index_format.specs.Listing.{KeyValue}
use Rattle.index_format.specs.Node.{values}
use Rattle.glob_pattern.specs.Pattern.{Matches}
use Rattle.index_read.specs.Keys.{Item, all_items}
use Rattle.index_read.specs.Searches.{NoneMatches}
use Rattle.index_read.proofs.ListingLemmas.{Chosen, taken, passed, bare, chosen-append, chosen-none}
use Rattle.index_read.proofs.ListingLemmas.{pairs_of}

-- the values of some pairs
abbrev pub values_in : List KeyValue → List Value
values_in ps = map (λ p. p.1) ps

-- the values are those of the pairs of all nodes whose keys match
pub record Found (b text : List ℕ) (vs : List Value) : Type 0 where
  pub pairs : List KeyValue
  pub chosen : Chosen b (λ key. Matches key text) (all_items b) pairs
  pub found_is : vs ≡ values_in pairs

-- the values so far with those of the nodes that are left
abbrev pub Onward : List ℕ → List ℕ → List Item → List Value → Type 0
Onward b text is found =
    (ps : List KeyValue) → Chosen b (λ key. Matches key text) is ps
    → Found b text (found ++ values_in ps)

values_back : (key : List ℕ) (vs : List Value) → values_in (map (λ v. (key, v)) vs) ≡ vs
values_back key [] = refl
values_back key (v ∷ vs) = ap (λ us. v ∷ us) (values_back key vs)

pub on_match : (b text : List ℕ) (item : Item) (is : List Item) (old new : List Value)
    → new ≡ old ++ values b item.1 → Matches item.0 text → Onward b text (item ∷ is) old
    → Onward b text is new
on_match b text item is old new more m on ps c =
    let parts
    = map-append (λ (p : KeyValue). p.1) (pairs_of b item) ps
    ∙ ap (λ vs. vs ++ values_in ps) (values_back item.0 (values b item.1)) in
    subst (Found b text)
    (ap (λ vs. old ++ vs) parts ∙ sym (append_assoc old (values b item.1) (values_in ps))
    ∙ ap (λ vs. vs ++ values_in ps) (sym more))
    (on (pairs_of b item ++ ps) (taken item m c))

pub on_other : (b text : List ℕ) (item : Item) (is : List Item) (found : List Value)
    → (¬ Matches item.0 text) ⊎ (values b item.1 ≡ []) → Onward b text (item ∷ is) found
    → Onward b text is found
on_other b text item is found (inl other) on ps c = on ps (passed item other c)
on_other b text item is found (inr none) on ps c = on ps (bare item none c)

-- Nodes whose keys don't match are passed over.
pub on_skipped : (b text : List ℕ) (skipped is : List Item) (found : List Value)
    → NoneMatches text skipped → Onward b text (skipped ++ is) found → Onward b text is found
on_skipped b text skipped is found none on ps c =
    on ps (chosen-append b (λ key. Matches key text) skipped is [] ps
    (chosen-none b (λ key. Matches key text) skipped none) c)

-- No key that is left matches.
pub none_left : (b text : List ℕ) (is : List Item) (found : List Value) → NoneMatches text is
    → Onward b text is found → Found b text found
none_left b text is found none on =
    subst (Found b text) (append-nil found)
    (on [] (chosen-none b (λ key. Matches key text) is none))
