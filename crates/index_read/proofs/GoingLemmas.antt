-- The nodes that a search of matching keys has still to come, after each of its steps.
use Rattle.std.proofs.Common.{◌≡◌, ◌↔◌, refl, ap, subst, IsTrue, ℕ, ◌+◌, ◌≤◌, ◌<◌, ◌∷◌, List}
use Rattle.std.proofs.Common.{length}
use Rattle.std.proofs.Common.{Option, Some, None, arith, length-append}
use Rattle.index_format.specs.Map.{Value}
use Rattle.index_nodes.specs.Fields.{link_of, IsNodeOf}
use Rattle.glob_pattern.specs.Pattern.{Matches}
use Rattle.index_read.specs.declared.search.FoundNode.{FoundNode}
use Rattle.index_read.specs.declared.search.Search.{Search}
use Rattle.index_read.specs.Keys.{Item}
use Rattle.index_read.specs.Searches.{Finds, NoneMatches, IsSearching, count_left}
use Rattle.index_read.proofs.MatchLemmas.{Onward, on_skipped}
use Rattle.index_read.proofs.SearchLemmas.{count_is}

-- the node that was reached, and the nodes still to come
pub record Reached (b text : List ℕ) (s : Search) (f : FoundNode) (is : List Item) : Type 0 where
  pub key : List ℕ
  pub left : List Item
  pub parts : is ≡ (key, link_of f.node) ∷ left
  pub node : IsNodeOf b f.node
  pub decides : IsTrue f.is_match ↔ Matches key text
  pub searching : IsSearching b text s left

abbrev pub IsGoing : List ℕ → List ℕ → Search → Option FoundNode → List Item → Type 0
IsGoing b text s None is = NoneMatches text is
IsGoing b text s (Some f) is = Reached b text s f is

-- How many nodes are still to be read, and with the one that was reached.
abbrev pub owed : List ℕ → Search → Option FoundNode → ℕ
owed b s None = 0
owed b s (Some f) = count_left b s.levels.items

abbrev pub to_do : List ℕ → Search → Option FoundNode → ℕ
to_do b s None = 0
to_do b s (Some f) = count_left b s.levels.items + 1

-- What is still to come after a step, with the values so far.
pub record Goes (b text : List ℕ) (s : Search) (next : Option FoundNode)
    (found : List Value) : Type 0
  where
    pub is : List Item
    pub going : IsGoing b text s next is
    pub onward : Onward b text is found

pub goes : (b text : List ℕ) (is : List Item) (s : Search) (next : Option FoundNode)
    (found : List Value)
    → Finds b text is s next → Onward b text is found → Goes b text s next found
goes b text is s None found h on = record { is = is; going = h; onward = on }
goes b text is s (Some f) found h on = record {
  is = (h.key, link_of f.node) ∷ h.left;
  going
      = record {
        key = h.key;
        left = h.left;
        parts = refl;
        node = h.node;
        decides = h.decides;
        searching = h.searching;
      };
  onward
      = on_skipped b text h.skipped ((h.key, link_of f.node) ∷ h.left) found h.none
      (subst (λ xs. Onward b text xs found) h.parts on);
}

pub owed_first : (b text : List ℕ) (is : List Item) (s : Search) (next : Option FoundNode)
    → Finds b text is s next → 1 ≤ length is → owed b s next + 1 ≤ length is
owed_first b text is s None h one = omega (arith, one)
owed_first b text is s (Some f) h one =
    let all = ap length h.parts in
    omega (
      arith,
      all,
      length-append h.skipped ((h.key, link_of f.node) ∷ h.left),
      count_is b text s.levels.items s.saved.items h.left h.searching.waits,
    )

pub owed_next : (b : List ℕ) (s : Search) (next : Option FoundNode)
    → owed b s next ≤ count_left b s.levels.items
owed_next b s None = omega arith
owed_next b s (Some f) = omega arith

pub fewer : (b text : List ℕ) (is : List Item) (old new : Search) (next : Option FoundNode)
    → IsSearching b text old is → Finds b text is new next
    → to_do b new next < count_left b old.levels.items + 1
fewer b text is old new None before h = omega arith
fewer b text is old new (Some f) before h =
    let all = ap length h.parts in
    omega (
      arith,
      all,
      length-append h.skipped ((h.key, link_of f.node) ∷ h.left),
      count_is b text new.levels.items new.saved.items h.left h.searching.waits,
      count_is b text old.levels.items old.saved.items is before.waits,
    )
