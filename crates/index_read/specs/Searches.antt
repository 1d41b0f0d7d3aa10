-- A search over the keys of an index for those that match a text: what is still to come, and the
-- result of a step. It belongs to the code: no public meaning rests on it.
use Rattle.std.specs.Prelude.{◌≡◌, ◌↔◌, ℕ, ◌+◌, ◌-◌, ◌≤◌, IsTrue, Bool, true, false, List, [], ◌∷◌}
use Rattle.std.specs.Prelude.{◌++◌, length, Option, Some, None, Result, Ok, Err}
use Rattle.std.specs.List.{AllByRecursion}
use Rattle.index_format.specs.Link.{place_of}
use Rattle.index_format.specs.Node.{child}
use Rattle.index_nodes.specs.Fields.{link_of, IsNodeOf}
use Rattle.index_nodes.specs.declared.node.Node.{Node}
use Rattle.glob_pattern.specs.Pattern.{Matches}
use Rattle.glob_match.specs.Ends.{AreEnds}
use Rattle.glob_match.specs.Runs.{AreRuns}
use Rattle.glob_match.specs.Progress.{IsWhole, IsOver, HasRead, WasRead, IsSaved}
use Rattle.glob_match.specs.declared.progress.Progress.{Progress}
use Rattle.glob_match.specs.declared.progress.Saved.{Saved}
use Rattle.index_read.specs.declared.key_tables.KeyTables.{KeyTables}
use Rattle.index_read.specs.declared.search.FoundNode.{FoundNode}
use Rattle.index_read.specs.declared.search.Branch.{Branch}
use Rattle.index_read.specs.declared.search.Search.{Search}
use Rattle.index_read.specs.Keys.{Item, branches, key_bytes, items}

-- No key that begins like this matches the text.
abbrev pub IsLost : List ℕ → List ℕ → Type 0
IsLost text front = (rest : List ℕ) → ¬ Matches (front ++ rest) text

-- None of the nodes has a key that matches the text.
abbrev pub NoneMatches : List ℕ → List Item → Type 0
NoneMatches text is = AllByRecursion (λ item. ¬ Matches item.0 text) is

-- The bytes of a key were read, or it was found that they match nothing.
abbrev pub Reads : List ℕ → List ℕ → Progress → Bool → Type 0
Reads text key p true = HasRead p text key
Reads text key p false = IsLost text key

-- What is known of a file, for a text.
pub record AreKnown (b text : List ℕ) (k : KeyTables) : Type 0 where
  pub runs : AreRuns b k.runs
  pub ends : AreEnds b text k.ends

-- The progress is over a text for which this is known.
pub record IsReady (b : List ℕ) (p : Progress) (k : KeyTables) : Type 0 where
  pub text : List ℕ
  pub over : IsOver p text
  pub known : AreKnown b text k

-- The node has no children, or else its key was read.
abbrev pub IsWholeOrLeaf : List ℕ → List ℕ → List ℕ → ℕ → Progress → Bool → Type 0
IsWholeOrLeaf b text key link p true = (byte : ℕ) → child b link byte ≡ None
IsWholeOrLeaf b text key link p false = HasRead p text key

-- The node was reached with its key.
pub record Arrives (b text key : List ℕ) (link : ℕ) (p : Progress) (f : FoundNode) : Type 0 where
  pub node : IsNodeOf b f.node
  pub name : link_of f.node ≡ link
  pub decides : IsTrue f.is_match ↔ Matches key text
  pub under : IsWholeOrLeaf b text key link p f.is_leaf

-- The node was reached with its key, or it was found that nothing there matches.
abbrev pub Enters : List ℕ → List ℕ → List ℕ → ℕ → Progress → Option FoundNode → Type 0
Enters b text key link p None = IsLost text key
Enters b text key link p (Some f) = Arrives b text key link p f

-- The nodes below a node with this key, from a byte on.
abbrev pub below : List ℕ → Branch → List ℕ → List Item
below b l key =
    branches (items b (place_of (link_of l.node))) b (link_of l.node) key l.next
    (key_bytes - l.next)

-- The nodes still to come, the last level's first, if the words of the levels' keys are saved.
pub data Waits (b text : List ℕ) : List Branch → List ℕ → List Item → Type 0 where
  bottom : Waits b text [] [] []
  above : {ls : List Branch} {saved : List ℕ} {is : List Item} (l : Branch) (words key : List ℕ)
      → Waits b text ls saved is → IsNodeOf b l.node → l.next ≤ key_bytes
      → WasRead text key l.key words
      → Waits b text (ls ++ l ∷ []) (saved ++ words) (below b l key ++ is)

-- The level of a node, by its key.
abbrev pub branch_of : Node → Saved → Branch
branch_of n key = record { node = n; next = 0; key = key }

-- A level whose children up to a byte were visited.
abbrev pub after_branch : Branch → ℕ → Branch
after_branch l byte = record { node = l.node; next = byte + 1; key = l.key }

-- A level more, of the node whose key was read.
pub record IsDeeper (old new : Search) (n : Node) : Type 0 where
  pub key : Saved
  pub saved : IsSaved old.progress key old.saved.items new.saved.items
  pub levels : new.levels.items ≡ old.levels.items ++ branch_of n key ∷ []
  pub same : new.progress ≡ old.progress
  pub known : new.known ≡ old.known

-- A level more, unless the node has no children.
abbrev pub DescendsTo : Search → Search → Node → Bool → Type 0
DescendsTo old new n true = new ≡ old
DescendsTo old new n false = IsDeeper old new n

abbrev pub Descends : Search → Search → FoundNode → Type 0
Descends old new f = DescendsTo old new f.node f.is_leaf

-- The search is over this text, and has these nodes still to come.
pub record IsSearching (b text : List ℕ) (s : Search) (is : List Item) : Type 0 where
  pub whole : IsWhole s.progress
  pub over : IsOver s.progress text
  pub known : AreKnown b text s.known
  pub waits : Waits b text s.levels.items s.saved.items is

-- A node was reached: those before it don't match, and others are still to come.
pub record Comes (b text : List ℕ) (is : List Item) (s : Search) (f : FoundNode) : Type 0 where
  pub skipped : List Item
  pub key : List ℕ
  pub left : List Item
  pub parts : is ≡ skipped ++ (key, link_of f.node) ∷ left
  pub none : NoneMatches text skipped
  pub node : IsNodeOf b f.node
  pub decides : IsTrue f.is_match ↔ Matches key text
  pub searching : IsSearching b text s left

-- A step of the search: no key matches, or a node comes.
abbrev pub Finds : List ℕ → List ℕ → List Item → Search → Option FoundNode → Type 0
Finds b text is s None = NoneMatches text is
Finds b text is s (Some f) = Comes b text is s f

-- How many nodes are still to come, whatever their keys.
abbrev pub count_left : List ℕ → List Branch → ℕ
count_left b [] = 0
count_left b (l ∷ ls) = length (below b l []) + count_left b ls

-- How many are after a step. After a refusal there are none.
abbrev pub count_after : {E : Type 0} → Result (Option FoundNode) E → List ℕ → List Branch → ℕ
count_after (Ok o) b ls = count_left b ls
count_after (Err e) b ls = 0
