-- A step of the walk, round by round: what a node and the walk leave to do, and what is owed for
-- it.
use Rattle.std.proofs.Common.{◌≡◌, ℕ, ◌≤◌, List, [], ◌∷◌, length, Option, Some, None, arith}
use Rattle.index_nodes.specs.Fields.{link_of, IsNodeOf}
use Rattle.index_nodes.specs.declared.node.Node.{Node}
use Rattle.index_read.specs.declared.walk.KeyWalk.{KeyWalk}
use Rattle.index_read.specs.Keys.{Item}
use Rattle.index_read.specs.Walks.{walk_key, left, GoesOn, IsWalking}

-- The node that the walk reached and the nodes after it, or none if it reached none.
abbrev pub to_do : List ℕ → KeyWalk → Option Node → List Item
to_do b w None = []
to_do b w (Some n) = (walk_key b w, link_of n) ∷ left b w

-- The steps for the nodes after it.
abbrev pub owed : List ℕ → KeyWalk → Option Node → ℕ
owed b w None = 0
owed b w (Some n) = length (left b w)

abbrev pub IsGoing : List ℕ → KeyWalk → Option Node → Type 0
IsGoing b w None = Unit {0}
IsGoing b w (Some n) = IsNodeOf b n × IsWalking b w

pub still_to_do : (b : List ℕ) (old new : KeyWalk) (o : Option Node) → GoesOn b old new o
    → left b old ≡ to_do b new o
still_to_do b old new None h = h
still_to_do b old new (Some n) h = h.still

pub still_going : (b : List ℕ) (old new : KeyWalk) (o : Option Node) → GoesOn b old new o
    → IsGoing b new o
still_going b old new None h = tt
still_going b old new (Some n) h = (h.node, h.walking)

pub owed_few : (b : List ℕ) (w : KeyWalk) (o : Option Node) → owed b w o ≤ length (left b w)
owed_few b w None = omega arith
owed_few b w (Some n) = omega arith
