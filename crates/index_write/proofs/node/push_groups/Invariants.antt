use Rattle.std.proofs.Common.{◌≡◌, ℕ, ◌≤◌, ◌-◌, ◌++◌, List, length, drop}
use Rattle.index_format.specs.Tree.{Entry, groups}
use Rattle.index_write.specs.declared.node.KeyEntry.{KeyEntry}
use Rattle.index_write.specs.Groups.{at_depth, groups_of, AllGoOn}
use Rattle.index_write.proofs.node.push_groups.Given as goal

-- the entries before this place are in the pending groups, and those from it on go on
pub record GroupsSoFar (before now : List (ℕ × List Entry)) (entries : List KeyEntry)
    (depth from : ℕ) : Type 0 where
  pub within : from ≤ length entries
  pub go_on : AllGoOn (drop from (at_depth depth entries))
  pub so_far : now ++ groups (drop from (at_depth depth entries))
      ≡ before ++ groups (at_depth depth entries)

abbrev pub invariant-loop-group : goal.invariant-loop-group
invariant-loop-group l =
    GroupsSoFar (groups_of l.initial.pending.items) (groups_of l.pending.items) l.entries l.depth
    l.from

abbrev pub decreases-loop-group : goal.decreases-loop-group
decreases-loop-group l = length l.entries - l.from
