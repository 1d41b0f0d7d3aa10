-- A walk through the folders of the machine, and why it ends.
-- It belongs to the code: no public meaning rests on it.
use Rattle.std.specs.Prelude.{◌≡◌, ℕ, ◌+◌, ◌-◌, ◌*◌, ◌≤◌, true, All, vec_len}
use Rattle.outside_calls.specs.FilesSeen.{list_limit}
use Rattle.outside_calls.specs.Listing.{test_of}
use Rattle.km_outside.specs.declared.disk_listing.Walk.{Walk}

-- No more was found than entries were met, which are no more than the limit, and all that was found
-- is listed.
pub record IsSoundWalk (walk : Walk) : Type 0 where
  pub found : vec_len walk.found ≤ walk.met
  pub met : walk.met ≤ list_limit
  pub fits : All (λ path. test_of walk.listing path.items ≡ true) walk.found.items

-- An upper bound of what is left of a walk: each entry that is met may be a folder, which is to be
-- read.
abbrev pub walk_left : Walk → ℕ
walk_left walk = vec_len walk.pending + 2 * (list_limit - walk.met)
