use Rattle.std.proofs.Common.{◌≡◌, ◌-◌, length, map}
use Rattle.std.specs.List.{range_with_len}
use Rattle.km_names.specs.First.{first}
use Rattle.remove_plan.specs.Marks.{is_marked}
use Rattle.remove_plan.specs.Removal.{in_use, used_member}
use Rattle.remove_plan.proofs.users.first_used.Given as goal

abbrev pub invariant-loop-j : goal.invariant-loop-j
invariant-loop-j l =
    in_use l.machine (is_marked l.asked)
    ≡ first (map (used_member l.machine (is_marked l.asked))
    (range_with_len l.j (length l.machine.entries - l.j)))
