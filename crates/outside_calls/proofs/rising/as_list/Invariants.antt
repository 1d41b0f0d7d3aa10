use Rattle.std.proofs.Common.{◌≡◌, map}
use Rattle.outside_calls.proofs.rising.as_list.Given as goal

-- the list has the paths so far
abbrev pub invariant-loop-path : goal.invariant-loop-path
invariant-loop-path g l = l.list ≡ map (λ path. path.items) l.yielded
