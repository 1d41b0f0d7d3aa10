use Rattle.std.proofs.Common.{◌≡◌, ◌-◌, length}
use Rattle.std.specs.Prelude.{find}
use Rattle.std.specs.List.{range_with_len}
use Rattle.model_loader.specs.Use.{binds}
use Rattle.model_unload.specs.Unload.{first_user}
use Rattle.test_machine.proofs.user_calls.first_user.Given as goal

abbrev pub invariant-loop-k : goal.invariant-loop-k
invariant-loop-k l =
    first_user l.machine l.j
    ≡ find (λ k. binds l.machine k l.j) (range_with_len l.k (length l.machine.entries - l.k))
