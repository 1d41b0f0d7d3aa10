use Rattle.std.proofs.Common.{◌≡◌, ℕ, Option, map, take}
use Rattle.std.specs.Global.{Vec}
use Rattle.provider_rel.specs.Items.{used_places}
use Rattle.provider_rel.proofs.bindings.all_used.Given as goal

abbrev pub invariant-loop-needs : goal.invariant-loop-needs
invariant-loop-needs l =
    map (λ (u : Vec ℕ). u.items) l.all.items
    ≡ map (λ (b : Vec (Option ℕ)). used_places l.items b.items) (take l.needs-index l.bound)
