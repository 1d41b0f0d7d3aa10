use Rattle.std.proofs.Common.{◌≡◌, ℕ, Option, map, take}
use Rattle.std.specs.Global.{Vec}
use Rattle.module_facts.specs.declared.facts.Facts.{Facts}
use Rattle.provider_rel.specs.Items.{bound_of}
use Rattle.provider_rel.proofs.items.all_bound.Given as goal

abbrev pub invariant-loop-facts : goal.invariant-loop-facts
invariant-loop-facts l =
    map (λ (b : Vec (Option ℕ)). b.items) l.bound.items
    ≡ map (λ (f : Facts). bound_of l.names f.needs) (take l.facts-index l.tree)
