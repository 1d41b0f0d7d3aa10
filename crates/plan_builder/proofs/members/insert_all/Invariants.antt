use Rattle.std.proofs.Common.{◌≡◌, ◌||◌, take, ℕ, List}
use Rattle.name_table.specs.FirstSeen.{is_among}
use Rattle.plan_builder.proofs.members.insert_all.Given as goal

abbrev pub invariant-loop-name : goal.invariant-loop-name
invariant-loop-name l =
    (name : List ℕ)
    → is_among l.names name
    ≡ (is_among l.fn.names name || is_among (take l.name-index l.more) name)
