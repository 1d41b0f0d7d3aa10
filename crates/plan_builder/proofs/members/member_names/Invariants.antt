use Rattle.std.proofs.Common.{◌≡◌, take, ℕ, List}
use Rattle.name_table.specs.FirstSeen.{is_among}
use Rattle.plan_builder.specs.Requested.{is_member_of}
use Rattle.plan_builder.proofs.members.member_names.Given as goal

abbrev pub invariant-loop-found : goal.invariant-loop-found
invariant-loop-found l =
    (name : List ℕ) → is_among l.names name ≡ is_member_of (take l.found-index l.founds) name
