use Rattle.std.proofs.Common.{◌≡◌, take, ℕ, List}
use Rattle.name_table.specs.FirstSeen.{is_among}
use Rattle.name_lookup.specs.Found.{is_blacklisted}
use Rattle.name_lookup.proofs.rules.blacklisted_names.Given as goal

abbrev pub invariant-loop-rule : goal.invariant-loop-rule
invariant-loop-rule l =
    (name : List ℕ) → is_among l.names name ≡ is_blacklisted (take l.rule-index l.rules) name
