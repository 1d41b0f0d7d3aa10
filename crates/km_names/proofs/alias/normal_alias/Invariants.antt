use Rattle.std.proofs.Common.{◌≡◌, ◌++◌, drop, false}
use Rattle.std.specs.Option.{option_map}
use Rattle.km_names.proofs.AliasRun.{normal_from}
use Rattle.km_names.proofs.alias.normal_alias.Given as goal

abbrev pub invariant-loop-byte : goal.invariant-loop-byte
invariant-loop-byte l =
    option_map (λ r. l.normal.items ++ r) (normal_from l.bracket (drop l.byte-index l.text))
    ≡ normal_from false l.text
