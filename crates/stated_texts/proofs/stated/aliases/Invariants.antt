use Rattle.std.proofs.Common.{◌≡◌, filter, take}
use Rattle.stated_texts.specs.Stated.{is_usable_alias}
use Rattle.stated_texts.proofs.stated.aliases.Given as goal

abbrev pub invariant-loop-alias : goal.invariant-loop-alias
invariant-loop-alias l =
    l.usable.items
    ≡ filter is_usable_alias (take l.alias-index l.facts.aliases)
