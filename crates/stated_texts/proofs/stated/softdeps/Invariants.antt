use Rattle.std.proofs.Common.{◌≡◌, filter, take}
use Rattle.stated_texts.specs.Stated.{is_usable_softdep}
use Rattle.stated_texts.proofs.stated.softdeps.Given as goal

abbrev pub invariant-loop-text : goal.invariant-loop-text
invariant-loop-text l =
    l.usable.items
    ≡ filter is_usable_softdep (take l.text-index l.facts.softdeps)
