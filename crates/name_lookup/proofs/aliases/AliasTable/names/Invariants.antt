use Rattle.std.proofs.Common.{◌≤◌, length}
use Rattle.name_lookup.proofs.AliasLaws.{AreNames}
use Rattle.name_lookup.proofs.aliases.AliasTable.names.Given as goal

abbrev pub invariant-loop-wild : goal.invariant-loop-wild
invariant-loop-wild l =
    record {
      within : l.done ≤ length l.plain;
      names : AreNames l.name l.plain l.self.wild.items l.done l.wild-index l.names;
    }
