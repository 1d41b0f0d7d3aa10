use Rattle.export_table.proofs.GivenLemmas.{IsGiven}
use Rattle.export_table.proofs.given.given_addresses.Given as goal

abbrev pub invariant-loop-done : goal.invariant-loop-done
invariant-loop-done l = IsGiven l.table l.facts l.count l.done l.given.items
