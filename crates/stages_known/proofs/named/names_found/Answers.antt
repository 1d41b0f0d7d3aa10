use Rattle.std.proofs.Common.{sym, ap}
use Rattle.name_lookup.specs.Lookups.{RulesAndIndexes}
use Rattle.stages_known.proofs.named.names_found.Goals as goal

pub returns : goal.returns
returns c =
    c.names_by.ensures c.args.known.now
    (sym (ap (λ (l : RulesAndIndexes). l.rules) c.in_ok-lookup.ensures))
    (sym (ap (λ (l : RulesAndIndexes). l.indexes) c.in_ok-lookup.ensures))
