use Rattle.std.proofs.Common.{sym, ap, subst, ◌∙◌, ◌+◌, take}
use Rattle.name_lookup.specs.Aliases.{IsAliasTable}
use Rattle.name_lookup.proofs.AliasLaws.{table-more, table-same}
use Rattle.name_lookup.proofs.aliases.AliasTable.new.Goals as goal
use Rattle.name_lookup.proofs.aliases.AliasTable.new.Goals.{in-Some+in_ok-push, in_default}

pub loop-place-preserved : goal.loop-place-preserved
loop-place-preserved c =
    let rules = c.as_slice-rule-items.result.now in
    let i = c.loop-place.place in
    let old = c.loop-place.table in
    let is
    = subst (λ rs. IsAliasTable old (take i rs)) (sym c.as_slice-rule-items.ensures)
    c.loop-place.invariant in
    elim c.match-alias_in.branch [
      | in-Some+in_ok-push w ↦
          subst (λ t. IsAliasTable t (take (i + 1) c.args.rules.now)) (sym w.table-is)
          (subst (λ rs. IsAliasTable w.push.new.self (take (i + 1) rs))
          c.as_slice-rule-items.ensures
          (table-more old rules i c.rule-item.result is c.loop-place-test.true c.rule-item.is
          w.push.new.self w.in-Some.pattern.now w.in-Some.name.now w.in-Some.ensures
          w.in_ok-push.ensures))
      | in_default w ↦
          subst (λ t. IsAliasTable t (take (i + 1) c.args.rules.now)) (sym w.table-is)
          (subst (λ rs. IsAliasTable old (take (i + 1) rs)) c.as_slice-rule-items.ensures
          (table-same old rules i c.rule-item.result is c.loop-place-test.true c.rule-item.is
          w.in_default.ensures))
    ]
