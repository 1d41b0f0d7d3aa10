use Rattle.std.proofs.Common.{ap, ◌∙◌}
use Rattle.name_table.specs.FirstSeen.{with_name, is_among}
use Rattle.name_table.specs.declared.key.NameKey.{NameKey}
use Rattle.name_table.proofs.SeenSteps.{with_name-put, seen_with_name, among_with_name}
use Rattle.name_table.proofs.set.NameSet.insert.Goals as goal

pub returns-clause-ok : goal.returns-clause-ok
returns-clause-ok c =
    with_name-put (λ (k : NameKey). k.bytes.now) c.self.inside.names.keys c.insert.new.self.keys
    c.new.result c.in_ok-insert.ensures.keys
    ∙ ap (λ names. with_name names c.new.result.bytes.now) c.self.view_is
    ∙ ap (with_name c.args.self.now) c.new.ensures

pub returns-clause-seen : goal.returns-clause-seen
returns-clause-seen c =
    λ names is. returns-clause-ok c ∙ seen_with_name names c.args.self.now c.args.name.now is

pub returns-clause-among : goal.returns-clause-among
returns-clause-among c =
    λ other. ap (λ names. is_among names other) (returns-clause-ok c)
    ∙ among_with_name c.args.self.now c.args.name.now other
