use Rattle.std.proofs.Common.{sym, ap, ◌∙◌}
use Rattle.name_table.specs.FirstSeen.{is_among}
use Rattle.name_table.specs.declared.key.NameKey.{NameKey}
use Rattle.name_table.proofs.SeenSteps.{any-shown}
use Rattle.name_table.proofs.set.NameSet.contains.Goals as goal

pub returns : goal.returns
returns c =
    let name = c.new.result.bytes.now in
    c.contains.ensures
    ∙ sym (any-shown (λ (k : NameKey). k.bytes.now) name c.self.inside.names.keys)
    ∙ ap (λ names. is_among names name) c.self.view_is
    ∙ ap (is_among c.args.self.now) c.new.ensures
