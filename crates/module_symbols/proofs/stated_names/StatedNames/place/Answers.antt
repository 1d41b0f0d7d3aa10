use Rattle.std.proofs.Common.{ap, ◌∙◌}
use Rattle.std.specs.Map.{lookup}
use Rattle.std.specs.Str.{bytes_eq}
use Rattle.name_table.specs.NameTable.{Table}
use Rattle.module_symbols.specs.declared.stated_names.StatedKey.{StatedKey}
use Rattle.name_table.proofs.TableSteps.{lookup-shown}
use Rattle.module_symbols.proofs.stated_names.StatedNames.place.Goals as goal

pub returns : goal.returns
returns c =
    let name = c.new.result.bytes.now in
    c.copied.ensures ∙ c.get.ensures.value
    ∙ lookup-shown (λ (k : StatedKey). k.bytes.now) name c.self.inside.places.entries
    ∙ ap (λ (t : Table). lookup (bytes_eq name) t.entries) c.self.view_is
    ∙ ap (λ n. lookup (bytes_eq n) c.args.self.now.entries) c.new.ensures
