use Rattle.std.proofs.Common.{ap, ◌∙◌}
use Rattle.std.specs.Map.{lookup}
use Rattle.std.specs.Str.{bytes_eq}
use Rattle.name_table.specs.Keys.{name_of}
use Rattle.name_table.specs.NameTable.{Table}
use Rattle.name_table.proofs.TableSteps.{lookup-shown}
use Rattle.name_table.proofs.owned.OwnedNameTable.place.Goals as goal

pub returns : goal.returns
returns c =
    c.copied.ensures ∙ c.get.ensures.value
    ∙ lookup-shown name_of c.args.name.now c.self.inside.places.entries
    ∙ ap (λ (t : Table). lookup (bytes_eq c.args.name.now) t.entries) c.self.view_is
