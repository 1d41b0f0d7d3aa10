use Rattle.std.proofs.Common.{sym, ◌∙◌}
use Rattle.std.proofs.lemmas.Slice.Eq.{bytes_eq-Decides}
use Rattle.km_names.specs.Path.{module_name}
use Rattle.dependency_lines.proofs.line.names_module.Goals as goal

pub returns-then-ends_with_name : goal.returns-then-ends_with_name
returns-then-ends_with_name c =
    let same = c.if-ends_with_name.true in
    same
    ∙ sym ((bytes_eq-Decides (module_name c.args.path.now) c.args.name.now).1
    (c.ends_with_name.ensures same))
