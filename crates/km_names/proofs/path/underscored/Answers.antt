use Rattle.std.proofs.Common.{rules, ◌≡◌, ◌∙◌}
use Rattle.km_names.specs.Path.{underscored}
use Rattle.km_names.proofs.path.underscored.Goals as goal

pub returns : goal.returns
returns c =
    let read : c.in_ok-bytes.bytes.items ≡ underscored c.args.text.now = search rules in
    c.from_vec.ensures ∙ read
