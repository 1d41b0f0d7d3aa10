use Rattle.std.proofs.Common.{◌∷◌, Some, ap, sym, ◌∙◌, inr}
use Rattle.std.specs.Option.{option_map}
use Rattle.index_read.specs.Contents.{contents}
use Rattle.name_lookup.specs.Maps.{has_value}
use Rattle.dependency_lines.specs.declared.fault.LineFault.TheVariants.{BadLine}
use Rattle.dependency_lines.proofs.Begins.{bad-before, bad-here}
use Rattle.dependency_lines.proofs.Faults.{right}
use Rattle.dependency_lines.proofs.read.bad_line.Goals as goal

pub returns-in-Err : goal.returns-in-Err
returns-in-Err c = λ number text rest bad.
    let has = has_value (contents c.args.index.now.nodes) in
    right (bad-before has BadLine c.args.lines.now ((c.args.name.now, (number, text)) ∷ rest)
    c.in-Err.fault) c.in-Err.ensures.err

pub returns-in-Ok : goal.returns-in-Ok
returns-in-Ok c = λ number text rest bad.
    let has = has_value (contents c.args.index.now.nodes) in
    inr (ap (option_map BadLine)
    (bad-here has c.args.lines.now rest (c.args.name.now, (number, text))
    c.in_default.ensures.passed bad)
    ∙ ap (λ n. Some (BadLine n)) (sym c.in-Ok.ensures))
