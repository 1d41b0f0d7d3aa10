use Rattle.std.proofs.Common.{◌<◌, length, sym, ap, subst, arith}
use Rattle.std.proofs.lemmas.List.{length-map}
use Rattle.dependency_lines.specs.Tables.{IsInside, line_in}
use Rattle.dependency_lines.proofs.named_lines.Lines.path.Goals as goal

pub overflow_cast-result : goal.overflow_cast-result
overflow_cast-result c =
    let ls = c.self.inside.lines.items in
    let line = c.index-line.result.now in
    let low : c.args.place < length ls
    = omega (
      arith,
      c.requires,
      ap length c.self.view_is,
      length-map ls (line_in c.self.inside.names.items),
    ) in
    let inside
    = subst (IsInside c.self.inside.names.items) (sym c.index-line.ensures)
    (c.self.invariant c.args.place line low) in
    omega (arith, inside.small)
