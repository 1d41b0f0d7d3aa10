use Rattle.std.proofs.Common.{◌<◌, length, sym, ap, subst, arith}
use Rattle.std.proofs.lemmas.List.{length-map}
use Rattle.std.specs.Prelude.{◌==◌}
use Rattle.dependency_lines.proofs.Lines.{any-long}
use Rattle.dependency_lines.specs.Tables.{IsInside, line_in}
use Rattle.dependency_lines.proofs.named_lines.Lines.needs.Goals as goal

pub overflow_cast-result : goal.overflow_cast-result
overflow_cast-result c =
    let ls = c.self.inside.lines.items in
    let line = c.index-line.result.now in
    let low : c.args.place < length ls
    = omega (
      arith,
      c.requires,
      ap length c.self.view_is,
      length-map ls (line_in c.self.inside.names.items),
    ) in
    let inside
    = subst (IsInside c.self.inside.names.items) (sym c.index-line.ensures)
    (c.self.invariant c.args.place line low) in
    omega (arith, inside.small)

pub overflow_add-result : goal.overflow_add-result
overflow_add-result c =
    let ls = c.self.inside.lines.items in
    let line = c.index-line.result.now in
    let low : c.args.place < length ls
    = omega (
      arith,
      c.requires,
      ap length c.self.view_is,
      length-map ls (line_in c.self.inside.names.items),
    ) in
    let inside
    = subst (IsInside c.self.inside.names.items) (sym c.index-line.ensures)
    (c.self.invariant c.args.place line low) in
    omega (arith, inside.small)

pub slice_bounds-result-count : goal.slice_bounds-result-count
slice_bounds-result-count c =
    let ls = c.self.inside.lines.items in
    let line = c.index-line.result.now in
    let low : c.args.place < length ls
    = omega (
      arith,
      c.requires,
      ap length c.self.view_is,
      length-map ls (line_in c.self.inside.names.items),
    ) in
    let inside
    = subst (IsInside c.self.inside.names.items) (sym c.index-line.ensures)
    (c.self.invariant c.args.place line low) in
    let long = any-long (λ b. b == 58) line.text.now inside.colon in
    omega (arith, long, inside.own)

pub slice_bounds-result-start : goal.slice_bounds-result-start
slice_bounds-result-start c =
    let ls = c.self.inside.lines.items in
    let line = c.index-line.result.now in
    let low : c.args.place < length ls
    = omega (
      arith,
      c.requires,
      ap length c.self.view_is,
      length-map ls (line_in c.self.inside.names.items),
    ) in
    let inside
    = subst (IsInside c.self.inside.names.items) (sym c.index-line.ensures)
    (c.self.invariant c.args.place line low) in
    let long = any-long (λ b. b == 58) line.text.now inside.colon in
    omega (arith, long, inside.own)
