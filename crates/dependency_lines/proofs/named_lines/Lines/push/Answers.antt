use Rattle.std.proofs.Common.{◌≡◌, ap, length, ◌++◌, ◌∷◌, [], ◌∙◌, arith}
use Rattle.std.specs.Prelude.{vec_len}
use Rattle.dependency_lines.proofs.Buffer.{pushed}
use Rattle.dependency_lines.proofs.named_lines.Lines.push.Goals as goal

pub returns : goal.returns
returns c =
    let names = c.self.inside.names in
    let name = c.args.name.now in
    let start : vec_len names ≡ length names.items = omega (arith, names.ok.0) in
    let end : vec_len c.extend_from_slice.new.self ≡ length (names.items ++ name)
    = omega (
      arith,
      c.extend_from_slice.new.self.ok.0,
      ap length c.in_ok-extend_from_slice.ensures.items,
    ) in
    rw (
      c.in_ok-push.ensures.items,
      c.len-start.ensures,
      c.len-end.ensures,
      c.in_ok-extend_from_slice.ensures.items,
    )
    (pushed names.items name c.self.inside.lines.items _ _ c.args.number c.args.own c.args.text
    start end c.self.invariant
    ∙ ap (λ ls. ls ++ (name, (c.args.number, c.args.text.now)) ∷ []) c.self.view_is)
