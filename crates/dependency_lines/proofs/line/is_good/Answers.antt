use Rattle.std.proofs.Common.{sym, ◌∙◌}
use Rattle.std.proofs.lemmas.Bool.{and_from}
use Rattle.km_names.specs.Path.{module_name}
use Rattle.mod_tree.specs.DependencyLine.{is_line_path}
use Rattle.dependency_lines.specs.GoodPaths.{is_good}
use Rattle.dependency_lines.proofs.line.is_good.Goals as goal
use Rattle.dependency_lines.proofs.line.is_good.Goals.{then-has-via-then-has}
use Rattle.dependency_lines.proofs.line.is_good.Goals.{then-has-via-else-has+then-has-2}

pub returns-then-has-clause-good : goal.returns-then-has-clause-good
returns-then-has-clause-good g c =
    let has = g.K.KnownNames.has c.args.known.now in
    elim c.then-has.branch [
      | then-has-via-then-has w ↦ sym (c.has.ensures w.if-has.true (is_good has) c.requires.own)
      | then-has-via-else-has+then-has-2 w ↦ sym
          (w.has-else-has.ensures w.if-has-2.true (is_good has) c.requires.kept)
    ]

pub returns-clause-kept : goal.returns-clause-kept
returns-clause-kept g c =
    let has = g.K.KnownNames.has c.args.known.now in
    let path = c.args.path.now in
    c.put.ensures (is_good has) c.requires.kept
    (and_from (is_line_path path) (has (module_name path))
    (sym c.is_line_path.ensures ∙ c.if-not-is_line_path.false)
    (sym c.in_ok-is_known.ensures ∙ c.if-not-branch.false))
