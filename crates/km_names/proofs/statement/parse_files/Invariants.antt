use Rattle.std.proofs.Common.{◌≡◌, ◌++◌, drop}
use Rattle.km_names.specs.Statements.{bad_line, stated}
use Rattle.km_names.proofs.statement.parse_files.Given as goal

abbrev pub invariant-loop-file : goal.invariant-loop-file
invariant-loop-file g l =
    let read = g.S.Statement.read in
    (bad_line read (drop l.file-index l.file-items) ≡ bad_line read l.files)
    × (l.statements ++ stated read (drop l.file-index l.file-items) ≡ stated read l.files)
