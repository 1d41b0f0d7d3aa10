use Rattle.std.proofs.Common.{◌≡◌, ◌++◌, drop}
use Rattle.std.specs.Prelude.{map}
use Rattle.std.specs.List.{filter_map}
use Rattle.km_names.specs.First.{first}
use Rattle.km_names.specs.declared.conf.Line.{Line}
use Rattle.km_names.specs.Statements.{bad_place, bad_places, file_statements}
use Rattle.km_names.proofs.statement.parse_file.Given as goal

abbrev pub invariant-loop-line : goal.invariant-loop-line
invariant-loop-line g l =
    let read = g.S.Statement.read in
    (first (map (λ (line : Line). bad_place l.file.path line.number (read line.text))
    (drop l.line-index l.line-items))
    ≡ first (bad_places read l.file))
    × (l.statements ++ filter_map (λ (line : Line). read line.text) (drop l.line-index l.line-items)
    ≡ l.fn.statements ++ file_statements read l.file)
