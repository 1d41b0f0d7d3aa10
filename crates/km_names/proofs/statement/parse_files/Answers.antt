use Rattle.std.proofs.Common.{◌++◌, ap, ◌∙◌, drop, arith, length, ◌<◌, ◌+◌}
use Rattle.std.proofs.lemmas.Result.{err_from_is_err_and}
use Rattle.km_names.specs.Statements.{stated}
use Rattle.km_names.proofs.StatementSteps.{bad-more, stated-more, parsed-all, refused}
use Rattle.km_names.proofs.statement.parse_files.Goals as goal

pub returns-in_err-parse_file-clause-err : goal.returns-in_err-parse_file-clause-err
returns-in_err-parse_file-clause-err g c =
    let p
    = err_from_is_err_and c.from_residual.result c.from_residual.ensures.1 in rw (p.1, p.2)
    (refused g.S.Statement.read c.as_slice-file-items.result.now c.args.files.now
    c.loop-file.file-index c.file-item.result _ (omega arith) c.file-item.is
    c.loop-file.invariant.0 c.in_err-parse_file.ensures.err)

pub loop-file-preserved : goal.loop-file-preserved
loop-file-preserved g c =
    let read = g.S.Statement.read in
    let files = c.as_slice-file-items.result.now in
    let i = c.loop-file.file-index in
    let l : i < length files = omega arith in (
      bad-more read files i c.file-item.result l c.file-item.is c.in_ok-parse_file.ensures.ok
          ∙ c.loop-file.invariant.0,
      ap (λ xs. xs ++ stated read (drop (i + 1) files)) c.in_ok-parse_file.ensures.statements
          ∙ stated-more read c.loop-file.statements files i c.file-item.result l c.file-item.is
          ∙ c.loop-file.invariant.1,
    )

pub returns-clause-ok : goal.returns-clause-ok
returns-clause-ok g c =
    parsed-all g.S.Statement.read c.loop-file.statements c.as_slice-file-items.result.now
    c.args.files.now c.loop-file.file-index (omega arith) c.loop-file.invariant.0
    c.loop-file.invariant.1
