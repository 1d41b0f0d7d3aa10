use Rattle.std.proofs.lemmas.Result.{err_from_is_err_and}
use Rattle.index_format.specs.Check.{index_fault}
use Rattle.index_read.specs.declared.index.Index.{Index}
use Rattle.stages_files.specs.IndexFile.{index_outcome}
use Rattle.km_course.proofs.Steps.{next, exits, answered}
use Rattle.stages_files.proofs.FileSteps.{adopted}
use Rattle.stages_files.proofs.index_file.read_index.Goals as goal

pub returns-in_err-bytes : goal.returns-in_err-bytes
returns-in_err-bytes g c = λ out err.
    let p = err_from_is_err_and c.from_residual.result c.from_residual.ensures.1 in
    exits _ _ (adopted c.args.path) p.1 p.2 (c.in_err-bytes.ensures.follows out err)

pub returns : goal.returns
returns g c = λ out err.
    next (adopted c.args.path) (c.in_ok-bytes.ensures.follows out err)
    (answered (λ (x : Index). x)
    (index_outcome c.args.path c.in_ok-bytes.bytes (index_fault c.in_ok-bytes.bytes)) _
    c.adopt_index.result c.adopt_index.ensures)
