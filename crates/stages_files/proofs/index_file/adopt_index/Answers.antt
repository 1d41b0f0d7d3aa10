use Rattle.std.proofs.Common.{sym, subst, arith}
use Rattle.std.specs.Prelude.{Err}
use Rattle.index_format.specs.Check.{index_fault}
use Rattle.index_read.specs.declared.index.Index.{Index}
use Rattle.km_course.specs.Follows.{Answers}
use Rattle.stages_files.specs.IndexFile.{index_outcome}
use Rattle.stages_files.proofs.FileSteps.{adopted_ok, adopted_fault}
use Rattle.stages_files.proofs.index_file.adopt_index.Goals as goal

pub returns-in-Ok : goal.returns-in-Ok
returns-in-Ok c =
    adopted_ok c.args.file c.args.bytes c.in-Ok.index _ c.in-Ok.ensures.bytes
    c.in-Ok.ensures.accepted

pub returns-in_ok-text-in-BadMagic : goal.returns-in_ok-text-in-BadMagic
returns-in_ok-text-in-BadMagic c =
    subst (λ stop. Answers (λ (x : Index). x)
    (index_outcome c.args.file c.args.bytes (index_fault c.args.bytes)) (Err stop))
    (sym c.from.ensures)
    (adopted_fault c.args.file c.args.bytes c.in_ok-text-in-BadMagic.text _ c.in-Err.fault
    c.in-Err.ensures.fault (λ ran_out. let is = c.in-BadMagic.is in grind arith)
    c.in_ok-text-in-BadMagic.ensures)
