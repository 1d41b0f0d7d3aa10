use Rattle.std.proofs.Common.{◌∙◌, None, ap, cond}
use Rattle.std.specs.Str.{bytes_eq}
use Rattle.export_table.specs.Standing.{standing_of}
use Rattle.export_table.proofs.TableLemmas.{forget-more}
use Rattle.export_table.proofs.standing.ExportTable.forget_all.Goals as goal

pub loop-export-preserved : goal.loop-export-preserved
loop-export-preserved c = λ x.
    forget-more x c.args.exports.now c.loop-export.export-index c.export-item.result
    (standing_of c.args.self.now x) (standing_of c.loop-export.self x)
    (standing_of c.forget.new.self x)
    c.loop-export-test.true c.export-item.is (c.loop-export.invariant x)
    (c.forget.ensures x
    ∙ ap (λ n. cond (bytes_eq n x) None (standing_of c.loop-export.self x))
    c.as_bytes.ensures)
