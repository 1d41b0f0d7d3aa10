use Rattle.std.proofs.Common.{cond, Some, None, sym, ap, ◌∙◌, arith}
use Rattle.kernel_exports.specs.KernelTable.{with_export, export_of_line, stated_export}
use Rattle.kernel_exports.proofs.ExportSteps.{exports-more, exports-same}
use Rattle.kernel_exports.proofs.exports.exports_of_lines.Goals as goal
use Rattle.kernel_exports.proofs.exports.exports_of_lines.Goals.{then-is_of_kernel+in_ok-line_export+in_ok-add_first}
use Rattle.kernel_exports.proofs.exports.exports_of_lines.Goals.{else-is_of_kernel}

pub loop-line-preserved : goal.loop-line-preserved
loop-line-preserved c =
    let line = c.line-item.result in
    let before = c.loop-line.list in
    let kept = c.loop-line.invariant in
    elim c.if-is_of_kernel.branch [
      | then-is_of_kernel+in_ok-line_export+in_ok-add_first w ↦ record {
        count = rw w.names-is (omega (arith, w.in_ok-add_first.ensures.count, kept.count));
        first = rw (w.names-is, w.list-is) (w.in_ok-add_first.ensures.first kept.first);
        list
            = exports-more export_of_line c.args.lines.now c.loop-line.line-index line
            c.loop-line-test.true c.line-item.is before c.if-is_of_kernel.list
            (stated_export line)
            (ap (λ b. cond b (Some (stated_export line)) None)
            (sym c.is_of_kernel.ensures ∙ w.if-is_of_kernel.true)) kept.list
            (w.list-is ∙ w.in_ok-add_first.ensures.list kept.first
            ∙ ap (with_export before) w.in_ok-line_export.ensures);
      }
      | else-is_of_kernel w ↦ record {
        count = rw w.names-is (omega (arith, kept.count));
        first = rw (w.names-is, w.list-is) kept.first;
        list
            = exports-same export_of_line c.args.lines.now c.loop-line.line-index line
            c.loop-line-test.true c.line-item.is before c.if-is_of_kernel.list
            (ap (λ b. cond b (Some (stated_export line)) None)
            (sym c.is_of_kernel.ensures ∙ w.if-is_of_kernel.false)) kept.list w.list-is;
      }
    ]
