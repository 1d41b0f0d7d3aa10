use Rattle.std.proofs.Common.{◌≡◌, ◌++◌, false, length, option_map, refl, sym, ap, inr, ◌∙◌, arith}
use Rattle.std.proofs.Common.{append-nil}
use Rattle.std.specs.List.{filter_map}
use Rattle.km_names.specs.Lines.{lines_of}
use Rattle.kernel_exports.specs.declared.fault.KernelFault.TheVariants.{BadKernelLine}
use Rattle.kernel_exports.specs.TableLines.{is_blank}
use Rattle.kernel_exports.proofs.LineSteps.{refused_from, refused-begins, refused-none}
use Rattle.kernel_exports.proofs.LineSteps.{refused-passed, refused-here, read-passed, blank-passed}
use Rattle.kernel_exports.proofs.LineSteps.{unread-refused, stated-begins, stated-more, stated-same}
use Rattle.kernel_exports.proofs.LineSteps.{no-lines, room-more, room-same}
use Rattle.kernel_exports.proofs.lines.read_lines.Goals as goal
use Rattle.kernel_exports.proofs.lines.read_lines.Goals.{in-Some+in_ok-push-in-Some}
use Rattle.kernel_exports.proofs.lines.read_lines.Goals.{in-None+else-not-is_blank}

pub loop-rest-init : goal.loop-rest-init
loop-rest-init g c =
    let read = g.L.TableLine.read in
    let bytes = c.args.bytes.now in
    record {
      lines
          = ap (λ xs. xs ++ filter_map read (lines_of bytes)) c.new-lines.ensures.items
          ∙ stated-begins read bytes;
      refused = refused-begins read bytes;
      room = omega (arith, ap length c.new-lines.ensures.items);
      number = omega arith;
    }

pub returns-then-not-is_blank-clause-err : goal.returns-then-not-is_blank-clause-err
returns-then-not-is_blank-clause-err g c =
    let read = g.L.TableLine.read in
    let line = c.first_line.result.0.now in
    let some : is_blank line ≡ false = sym c.is_blank.ensures ∙ c.if-not-is_blank.true in
    inr (ap (option_map BadKernelLine)
    (sym c.loop-rest.invariant.refused
    ∙ ap (refused_from read c.loop-rest.number) c.first_line.ensures.lines
    ∙ refused-here read c.loop-rest.number line (lines_of c.first_line.result.1.now)
    (unread-refused read line c.in-None.ensures some)))

pub loop-rest-preserved : goal.loop-rest-preserved
loop-rest-preserved g c =
    let read = g.L.TableLine.read in
    let line = c.first_line.result.0.now in
    let next = lines_of c.first_line.result.1.now in
    let split = c.first_line.ensures.lines in
    let before = c.loop-rest.lines.items in
    elim c.match-parse.branch [
      | in-Some+in_ok-push-in-Some w ↦ record {
        lines
            = ap (λ xs. xs ++ filter_map read next)
            (rw w.lines-is w.in_ok-push-in-Some.ensures.items)
            ∙ stated-more read before line next w.in-Some.read w.in-Some.ensures
            ∙ ap (λ ls. before ++ filter_map read ls) (sym split)
            ∙ c.loop-rest.invariant.lines;
        refused
            = sym (refused-passed read c.loop-rest.number line next
            (read-passed read line w.in-Some.read w.in-Some.ensures))
            ∙ ap (refused_from read c.loop-rest.number) (sym split)
            ∙ c.loop-rest.invariant.refused;
        room
            = room-more before c.match-parse.lines.items w.in-Some.read
            (length c.first_line.result.1.now) (length c.loop-rest.rest.now)
            (length c.args.bytes.now) (rw w.lines-is w.in_ok-push-in-Some.ensures.items)
            c.first_line.ensures.shorter c.loop-rest.invariant.room;
        number = omega (arith, c.first_line.ensures.shorter, c.loop-rest.invariant.number);
      }
      | in-None+else-not-is_blank w ↦ record {
        lines = ap (λ xs. xs ++ filter_map read next) (rw w.lines-is refl)
            ∙ ap (λ ls. before ++ ls) (stated-same read line next w.in-None.ensures)
            ∙ ap (λ ls. before ++ filter_map read ls) (sym split)
            ∙ c.loop-rest.invariant.lines;
        refused
            = sym (refused-passed read c.loop-rest.number line next
            (blank-passed read line (sym w.is_blank.ensures ∙ w.if-not-is_blank.false)))
            ∙ ap (refused_from read c.loop-rest.number) (sym split)
            ∙ c.loop-rest.invariant.refused;
        room
            = room-same before c.match-parse.lines.items (length c.first_line.result.1.now)
            (length c.loop-rest.rest.now) (length c.args.bytes.now) (rw w.lines-is refl)
            c.first_line.ensures.shorter c.loop-rest.invariant.room;
        number = omega (arith, c.first_line.ensures.shorter, c.loop-rest.invariant.number);
      }
    ]

pub returns-clause-ok : goal.returns-clause-ok
returns-clause-ok g c =
    let read = g.L.TableLine.read in
    let lines = c.loop-rest.lines.items in
    let over : length c.loop-rest.rest.now ≡ 0 = grind arith in
    sym (append-nil lines)
    ∙ ap (λ ls. lines ++ filter_map read ls) (sym (no-lines c.loop-rest.rest.now over))
    ∙ c.loop-rest.invariant.lines

pub returns-clause-passed : goal.returns-clause-passed
returns-clause-passed g c =
    let read = g.L.TableLine.read in
    let over : length c.loop-rest.rest.now ≡ 0 = grind arith in
    sym c.loop-rest.invariant.refused
    ∙ ap (refused_from read c.loop-rest.number) (no-lines c.loop-rest.rest.now over)
    ∙ refused-none read c.loop-rest.number
