use Rattle.std.proofs.Common.{◌≡◌, ◌++◌, length, Some, None, option_map, sym, ap, inr, ◌∙◌, arith}
use Rattle.std.proofs.Common.{append-nil}
use Rattle.std.specs.List.{filter_map}
use Rattle.km_names.specs.Lines.{lines_of}
use Rattle.km_names.specs.Statements.{line_fault}
use Rattle.km_names.specs.declared.conf.ConfFault.TheVariants.{BadLine}
use Rattle.unmet_file.specs.Line.{unmet_line}
use Rattle.unmet_file.proofs.StatedLines.{stated-more}
use Rattle.unmet_file.proofs.TextLines.{no-lines}
use Rattle.unmet_file.proofs.LineSteps.{place_at, place-begins, place-none, place-passed}
use Rattle.unmet_file.proofs.LineSteps.{place-found, stated-begins, all-read, one-bad}
use Rattle.unmet_file.proofs.unmet.Unmet.read.Goals as goal

pub loop-rest-init : goal.loop-rest-init
loop-rest-init c =
    let bytes = c.args.bytes.now in
    record {
      lines
          = ap (λ xs. xs ++ filter_map unmet_line (lines_of bytes)) c.new-lines.ensures
          ∙ stated-begins bytes;
      place = place-begins c.args.file.now bytes;
      number = omega arith;
    }

pub returns-in-None-clause-err : goal.returns-in-None-clause-err
returns-in-None-clause-err c =
    let file = c.args.file.now in
    let line = c.first_line.result.0.now in
    let next = lines_of c.first_line.result.1.now in
    let nothing : None ≡ unmet_line line = sym c.in-None.is ∙ c.in_ok-unbound.ensures in
    let named : c.in_ok-from_slice-in-None.field-0 ≡ file
    = c.in_ok-from_slice-in-None.ensures ∙ c.as_bytes.ensures in
    inr (one-bad file c.args.bytes.now
    (BadLine c.in_ok-from_slice-in-None.field-0 c.loop-rest.number)
    (ap (option_map line_fault)
    (sym c.loop-rest.invariant.place
    ∙ ap (place_at file c.loop-rest.number) c.first_line.ensures.lines
    ∙ place-found file c.loop-rest.number line next nothing)
    ∙ ap (λ path. Some (BadLine path c.loop-rest.number)) (sym named)))

pub loop-rest-preserved : goal.loop-rest-preserved
loop-rest-preserved c =
    let file = c.args.file.now in
    let line = c.first_line.result.0.now in
    let next = lines_of c.first_line.result.1.now in
    let before = c.loop-rest.lines in
    let is : Some c.in-Some.unbound ≡ unmet_line line
    = sym c.in-Some.is ∙ c.in_ok-unbound.ensures in
    record {
      lines = ap (λ xs. xs ++ filter_map unmet_line next) c.in_ok-push-in-Some.ensures.ok
          ∙ stated-more unmet_line before line next c.in-Some.unbound is
          ∙ ap (λ ls. before ++ filter_map unmet_line ls) (sym c.first_line.ensures.lines)
          ∙ c.loop-rest.invariant.lines;
      place = sym (place-passed file c.loop-rest.number line next c.in-Some.unbound is)
          ∙ ap (place_at file c.loop-rest.number) (sym c.first_line.ensures.lines)
          ∙ c.loop-rest.invariant.place;
      number = omega (arith, c.first_line.ensures.shorter, c.loop-rest.invariant.number);
    }

pub returns-clause-ok : goal.returns-clause-ok
returns-clause-ok c =
    let lines = c.loop-rest.lines in
    let over : length c.loop-rest.rest.now ≡ 0 = grind arith in
    all-read c.args.file.now c.args.bytes.now lines
    (sym c.loop-rest.invariant.place
    ∙ ap (place_at c.args.file.now c.loop-rest.number) (no-lines c.loop-rest.rest.now over)
    ∙ place-none c.args.file.now c.loop-rest.number)
    (sym c.loop-rest.invariant.lines
    ∙ ap (λ ls. lines ++ filter_map unmet_line ls) (no-lines c.loop-rest.rest.now over)
    ∙ append-nil lines)
