use Rattle.std.proofs.Common.{◌≡◌, ◌++◌, false, length, Some, None, option_map, sym, ap, inr, ◌∙◌}
use Rattle.std.proofs.Common.{arith, append-nil}
use Rattle.std.specs.List.{filter_map}
use Rattle.km_names.specs.Lines.{lines_of}
use Rattle.km_names.specs.Statements.{line_fault}
use Rattle.km_names.specs.declared.conf.ConfFault.TheVariants.{BadLine}
use Rattle.unmet_file.proofs.StatedLines.{stated-more, stated-none}
use Rattle.unmet_file.proofs.TextLines.{no-lines}
use Rattle.devname_nodes.specs.Line.{line_node, is_ignored}
use Rattle.devname_nodes.proofs.LineSteps.{place_at, place-begins, place-none, place-passed}
use Rattle.devname_nodes.proofs.LineSteps.{place-ignored, place-found, stated-begins, all-read}
use Rattle.devname_nodes.proofs.LineSteps.{one-bad}
use Rattle.devname_nodes.proofs.read.read_nodes.Goals as goal
use Rattle.devname_nodes.proofs.read.read_nodes.Goals.{in-Some+in_ok-push-in-Some}
use Rattle.devname_nodes.proofs.read.read_nodes.Goals.{in-None+else-not-is_ignored}

pub loop-rest-init : goal.loop-rest-init
loop-rest-init c =
    let bytes = c.args.bytes.now in
    record {
      nodes
          = ap (λ xs. xs ++ filter_map line_node (lines_of bytes)) c.new-nodes.ensures
          ∙ stated-begins bytes;
      place = place-begins c.args.file.now bytes;
      number = omega arith;
    }

pub returns-then-not-is_ignored-clause-err : goal.returns-then-not-is_ignored-clause-err
returns-then-not-is_ignored-clause-err c =
    let file = c.args.file.now in
    let line = c.first_line.result.0.now in
    let next = lines_of c.first_line.result.1.now in
    let none : None ≡ line_node line = sym c.in-None.is ∙ c.in_ok-stated.ensures in
    let counts : is_ignored line ≡ false = sym c.is_ignored.ensures ∙ c.if-not-is_ignored.true in
    let named : c.in_ok-path-in-None.path ≡ file
    = c.in_ok-path-in-None.ensures ∙ c.as_bytes.ensures in
    inr (one-bad file c.args.bytes.now (BadLine c.in_ok-path-in-None.path c.loop-rest.number)
    (ap (option_map line_fault)
    (sym c.loop-rest.invariant.place
    ∙ ap (place_at file c.loop-rest.number) c.first_line.ensures.lines
    ∙ place-found file c.loop-rest.number line next none counts)
    ∙ ap (λ path. Some (BadLine path c.loop-rest.number)) (sym named)))

pub loop-rest-preserved : goal.loop-rest-preserved
loop-rest-preserved c =
    let file = c.args.file.now in
    let line = c.first_line.result.0.now in
    let next = lines_of c.first_line.result.1.now in
    let split = c.first_line.ensures.lines in
    let before = c.loop-rest.nodes in
    elim c.match-stated.branch [
      | in-Some+in_ok-push-in-Some w ↦
          let is : Some w.in-Some.node ≡ line_node line
          = sym w.in-Some.is ∙ c.in_ok-stated.ensures in
          record {
            nodes
                = ap (λ xs. xs ++ filter_map line_node next)
                (w.nodes-is ∙ w.in_ok-push-in-Some.ensures.ok)
                ∙ stated-more line_node before line next w.in-Some.node is
                ∙ ap (λ ls. before ++ filter_map line_node ls) (sym split)
                ∙ c.loop-rest.invariant.nodes;
            place = sym (place-passed file c.loop-rest.number line next w.in-Some.node is)
                ∙ ap (place_at file c.loop-rest.number) (sym split)
                ∙ c.loop-rest.invariant.place;
            number = omega (arith, c.first_line.ensures.shorter, c.loop-rest.invariant.number);
          }
      | in-None+else-not-is_ignored w ↦
          let none : None ≡ line_node line = sym w.in-None.is ∙ c.in_ok-stated.ensures in
          record {
            nodes = ap (λ xs. xs ++ filter_map line_node next) w.nodes-is
                ∙ stated-none line_node before line next none
                ∙ ap (λ ls. before ++ filter_map line_node ls) (sym split)
                ∙ c.loop-rest.invariant.nodes;
            place
                = sym (place-ignored file c.loop-rest.number line next
                (sym w.is_ignored.ensures ∙ w.if-not-is_ignored.false))
                ∙ ap (place_at file c.loop-rest.number) (sym split)
                ∙ c.loop-rest.invariant.place;
            number = omega (arith, c.first_line.ensures.shorter, c.loop-rest.invariant.number);
          }
    ]

pub returns-clause-ok : goal.returns-clause-ok
returns-clause-ok c =
    let nodes = c.loop-rest.nodes in
    let over : length c.loop-rest.rest.now ≡ 0 = grind arith in
    all-read c.args.file.now c.args.bytes.now nodes
    (sym c.loop-rest.invariant.place
    ∙ ap (place_at c.args.file.now c.loop-rest.number) (no-lines c.loop-rest.rest.now over)
    ∙ place-none c.args.file.now c.loop-rest.number)
    (sym c.loop-rest.invariant.nodes
    ∙ ap (λ ls. nodes ++ filter_map line_node ls) (no-lines c.loop-rest.rest.now over)
    ∙ append-nil nodes)
