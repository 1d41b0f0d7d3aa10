use Rattle.std.proofs.Common.{◌++◌, ◌∙◌, ◌<◌, ap, sym, arith, length, append-nil}
use Rattle.std.proofs.lemmas.Bool.{eqb-true, eqb-false}
use Rattle.std.proofs.lemmas.List.{nil_from_length}
use Rattle.modinfo_fields.specs.Fields.{fields_of}
use Rattle.modinfo_fields.proofs.Pieces.{fields-nil, piece_taken, piece_skipped}
use Rattle.modinfo_fields.proofs.list.fields.Goals as goal

pub loop-rest-preserved-in_ok-push : goal.loop-rest-preserved-in_ok-push
loop-rest-preserved-in_ok-push c =
    let piece = c.split_at_byte.result.0.now in
    let some : 0 < length piece
    = omega (arith, eqb-false (length piece) 0 (sym c.if-not-is_empty.ensures)) in
    ap (λ l. l ++ fields_of c.split_at_byte.result.1.now) c.in_ok-push.ensures.items
    ∙ piece_taken c.args.bytes.now c.loop-rest.rest.now piece c.split_at_byte.result.1.now
    c.loop-rest.list.items c.in_ok-read_field.field-0
    c.loop-rest.invariant c.split_at_byte.ensures.before c.split_at_byte.ensures.after some
    c.in_ok-read_field.ensures

pub loop-rest-preserved : goal.loop-rest-preserved
loop-rest-preserved c =
    let piece = c.split_at_byte.result.0.now in
    piece_skipped c.args.bytes.now c.loop-rest.rest.now piece c.split_at_byte.result.1.now
    c.loop-rest.list.items
    c.loop-rest.invariant c.split_at_byte.ensures.before c.split_at_byte.ensures.after
    (eqb-true (length piece) 0 (sym c.if-not-is_empty.ensures))

pub returns : goal.returns
returns c =
    let none
    = nil_from_length c.loop-rest.rest.now
    (eqb-true (length c.loop-rest.rest.now) 0 (sym c.loop-rest-test.ensures)) in
    c.from_vec.ensures ∙ sym (append-nil c.loop-rest.list.items)
    ∙ ap (λ l. c.loop-rest.list.items ++ l) (sym (ap fields_of none ∙ fields-nil))
    ∙ c.loop-rest.invariant
