use Rattle.std.proofs.Common.{◌++◌, ◌∷◌, Some, None, ap, sym, ◌∙◌, length, append-nil}
use Rattle.std.proofs.lemmas.Bool.{eqb-true}
use Rattle.std.proofs.lemmas.List.{nil_from_length}
use Rattle.builtin_index.specs.Fields.{fields_of}
use Rattle.builtin_index.specs.Parts.{field_shown}
use Rattle.builtin_index.proofs.Pieces.{fields-nil, fields-rest, piece-taken, piece-skipped}
use Rattle.builtin_index.proofs.fields.builtin_fields.Goals as goal

pub loop-rest-preserved-in_ok-push : goal.loop-rest-preserved-in_ok-push
loop-rest-preserved-in_ok-push c =
    let rest = c.loop-rest.rest.now in
    let after = c.split_at_byte.result.1.now in
    let list = c.loop-rest.list.items in
    let is
    = fields-rest rest c.split_at_byte.result.0.now after (Some (field_shown c.in-Some.parts))
    c.split_at_byte.ensures.before c.split_at_byte.ensures.after c.in-Some.ensures.field in
    ap (λ l. l ++ fields_of after) c.in_ok-push.ensures.items
    ∙ piece-taken c.args.bytes.now rest after list c.in_ok-field.field-0 c.loop-rest.invariant
    (is ∙ ap (λ f. f ∷ fields_of after) (sym c.in_ok-field.ensures))

pub loop-rest-preserved : goal.loop-rest-preserved
loop-rest-preserved c =
    let rest = c.loop-rest.rest.now in
    let after = c.split_at_byte.result.1.now in
    piece-skipped c.args.bytes.now rest after c.loop-rest.list.items c.loop-rest.invariant
    (fields-rest rest c.split_at_byte.result.0.now after None c.split_at_byte.ensures.before
    c.split_at_byte.ensures.after c.in_default.ensures.field)

pub returns : goal.returns
returns c =
    let none
    = nil_from_length c.loop-rest.rest.now
    (eqb-true (length c.loop-rest.rest.now) 0 (sym c.loop-rest-test.ensures)) in
    c.from_vec.ensures ∙ sym (append-nil c.loop-rest.list.items)
    ∙ ap (λ l. c.loop-rest.list.items ++ l) (sym (ap fields_of none ∙ fields-nil))
    ∙ c.loop-rest.invariant
