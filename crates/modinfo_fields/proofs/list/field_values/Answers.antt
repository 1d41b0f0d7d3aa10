use Rattle.std.proofs.Common.{◌++◌, [], ◌∷◌, ◌∙◌, ap, sym, length, append-nil}
use Rattle.std.proofs.lemmas.Bool.{eqb-true}
use Rattle.std.proofs.lemmas.List.{nil_from_length}
use Rattle.modinfo_fields.specs.Fields.{fields_of, values_of_key}
use Rattle.modinfo_fields.proofs.Pieces.{values-nil, values_later}
use Rattle.modinfo_fields.proofs.list.field_values.Goals as goal

pub loop-rest-preserved-in_ok-push : goal.loop-rest-preserved-in_ok-push
loop-rest-preserved-in_ok-push c =
    let key = c.args.key.now in
    let after = c.split_at_byte.result.1.now in
    let value = c.in_ok-from_slice.field-0 in
    ap (λ l. l ++ values_of_key key (fields_of after)) c.in_ok-push.ensures.ok
    ∙ values_later key c.args.bytes.now c.loop-rest.rest.now c.split_at_byte.result.0.now after
    c.loop-rest.values (value ∷ [])
    c.loop-rest.invariant c.split_at_byte.ensures.before c.split_at_byte.ensures.after
    (ap (λ v. v ∷ []) c.in_ok-from_slice.ensures ∙ c.in-Some.ensures)

pub loop-rest-preserved : goal.loop-rest-preserved
loop-rest-preserved c =
    let key = c.args.key.now in
    let after = c.split_at_byte.result.1.now in
    sym (ap (λ l. l ++ values_of_key key (fields_of after)) (append-nil c.loop-rest.values))
    ∙ values_later key c.args.bytes.now c.loop-rest.rest.now c.split_at_byte.result.0.now after
    c.loop-rest.values []
    c.loop-rest.invariant c.split_at_byte.ensures.before c.split_at_byte.ensures.after
    c.in_default.ensures

pub returns : goal.returns
returns c =
    let key = c.args.key.now in
    let none
    = nil_from_length c.loop-rest.rest.now
    (eqb-true (length c.loop-rest.rest.now) 0 (sym c.loop-rest-test.ensures)) in
    sym (append-nil c.loop-rest.values)
    ∙ ap (λ l. c.loop-rest.values ++ l)
    (sym (ap (λ r. values_of_key key (fields_of r)) none ∙ values-nil key))
    ∙ c.loop-rest.invariant
