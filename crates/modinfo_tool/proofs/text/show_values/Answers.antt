use Rattle.std.proofs.Common.{◌++◌, [], ◌∷◌, ◌∙◌, ap, sym, length, append-nil}
use Rattle.std.proofs.lemmas.Bool.{eqb-true}
use Rattle.std.proofs.lemmas.List.{nil_from_length}
use Rattle.modinfo_fields.specs.Fields.{fields_of, values_of_key}
use Rattle.modinfo_fields.proofs.Pieces.{values-nil}
use Rattle.modinfo_tool.specs.Show.{ended}
use Rattle.modinfo_tool.proofs.LineSteps.{ended-one, lines-later}
use Rattle.modinfo_tool.proofs.text.show_values.Goals as goal

pub loop-rest-preserved-in_ok-push_line : goal.loop-rest-preserved-in_ok-push_line
loop-rest-preserved-in_ok-push_line c =
    let after = c.split_at_byte.result.1.now in
    let value = c.in-Some.value.now in
    ap (λ t. t ++ ended c.line_end-end.result (values_of_key c.args.key.now (fields_of after)))
    (c.in_ok-push_line.ensures
    ∙ ap (λ t. c.loop-rest.text ++ t) (sym (ended-one c.line_end-end.result value)))
    ∙ lines-later c.line_end-end.result c.args.key.now c.loop-rest.rest.now
    c.split_at_byte.result.0.now after c.loop-rest.text _ (value ∷ [])
    c.loop-rest.invariant c.split_at_byte.ensures.before c.split_at_byte.ensures.after
    c.in-Some.ensures

pub loop-rest-preserved : goal.loop-rest-preserved
loop-rest-preserved c =
    let after = c.split_at_byte.result.1.now in
    ap (λ t. t ++ ended c.line_end-end.result (values_of_key c.args.key.now (fields_of after)))
    (sym (append-nil c.loop-rest.text))
    ∙ lines-later c.line_end-end.result c.args.key.now c.loop-rest.rest.now
    c.split_at_byte.result.0.now after c.loop-rest.text _ []
    c.loop-rest.invariant c.split_at_byte.ensures.before c.split_at_byte.ensures.after
    c.in_default.ensures

pub returns : goal.returns
returns c =
    let key = c.args.key.now in
    let none
    = nil_from_length c.loop-rest.rest.now
    (eqb-true (length c.loop-rest.rest.now) 0 (sym c.loop-rest-test.ensures)) in
    sym (append-nil c.loop-rest.text)
    ∙ ap (λ l. c.loop-rest.text ++ ended c.line_end-end.result l)
    (sym (ap (λ r. values_of_key key (fields_of r)) none ∙ values-nil key))
    ∙ c.loop-rest.invariant
    ∙ ap (λ e. ended e (values_of_key key (fields_of c.args.section.now))) c.line_end-end.ensures
