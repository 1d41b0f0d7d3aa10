use Rattle.std.proofs.Common.{◌≡◌, ℕ, List, codes, map, ap, ◌∙◌}
use Rattle.std.proofs.lemmas.Result.{IfOk-weaker}
use Rattle.modinfo_fields.specs.Fields.{values_of_key}
use Rattle.modinfo_tool.specs.Parameters.{described, first_told, parameter_names, parameter_values}
use Rattle.modinfo_tool.proofs.parameters.parameter_values.Goals as goal

-- the values of parameters of these names, by values of the two keys
abbrev by : (parms types names : List (List ℕ)) → List (List ℕ)
by parms types names =
    map (λ name. described name (first_told parms name) (first_told types name)) names

pub returns : goal.returns
unfolding parameter_values
returns c =
    let fields = c.args.fields.now in
    IfOk-weaker c.described_by.result _ _ (λ values is.
    is
    ∙ ap (λ parms. by parms c.as_slice-2.result.now c.in_ok-names.names)
    (c.as_slice.ensures ∙ c.in_ok-parms.ensures)
    ∙ ap (λ types. by (values_of_key (codes "parm") fields) types c.in_ok-names.names)
    (c.as_slice-2.ensures ∙ c.in_ok-types.ensures)
    ∙ ap (by (values_of_key (codes "parm") fields) (values_of_key (codes "parmtype") fields))
    c.in_ok-names.ensures)
    c.described_by.ensures
