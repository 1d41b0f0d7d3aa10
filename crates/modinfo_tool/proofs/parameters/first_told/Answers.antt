use Rattle.std.proofs.Common.{◌≡◌, ℕ, List, Bor, Some, None, ap, sym, ◌∙◌, cond, option_map, take}
use Rattle.std.specs.Map.{lookup}
use Rattle.std.specs.Option.{option_or}
use Rattle.std.specs.Str.{bytes_eq}
use Rattle.indexmap.specs.IndexMap.{get_by}
use Rattle.name_table.specs.declared.key.NameKey.{NameKey}
use Rattle.name_table.proofs.TableSteps.{key_of}
use Rattle.modinfo_fields.specs.Fields.{parameter_of, description_of}
use Rattle.modinfo_tool.specs.Parameters.{first_told}
use Rattle.modinfo_tool.proofs.ParameterSteps.{first_told-next, told-more}
use Rattle.modinfo_tool.proofs.parameters.first_told.Goals as goal

pub loop-value-init : goal.loop-value-init
unfolding first_told
loop-value-init c =
    λ name. ap (λ es. option_map (λ (t : Bor (List ℕ)). t.now)
    (lookup (λ (key : NameKey). bytes_eq name key.bytes.now) es))
    c.with_hasher-told.ensures.empty

pub loop-value-preserved : goal.loop-value-preserved
loop-value-preserved c = λ name.
    let value = c.value-item.result in
    let stated = c.new-in-loop-value.result.bytes.now in
    let rest = c.split_at_byte.result.1 in
    let so_far = first_told (take c.loop-value.value-index c.args.values.now) name in
    let named : stated ≡ parameter_of value
    = c.new-in-loop-value.ensures ∙ c.split_at_byte.ensures.before
    ∙ ap parameter_of c.as_bytes.ensures in
    let told : rest.now ≡ description_of value
    = c.split_at_byte.ensures.after ∙ ap description_of c.as_bytes.ensures in
    told-more _ (get_by (λ (key : NameKey). bytes_eq name key.bytes.now) c.loop-value.told) rest
    (bytes_eq stated name) (c.in_ok-keep_first.ensures.ok (key_of name))
    ∙ ap (λ o. option_or o (cond (bytes_eq stated name) (Some rest.now) None))
    (c.loop-value.invariant name)
    ∙ ap (λ n. option_or so_far (cond (bytes_eq n name) (Some rest.now) None)) named
    ∙ ap (λ r. option_or so_far (cond (bytes_eq (parameter_of value) name) (Some r) None)) told
    ∙ sym (first_told-next c.args.values.now c.loop-value.value-index value name
    c.loop-value-test.true c.value-item.is)
