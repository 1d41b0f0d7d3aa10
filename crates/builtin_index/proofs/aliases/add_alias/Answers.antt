use Rattle.std.proofs.Common.{ℕ, List, option_map, sym, ap, subst, ◌∙◌}
use Rattle.std.specs.Option.{option_to_list}
use Rattle.km_names.specs.Path.{underscored}
use Rattle.index_format.specs.Map.{IsKey, IsText, with_value}
use Rattle.index_write.proofs.VisibleWords.{normal-key, underscored-text}
use Rattle.index_format.specs.Listing.{with_values}
use Rattle.builtin_index.proofs.aliases.add_alias.Goals as goal

pub add_owned-requires-clause-key : goal.add_owned-requires-clause-key
add_owned-requires-clause-key c =
    subst IsKey (sym c.in_ok-into_vec.ensures)
    (normal-key c.args.stated.alias.now c.in-Some.key c.requires.alias
    (sym c.in_ok-key.ensures ∙ c.in-Some.is))

pub add_owned-requires-clause-text : goal.add_owned-requires-clause-text
add_owned-requires-clause-text c =
    subst IsText (sym (c.as_bytes.ensures ∙ c.in_ok-name.ensures))
    (underscored-text c.args.stated.module.now c.requires.module)

pub returns-in_ok-add_owned : goal.returns-in_ok-add_owned
returns-in_ok-add_owned c =
    let stated = c.args.stated in
    let owner = underscored stated.module.now in
    c.in_ok-add_owned.ensures.ok
    ∙ ap (λ key. with_value c.args.key_map.now key (stated.place, c.as_bytes.result.now))
    c.in_ok-into_vec.ensures
    ∙ ap (λ text. with_value c.args.key_map.now c.in-Some.key (stated.place, text))
    (c.as_bytes.ensures ∙ c.in_ok-name.ensures)
    ∙ ap (λ o. with_values c.args.key_map.now
    (option_to_list (option_map (λ (key : List ℕ). (key, (stated.place, owner))) o)))
    (sym c.in-Some.is ∙ c.in_ok-key.ensures)

pub returns-in_default : goal.returns-in_default
returns-in_default c =
    let stated = c.args.stated in
    let owner = underscored stated.module.now in
    ap (λ o. with_values c.args.key_map.now
    (option_to_list (option_map (λ (key : List ℕ). (key, (stated.place, owner))) o)))
    (sym c.in_default.is ∙ c.in_ok-key.ensures)
