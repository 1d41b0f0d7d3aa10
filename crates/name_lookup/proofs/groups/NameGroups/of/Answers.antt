use Rattle.std.proofs.Common.{List, [], Vec, ap, sym, ◌∙◌}
use Rattle.std.specs.Option.{option_map, unwrap_or}
use Rattle.name_lookup.specs.Groups.{group_of}
use Rattle.name_lookup.proofs.GroupLaws.{group-shown}
use Rattle.name_lookup.proofs.groups.NameGroups.of.Goals as goal

pub returns-in-Some : goal.returns-in-Some
returns-in-Some g c =
    c.as_slice.ensures.value
    ∙ ap (λ o. unwrap_or (option_map (λ v. v.items) o) []) c.in-Some.ensures.value
    ∙ sym (group-shown c.args.name.now c.self.inside.groups.entries)
    ∙ ap (λ gs. group_of gs c.args.name.now) c.self.view_is

pub returns-in-None : goal.returns-in-None
returns-in-None g c =
    ap (λ o. unwrap_or (option_map (λ v. v.items) o) []) c.in-None.ensures.value
    ∙ sym (group-shown c.args.name.now c.self.inside.groups.entries)
    ∙ ap (λ gs. group_of gs c.args.name.now) c.self.view_is
