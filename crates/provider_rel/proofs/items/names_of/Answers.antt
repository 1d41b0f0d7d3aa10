use Rattle.std.proofs.Common.{◌≡◌, ◌+◌, ◌++◌, ◌∷◌, [], List, Some, map, take, sym, ap, subst, ◌∙◌}
use Rattle.std.proofs.lemmas.List.{map_more}
use Rattle.name_table.specs.NameTable.{IsTableOf}
use Rattle.provider_rel.specs.Items.{Item, item_name}
use Rattle.provider_rel.proofs.items.names_of.Goals as goal

pub loop-item-preserved : goal.loop-item-preserved
loop-item-preserved c =
    let all : List Item = c.args.items.now in
    let l = c.loop-item in
    let one : Item = c.item-item.result in
    let before = map item_name (take l.item-index all) in
    let more : before ++ Some c.name.result.now ∷ [] ≡ map item_name (take (l.item-index + 1) all) =
    ap (λ name. before ++ Some name ∷ []) c.name.ensures
    ∙ ap (λ (y : Item). before ++ item_name y ∷ []) c.item-item.is
    ∙ sym (map_more item_name all l.item-index one c.loop-item-test.true) in
    record {
      count = c.in_ok-push.ensures.count ∙ ap (λ n. n + 1) l.invariant.count;
      is = subst (IsTableOf c.push.new.self) more (c.in_ok-push.ensures.ok before l.invariant.is);
    }
