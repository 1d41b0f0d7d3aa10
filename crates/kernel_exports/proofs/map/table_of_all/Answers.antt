use Rattle.std.proofs.Common.{◌≡◌, ◌+◌, ◌++◌, ◌∷◌, [], List, Some, map, take, sym, ap, subst, ◌∙◌}
use Rattle.std.proofs.lemmas.List.{map_more}
use Rattle.name_table.specs.NameTable.{IsTableOf}
use Rattle.kernel_exports.specs.MapLines.{MapSymbol, any_name}
use Rattle.kernel_exports.proofs.map.table_of_all.Goals as goal

pub loop-line-preserved : goal.loop-line-preserved
loop-line-preserved c =
    let all : List MapSymbol = c.args.lines.now in
    let l = c.loop-line in
    let one : MapSymbol = c.line-item.result in
    let before = map any_name (take l.line-index all) in
    let more : before ++ Some c.name.result.now ∷ [] ≡ map any_name (take (l.line-index + 1) all) =
    ap (λ name. before ++ Some name ∷ []) c.name.ensures
    ∙ ap (λ (y : MapSymbol). before ++ any_name y ∷ []) c.line-item.is
    ∙ sym (map_more any_name all l.line-index one c.loop-line-test.true) in
    record {
      count = c.in_ok-push.ensures.count ∙ ap (λ n. n + 1) l.invariant.count;
      is = subst (IsTableOf c.push.new.self) more (c.in_ok-push.ensures.ok before l.invariant.is);
    }
