use Rattle.std.proofs.Common.{◌≡◌, ◌+◌, ◌++◌, ◌∷◌, [], List, map, take, sym, ap, subst, ◌∙◌}
use Rattle.std.proofs.lemmas.List.{map_more}
use Rattle.name_table.specs.NameTable.{IsTableOf}
use Rattle.std.specs.Prelude.{option_copied}
use Rattle.kernel_exports.specs.MapLines.{MapSymbol, global_name}
use Rattle.kernel_exports.proofs.map.table_of_globals.Goals as goal

pub loop-line-preserved : goal.loop-line-preserved
loop-line-preserved c =
    let all : List MapSymbol = c.args.lines.now in
    let l = c.loop-line in
    let one : MapSymbol = c.line-item.result in
    let before = map global_name (take l.line-index all) in
    let more : before ++ option_copied c.global_name.result ∷ []
    ≡ map global_name (take (l.line-index + 1) all)
    =
    ap (λ name. before ++ name ∷ []) c.global_name.ensures
    ∙ ap (λ (y : MapSymbol). before ++ global_name y ∷ []) c.line-item.is
    ∙ sym (map_more global_name all l.line-index one c.loop-line-test.true) in
    record {
      count = c.in_ok-push.ensures.count ∙ ap (λ n. n + 1) l.invariant.count;
      is = subst (IsTableOf c.push.new.self) more (c.in_ok-push.ensures.ok before l.invariant.is);
    }
