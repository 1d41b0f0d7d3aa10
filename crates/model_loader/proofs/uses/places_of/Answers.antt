use Rattle.std.proofs.Common.{◌≡◌, ◌+◌, ◌++◌, ◌∷◌, [], List, Some, take, sym, ap, subst, ◌∙◌}
use Rattle.std.proofs.lemmas.List.{map_more}
use Rattle.name_table.specs.NameTable.{IsTableOf}
use Rattle.model_loader.specs.declared.entry.Entry.{Entry}
use Rattle.model_loader.specs.Uses.{stated_names}
use Rattle.model_loader.proofs.uses.places_of.Goals as goal

pub loop-entry-preserved : goal.loop-entry-preserved
loop-entry-preserved c =
    let entries : List Entry = c.args.entries.now in
    let l = c.loop-entry in
    let entry : Entry = c.entry-item.result in
    let before = stated_names (take l.entry-index entries) in
    let more : before ++ Some c.as_bytes.result.now ∷ []
    ≡ stated_names (take (l.entry-index + 1) entries)
    =
    ap (λ name. before ++ Some name ∷ []) c.as_bytes.ensures
    ∙ ap (λ (e : Entry). before ++ Some e.loaded.name ∷ []) c.entry-item.is
    ∙ sym (map_more (λ (e : Entry). Some e.loaded.name) entries l.entry-index entry
    c.loop-entry-test.true) in
    record {
      table
          = subst (IsTableOf c.push.new.self) more
          (c.in_ok-push.ensures.ok before l.invariant.table);
      count = c.in_ok-push.ensures.count ∙ ap (λ n. n + 1) l.invariant.count;
    }
