use Rattle.std.proofs.Common.{◌≡◌, ◌∙◌, ℕ, Vec, Global, None, sym}
use Rattle.std.specs.Str.{bytes_eq}
use Rattle.indexmap.specs.IndexMap.{get}
use Rattle.indexmap.proofs.CallerLemmas.{insert_entry-new}
use Rattle.export_table.proofs.TableLemmas.{put-last, on_ok, copied-none}
use Rattle.export_table.proofs.standing.ExportTable.enter.Goals as goal

pub returns-then-is_none-clause-at : goal.returns-then-is_none-clause-at
returns-then-is_none-clause-at c = λ x.
    let standings = c.args.self.now.standings in
    let key = c.args.named.name in
    let new : get (λ (a b : Vec ℕ Global). bytes_eq a.items b.items) standings key ≡ None
    = rw c.as_slice.ensures.value at
    (sym c.get.ensures.value ∙ copied-none c.get.result c.if-is_none.ensures) in
    put-last standings.entries c.insert.new.self.entries key c.args.named.standing x
    (on_ok c.insert.result (c.insert.ensures.succeeds c.requires) c.insert.ensures.entries
    ∙ insert_entry-new (λ (a b : Vec ℕ Global). bytes_eq a.items b.items) standings key
    c.args.named.standing new)
