use Rattle.std.proofs.Common.{◌≡◌, None, ◌∙◌}
use Rattle.std.specs.Str.{bytes_eq}
use Rattle.indexmap.specs.IndexMap.{get}
use Rattle.indexmap.proofs.CallerLemmas.{insert_entry-new}
use Rattle.name_table.specs.Keys.{name_of}
use Rattle.name_table.specs.declared.key.OwnedNameKey.{OwnedNameKey}
use Rattle.name_table.proofs.TableSteps.{absent, put-last}
use Rattle.name_table.proofs.owned.keep_first.Goals as goal

pub returns-in_ok-insert-clause-ok : goal.returns-in_ok-insert-clause-ok
returns-in_ok-insert-clause-ok c = λ other.
    let places = c.args.places.now in
    let same = λ (x y : OwnedNameKey). bytes_eq (name_of x) (name_of y) in
    let key : OwnedNameKey = OwnedNameKey.Owned c.in_ok-from_slice.field-0 in
    let none
    = absent c.get.result _ c.is_none.result c.get.ensures.value c.is_none.ensures
    c.if-is_none.true in
    let new : get same places key ≡ None = rw c.in_ok-from_slice.ensures none in
    put-last name_of places.entries c.insert.new.self.entries key c.args.place c.args.name.now other
    (c.in_ok-insert.ensures.entries ∙ insert_entry-new same places key c.args.place new)
    c.in_ok-from_slice.ensures
