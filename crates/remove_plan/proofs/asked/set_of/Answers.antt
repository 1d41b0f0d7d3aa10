use Rattle.std.proofs.Common.{◌≡◌, ◌∙◌, ◌<◌, ◌+◌, ◌++◌, ◌∷◌, [], ap, sym, take, length, get_or}
use Rattle.std.specs.Prelude.{◌||◌}
use Rattle.std.specs.Str.{bytes_eq}
use Rattle.std.proofs.lemmas.List.{take_more}
use Rattle.std.proofs.lemmas.List.Folds.{list_any-append}
use Rattle.name_table.specs.FirstSeen.{is_among}
use Rattle.remove_plan.proofs.MarkLemmas.{among-more}
use Rattle.remove_plan.proofs.asked.set_of.Goals as goal

pub loop-name-preserved : goal.loop-name-preserved
loop-name-preserved c = λ other.
    let names = c.args.names.now in
    let i = c.loop-name.name-index in
    let n = c.name-item.result in
    let same = c.as_slice-name-items.ensures in
    let less : i < length names = rw (← same) c.loop-name-test.true in
    let is : n ≡ get_or names i n = rw same at c.name-item.is in
    c.in_ok-insert.ensures.among other
    ∙ ap (λ b. b || bytes_eq other c.as_bytes.result.now) (c.loop-name.invariant other)
    ∙ ap (λ m. is_among (take i names) other || bytes_eq other m) c.as_bytes.ensures
    ∙ sym (among-more names i n other less is)
