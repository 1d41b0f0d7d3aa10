use Rattle.std.proofs.Common.{ap, ◌∙◌, sym, subst, ◌++◌}
use Rattle.std.proofs.lemmas.List.{append-nil}
use Rattle.std.specs.FinMap.{entries}
use Rattle.std.specs.List.{AllByRecursion}
use Rattle.index_format.specs.Tree.{Rises}
use Rattle.index_write.specs.Lists.{entries_of, IsStorableEntry}
use Rattle.index_write.specs.Groups.{entries_shown}
use Rattle.index_write.proofs.KeyLemmas.{ordered, rises, entries-map_of}
use Rattle.index_write.proofs.key_map.KeyMap.entries.Goals as goal

pub returns-clause-shown : goal.returns-clause-shown
returns-clause-shown c =
    let gives = c.into_iter-key-iterator.ensures.into_iter_gives in
    sym (append-nil (entries_shown c.loop-key.entries.items))
    ∙ ap (λ it. entries_shown c.loop-key.entries.items ++ entries_of it)
    (sym c.in-None.ensures.steps.0)
    ∙ c.loop-key.invariant
    ∙ ap entries_of gives.0
    ∙ sym (entries-map_of c.self.inside.lists.entries (ordered c.self.inside.lists.entries gives.5))
    ∙ ap entries c.self.view_is

pub returns-clause-rises : goal.returns-clause-rises
returns-clause-rises c =
    let gives = c.into_iter-key-iterator.ensures.into_iter_gives in
    let order = ordered c.self.inside.lists.entries gives.5 in
    subst Rises (sym (entries-map_of c.self.inside.lists.entries order) ∙ ap entries c.self.view_is)
    (rises (entries_of c.self.inside.lists.entries) order)

pub returns-clause-sound : goal.returns-clause-sound
returns-clause-sound c =
    let gives = c.into_iter-key-iterator.ensures.into_iter_gives in
    let order = ordered c.self.inside.lists.entries gives.5 in
    subst (AllByRecursion IsStorableEntry)
    (sym (entries-map_of c.self.inside.lists.entries order) ∙ ap entries c.self.view_is)
    c.self.invariant
