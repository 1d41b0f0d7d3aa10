use Rattle.std.proofs.Common.{ap, ◌∙◌, sym, refl}
use Rattle.std.specs.List.{insert}
use Rattle.index_format.specs.Map.{place}
use Rattle.index_write.specs.Lists.{value_of, shown_values}
use Rattle.index_write.proofs.KeyLemmas.{shown_values-insert}
use Rattle.index_write.proofs.lists.add_to.Goals as goal

pub returns-clause-ok : goal.returns-clause-ok
returns-clause-ok c =
    ap shown_values c.in_ok-insert.ensures.items
    ∙ shown_values-insert c.args.list.now.items c.place_for-at.result c.args.value
    ∙ ap (λ items. insert (shown_values items) c.place_for-at.result (value_of c.args.value))
    (sym c.deref.ensures.value)
    ∙ c.place_for-at.ensures.place (value_of c.args.value) refl
    ∙ ap (λ items. place (shown_values items) (value_of c.args.value)) c.deref.ensures.value
