use Rattle.std.proofs.Common.{◌≡◌, sym, ap, ◌∙◌, ◌+◌, ◌-◌, ◌∷◌, length, drop}
use Rattle.index_format.specs.Check.{whole_values}
use Rattle.index_format.specs.Nodes.{values_from}
use Rattle.index_nodes.specs.Places.{values_left, value_at}
use Rattle.index_nodes.proofs.ReadLemmas.{place_parts, values_left-step, if_none, if_some}
use Rattle.index_nodes.proofs.read.next_place.Goals as goal

pub place_at-requires-clause-whole : goal.place_at-requires-clause-whole
place_at-requires-clause-whole c =
    let b = c.args.bytes.now in
    let at = c.args.at.now in
    let size = ap length c.text_at-text.ensures.text in
    ap (λ n. whole_values (at.left - 1) (drop (at.start + 4 + n + 1) b)) size
    ∙ (place_parts b at c.requires).rest

pub returns-clause-none : goal.returns-clause-none
returns-clause-none c =
    let b = c.args.bytes.now in
    let at = c.args.at.now in
    let size = ap length c.text_at-text.ensures.text in
    let step
    = values_left-step b at c.requires
    ∙ ap (λ n. value_at b at ∷ values_from b (at.start + 4 + n + 1) (at.left - 1))
    (sym size) in
    if_none c.place_at.result (λ e. step ∙ ap (λ vs. value_at b at ∷ vs) e) c.place_at.ensures.none

pub returns-clause-some : goal.returns-clause-some
returns-clause-some c =
    let b = c.args.bytes.now in
    let at = c.args.at.now in
    let size = ap length c.text_at-text.ensures.text in
    let step
    = values_left-step b at c.requires
    ∙ ap (λ n. value_at b at ∷ values_from b (at.start + 4 + n + 1) (at.left - 1))
    (sym size) in
    let rest = values_from b (at.start + 4 + length c.text_at-text.result.now + 1) (at.left - 1) in
    if_some c.place_at.result (λ next. values_left b next ≡ rest)
    (λ next. values_left b at ≡ value_at b at ∷ values_left b next)
    (λ next e. step ∙ ap (λ vs. value_at b at ∷ vs) (sym e)) c.place_at.ensures.some
