use Rattle.std.proofs.Common.{◌≡◌, ◌≤◌, ◌∙◌, sym, [], length, true, false, arith}
use Rattle.std.proofs.lemmas.Bool.{true≢false, eqb-true}
use Rattle.std.proofs.lemmas.List.{nil_from_length}
use Rattle.name_lookup.proofs.FoundSteps.{one-stays}
use Rattle.name_lookup.proofs.found.stays.Goals as goal

pub returns-then-drops : goal.returns-then-drops
returns-then-drops c =
    let few : length c.args.names.now ≤ 1 = omega (arith, c.if-len-gt1.false, c.len.ensures) in
    λ e. one-stays c.args.names.now c.args.dropped.now c.args.drops few
    (λ drops. nil_from_length c.args.dropped.now
    (sym c.len-then-drops.ensures ∙ eqb-true c.len-then-drops.result 0 e))

pub returns : goal.returns
returns c =
    let few : length c.args.names.now ≤ 1 = omega (arith, c.if-len-gt1.false, c.len.ensures) in
    λ e. one-stays c.args.names.now c.args.dropped.now c.args.drops few
    (λ drops. absurd (true≢false (sym drops ∙ c.if-drops.false)))
