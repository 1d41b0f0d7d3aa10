use Rattle.std.proofs.Common.{◌≡◌, ◌<◌, ◌++◌, ◌∷◌, [], ℕ, length, get_or, refl, ap, ◌∙◌, arith}
use Rattle.std.proofs.lemmas.List.{get_or_default}
use Rattle.symbol_binding.specs.declared.unbound.Unbound.TheVariants.{Double}
use Rattle.provider_rel.specs.Items.{Item}
use Rattle.provider_rel.proofs.LinkSteps.{chain-step, chain-end}
use Rattle.provider_rel.proofs.doubles.push_chain.Goals as goal

pub returns-then-after-at-clause-last : goal.returns-then-after-at-clause-last
returns-then-after-at-clause-last c js chain =
    let item = c.args.item.now in
    let items = c.args.items.now in
    let next = c.args.next.now in
    let at = c.chain.at in
    let line = λ (j : ℕ). Double item.export.name (get_or items j item).path item.path in
    let added : c.push.new.self ≡ c.chain.lines ++ line at ∷ [] =
    c.in_ok-push.ensures.ok ∙ ap (λ l. c.chain.lines ++ l ∷ []) (c.in_ok-double.ensures
    ∙ ap (λ (i : Item). Double item.export.name i.path item.path)
    (c.index-items-at.is
    ∙ get_or_default items at c.index-items-at.result item c.chain.invariant.inside)) in
    (chain-end line next c.args.from at (get_or next at 0) js c.args.lines.now c.chain.lines
    c.push.new.self refl c.if-after-at.true added (c.chain.invariant.left js chain)).0

pub returns-then-after-at-clause-lines : goal.returns-then-after-at-clause-lines
returns-then-after-at-clause-lines c js chain =
    let item = c.args.item.now in
    let items = c.args.items.now in
    let next = c.args.next.now in
    let at = c.chain.at in
    let line = λ (j : ℕ). Double item.export.name (get_or items j item).path item.path in
    let added : c.push.new.self ≡ c.chain.lines ++ line at ∷ [] =
    c.in_ok-push.ensures.ok ∙ ap (λ l. c.chain.lines ++ l ∷ []) (c.in_ok-double.ensures
    ∙ ap (λ (i : Item). Double item.export.name i.path item.path)
    (c.index-items-at.is
    ∙ get_or_default items at c.index-items-at.result item c.chain.invariant.inside)) in
    (chain-end line next c.args.from at (get_or next at 0) js c.args.lines.now c.chain.lines
    c.push.new.self refl c.if-after-at.true added (c.chain.invariant.left js chain)).1

pub chain-preserved : goal.chain-preserved
chain-preserved c =
    let item = c.args.item.now in
    let items = c.args.items.now in
    let next = c.args.next.now in
    let at = c.chain.at in
    let line = λ (j : ℕ). Double item.export.name (get_or items j item).path item.path in
    let added : c.push.new.self ≡ c.chain.lines ++ line at ∷ [] =
    c.in_ok-push.ensures.ok ∙ ap (λ l. c.chain.lines ++ l ∷ []) (c.in_ok-double.ensures
    ∙ ap (λ (i : Item). Double item.export.name i.path item.path)
    (c.index-items-at.is
    ∙ get_or_default items at c.index-items-at.result item c.chain.invariant.inside)) in
    let within : at < length next = omega (arith, c.chain.invariant.inside, c.requires.long) in
    record {
      inside = c.requires.inside at 0 within;
      left = λ js chain.
          chain-step line next c.args.from at (get_or next at 0) js c.args.lines.now c.chain.lines
          c.push.new.self refl c.if-after-at.false added (c.chain.invariant.left js chain);
    }
