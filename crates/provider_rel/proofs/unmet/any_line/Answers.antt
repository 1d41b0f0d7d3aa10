use Rattle.std.proofs.Common.{ℕ, Option, ◌<◌, length, get_or, ap, ◌∙◌, arith}
use Rattle.std.specs.Global.{Vec}
use Rattle.module_facts.specs.declared.facts.Facts.{Facts}
use Rattle.provider_rel.specs.Items.{bound_of}
use Rattle.provider_rel.proofs.BindingSteps.{same-at, same-length}
use Rattle.provider_rel.proofs.unmet.any_line.Goals as goal

pub any_line_of-requires : goal.any_line_of-requires
any_line_of-requires c =
    let items = λ (b : Vec (Option ℕ)). b.items in
    let bound = λ (f : Facts). bound_of c.args.bindings.now.names f.needs in
    let tree = c.args.tree.now in
    let rows = c.args.bindings.now.bound.items in
    let i = c.loop-i.i in
    let within : i < length tree
    = omega (arith, c.loop-i-test.true, ap length c.as_slice-modules.ensures) in
    let inside : i < length rows = omega (arith, same-length items bound rows tree c.requires) in
    c.deref.ensures.value
    ∙ same-at items bound rows tree i c.index.result.now c.index-modules-i.result c.requires inside
    within c.index.ensures
    (c.index-modules-i.is
    ∙ ap (λ l. get_or l i c.index-modules-i.result) c.as_slice-modules.ensures)
