use Rattle.std.proofs.Common.{◌<◌, ◌++◌, length, map, get_or, ap, ◌∙◌, arith}
use Rattle.std.proofs.lemmas.List.{take_all}
use Rattle.provider_rel.specs.Items.{kernel_item}
use Rattle.provider_rel.proofs.ItemSteps.{front-none, front-more, front-all}
use Rattle.provider_rel.proofs.items.all_items.Goals as goal

pub loop-i-init : goal.loop-i-init
loop-i-init c =
    front-none c.args.tree.now c.args.kernel.now c.push_kernel_items.new.items.items
    (c.in_ok-push_kernel_items.ensures
    ∙ ap (λ l. l ++ map kernel_item c.args.kernel.now.exports) c.new-items.ensures.items)

pub loop-i-preserved : goal.loop-i-preserved
loop-i-preserved c =
    let tree = c.args.tree.now in
    let f = c.index-modules-i.result in
    let i = c.loop-i.i in
    let same = c.as_slice-modules.ensures in
    let within : i < length tree = omega (arith, c.loop-i-test.true, ap length same) in
    front-more tree c.args.kernel.now c.requires i f within
    (c.index-modules-i.is ∙ ap (λ l. get_or l i f) same)
    c.loop-i.items.items c.push_module_items.new.items.items c.loop-i.invariant
    c.in_ok-push_module_items.ensures

pub returns : goal.returns
returns c =
    let tree = c.args.tree.now in
    c.loop-i.invariant
    ∙ front-all tree c.args.kernel.now c.loop-i.i
    (take_all c.loop-i.i tree
    (omega (arith, c.loop-i-test.false, ap length c.as_slice-modules.ensures)))
