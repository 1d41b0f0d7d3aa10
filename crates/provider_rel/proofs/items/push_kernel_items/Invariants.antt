use Rattle.std.proofs.Common.{◌≡◌, ◌++◌, map, take}
use Rattle.provider_rel.specs.Items.{kernel_item}
use Rattle.provider_rel.proofs.items.push_kernel_items.Given as goal

abbrev pub invariant-loop-export : goal.invariant-loop-export
invariant-loop-export l =
    l.items.items ≡ l.initial.items.items ++ map kernel_item (take l.export-index l.kernel.exports)
