use Rattle.std.proofs.Common.{◌∷◌, [], get_or, arith}
use Rattle.plan_order.proofs.Requests.{group-whole, requested-one}
use Rattle.plan_order.proofs.groups.Groups.add_each.Goals as goal

pub add-requires-clause-all : goal.add-requires-clause-all
add-requires-clause-all c =
    group-whole c.requires.cycle c.loop-module.self.order.items
    (get_or c.args.modules.now c.loop-module.module-index 0 ∷ [])
    (requested-one c.args.modules.now c.loop-module.module-index (omega arith))
