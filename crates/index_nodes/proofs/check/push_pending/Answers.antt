use Rattle.std.proofs.Common.{sym, ap, ◌∙◌, ◌++◌}
use Rattle.index_nodes.specs.Pending.{arrivals_left}
use Rattle.index_nodes.proofs.ArrivalLemmas.{arrivals_left-push, none_left}
use Rattle.index_nodes.proofs.check.push_pending.Goals as goal

pub returns-in_ok-push-clause-left : goal.returns-in_ok-push-clause-left
returns-in_ok-push-clause-left c =
    λ b. ap (arrivals_left b) c.in_ok-push.ensures.items
    ∙ arrivals_left-push b c.args.stack.now.items c.args.pending

pub returns-else-pending-gt0-clause-left : goal.returns-else-pending-gt0-clause-left
returns-else-pending-gt0-clause-left c =
    λ b. ap (λ rs. rs ++ arrivals_left b c.args.stack.now.items)
    (sym (none_left b c.args.pending c.if-pending-gt0.false))
