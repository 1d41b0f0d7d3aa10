use Rattle.index_nodes.proofs.ValueStartLemmas.{starts_first}
use Rattle.index_nodes.proofs.value_starts.ValueStarts.new.Goals as goal

pub returns : goal.returns
returns c =
    starts_first c.args.bytes.now (record { last = c.push.new.self }) c.new-last.result.items
    c.new-last.ensures.items c.in_ok-push.ensures.items
