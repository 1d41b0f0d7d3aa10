use Rattle.std.proofs.Common.{◌∙◌, sym, ◌∷◌, drop, get_or}
use Rattle.index_format.specs.Tree.{groups}
use Rattle.index_write.specs.Groups.{at_depth}
use Rattle.index_write.proofs.NodeLemmas.{first_groups, group-shown, byte-rest}
use Rattle.index_write.proofs.node.first_group.Goals as goal

pub returns-clause-some : goal.returns-clause-some
returns-clause-some c =
    let d = c.args.depth in
    let es = c.args.entries.now in
    let byte = get_or c.rest_of.result.now 0 0 in
    first_groups d es c.in_ok-first.first.now byte (sym c.in_ok-first.ensures.value) c.requires
    (byte-rest d c.in_ok-first.first.now.key.now c.rest_of.result.now c.rest_of.ensures.rest)
    ∙ (λ i. (byte, group-shown d (sym c.run_length-count.ensures.count i) es i)
    ∷ groups (drop (sym c.run_length-count.ensures.count i) (at_depth d es)))
