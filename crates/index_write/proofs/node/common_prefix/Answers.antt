use Rattle.std.proofs.Common.{◌∙◌, sym}
use Rattle.index_format.specs.Tree.{common}
use Rattle.index_write.proofs.Ends.{ends_prefix}
use Rattle.index_write.proofs.node.common_prefix.Goals as goal

pub returns-clause-prefix : goal.returns-clause-prefix
returns-clause-prefix c =
    c.common_length-common.ensures.common
    ∙ (λ i. common (c.rest_of-prefix.ensures.rest i) (c.rest_of.ensures.rest i))
    ∙ ends_prefix c.args.depth c.args.entries.now c.in-Some-Some.first.now c.in-Some-Some.last.now
    (sym c.in-Some-Some.ensures.value) (sym c.in-Some-Some.ensures'.value) c.requires
