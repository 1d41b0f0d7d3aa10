use Rattle.std.proofs.Common.{sym, subst}
use Rattle.index_format.specs.Holds.{Holds}
use Rattle.index_read.specs.Contents.{contents}
use Rattle.index_read.proofs.ContentsLemmas.{held}
use Rattle.index_read.proofs.index.Index.adopt.Goals as goal

pub returns-clause-held : goal.returns-clause-held
returns-clause-held c =
    subst (λ b. Holds b (contents b)) (sym c.in_ok-nodes.ensures.bytes)
    (held c.args.bytes c.in_ok-nodes.ensures.accepted)
