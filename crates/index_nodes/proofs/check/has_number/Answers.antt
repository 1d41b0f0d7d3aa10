use Rattle.std.proofs.Common.{sym, ◌∙◌, ◌+◌, length}
use Rattle.std.proofs.lemmas.Bool.{lt-leb, ne_eqb}
use Rattle.km_names.specs.Number.{be}
use Rattle.index_nodes.proofs.ArrivalLemmas.{cut_number}
use Rattle.index_nodes.proofs.check.has_number.Goals as goal

pub returns-else-bytes-at : goal.returns-else-bytes-at
returns-else-bytes-at c =
    let b = c.args.bytes.now in
    lt-leb (c.args.at + 4) (length b) c.if-bytes-at.false
    ∙ sym (ne_eqb (be b c.args.at 4) c.args.number
    (cut_number b c.args.at c.args.number c.if-bytes-at.false c.requires.last))
