use Rattle.std.proofs.Common.{◌/◌, arith}
use Rattle.std.proofs.lemmas.List.{get_or_read}
use Rattle.index_nodes.proofs.PlaceLemmas.{has_bit-with}
use Rattle.index_nodes.proofs.place_set.PlaceSet.add.Goals as goal

pub returns-clause-added : goal.returns-clause-added
returns-clause-added c =
    let words = c.args.self.now.words.items in
    λ other. has_bit-with words c.args.place other c.index_mut.result.now (omega arith)
    (get_or_read words (c.args.place / 64) c.index_mut.result.now (omega arith)
    c.index_mut.ensures.value 0)
