use Rattle.std.proofs.Common.{ap, ◌∙◌, ◌+◌, length, arith, rules}
use Rattle.std.proofs.lemmas.List.{take_rest}
use Rattle.index_format.specs.Node.{text}
use Rattle.index_nodes.proofs.ReadLemmas.{place_parts}
use Rattle.index_nodes.proofs.read.text_at.Goals as goal

pub overflow_add-at : goal.overflow_add-at
overflow_add-at c =
    let four = (place_parts c.args.bytes.now c.args.at.now c.requires).four in search rules

pub slice_bounds-split_at_byte-count : goal.slice_bounds-split_at_byte-count
slice_bounds-split_at_byte-count c = (place_parts c.args.bytes.now c.args.at.now c.requires).four

pub slice_bounds-split_at_byte-start : goal.slice_bounds-split_at_byte-start
slice_bounds-split_at_byte-start c = (place_parts c.args.bytes.now c.args.at.now c.requires).four

pub returns-clause-within : goal.returns-clause-within
returns-clause-within c =
    let b = c.args.bytes.now in
    let p = place_parts b c.args.at.now c.requires in
    let size
    = ap length
    (c.split_at_byte.ensures.before ∙ ap text (take_rest b (c.args.at.now.start + 4))) in
    omega (arith, p.text_in, size)
