use Rattle.std.proofs.Common.{sym, ap, ◌∙◌}
use Rattle.index_read.specs.FirstSteps.{first_items}
use Rattle.index_read.proofs.ContentsLemmas.{all_firsts}
use Rattle.index_read.proofs.first.start_over.Goals as goal

pub returns : goal.returns
returns g c =
    let b = c.args.nodes.now in
    ap (first_items b) (sym c.in_ok-walk.ensures.still) ∙ all_firsts b
