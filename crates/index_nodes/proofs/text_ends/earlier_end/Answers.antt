use Rattle.index_nodes.proofs.TextEndLemmas.{end_found, end_later}
use Rattle.index_nodes.proofs.text_ends.earlier_end.Goals as goal

pub returns-in-Some : goal.returns-in-Some
returns-in-Some c =
    end_found c.args.bytes.now c.args.start c.args.later c.args.later_end c.requires.order
    c.requires.within c.requires.end c.in-Some.place c.in-Some.ensures

pub returns-in-None : goal.returns-in-None
returns-in-None c =
    end_later c.args.bytes.now c.args.start c.args.later c.args.later_end c.requires.order
    c.requires.within c.requires.end c.in-None.ensures
