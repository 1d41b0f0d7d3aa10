use Rattle.std.proofs.Common.{length, arith}
use Rattle.index_nodes.proofs.TextEndLemmas.{end_found, end_of_file}
use Rattle.index_nodes.proofs.text_ends.TextEnds.end.Goals as goal

pub returns-in-Some : goal.returns-in-Some
returns-in-Some c =
    let b = c.args.bytes.now in
    end_found b c.args.start (length b) (length b) c.requires.within (omega arith) (end_of_file b)
    c.in-Some.place c.in-Some.ensures.first
