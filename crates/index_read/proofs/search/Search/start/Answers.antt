use Rattle.std.proofs.Common.{◌∙◌, []}
use Rattle.index_nodes.specs.Fields.{link_of}
use Rattle.index_read.specs.declared.search.Search.{Search}
use Rattle.index_read.proofs.ReadLemmas.{known_over}
use Rattle.index_read.proofs.SearchLemmas.{root_comes, root_lost}
use Rattle.index_read.proofs.search.Search.start.Goals as goal

pub read_prefix-requires-clause-ready : goal.read_prefix-requires-clause-ready
read_prefix-requires-clause-ready g c =
    let text = c.args.text.now in
    record {
      text = text;
      over = c.in_ok-progress.ensures.over;
      known = c.new-known.ensures c.args.nodes.now text;
    }

pub returns-in_default-clause-finds : goal.returns-in_default-clause-finds
returns-in_default-clause-finds g c =
    let b = c.args.nodes.now in
    let text = c.args.text.now in
    let lost
    = rw (c.in_default.is) at
    (c.in_ok-reached.ensures.enters text [] c.in_ok-progress.ensures.over
    c.in_ok-progress.ensures.read) in
    root_lost b c.root.ensures.accepted text (link_of c.node-node.result)
    (c.node-node.ensures.name ∙ c.root.ensures.root) lost

pub returns-clause-finds : goal.returns-clause-finds
returns-clause-finds g c =
    let b = c.args.nodes.now in
    let text = c.args.text.now in
    let f = c.in-Some.root in
    let e = c.in_ok-reached.ensures in
    let over = e.over text c.in_ok-progress.ensures.over in
    let a
    = rw (c.in-Some.is) at
    (e.enters text [] c.in_ok-progress.ensures.over c.in_ok-progress.ensures.read) in
    let old : Search
    = record {
      progress = c.read_prefix.new.progress;
      known = c.read_prefix.new.known;
      levels = c.new-2.result;
      saved = c.new-3.result;
    } in
    root_comes b text (link_of c.node-node.result) old c.descend.new.self f f.is_leaf
    c.root.ensures.accepted (c.node-node.ensures.name ∙ c.root.ensures.root) a.name e.whole over
    (known_over b text old.progress old.known e.ready over) c.new-2.ensures.items
    c.new-3.ensures.items a.node a.decides a.under c.in_ok-descend.ensures
