use Rattle.index_read.proofs.ReadLemmas.{known_over}
use Rattle.index_read.proofs.key_tables.KeyTables.find.Goals as goal

pub find-requires-then-is_leaf-clause-ends : goal.find-requires-then-is_leaf-clause-ends
find-requires-then-is_leaf-clause-ends c text over =
    (known_over c.args.file.now text c.args.progress.now c.args.self.now c.requires.ready over).ends

pub returns-in_ok-find-2 : goal.returns-in_ok-find-2
returns-in_ok-find-2 c =
    let ready = c.requires.ready in
    record {
      text = ready.text;
      over = ready.over;
      known
          = record
          { runs = c.in_ok-find.ensures; ends = c.in_ok-find-2.ensures ready.text ready.over };
    }

pub returns-else-is_leaf : goal.returns-else-is_leaf
returns-else-is_leaf c =
    let ready = c.requires.ready in
    record {
      text = ready.text;
      over = ready.over;
      known = record { runs = c.in_ok-find.ensures; ends = ready.known.ends };
    }
