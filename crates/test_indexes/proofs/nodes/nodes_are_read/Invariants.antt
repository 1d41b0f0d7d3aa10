use Rattle.test_indexes.proofs.nodes.nodes_are_read.Given as goal

-- the ledger is the one that begins here
abbrev pub ghosts-read_once : goal.ghosts-read_once
ghosts-read_once g a = record { name = a.blank.name; parts = a.blank.parts }
