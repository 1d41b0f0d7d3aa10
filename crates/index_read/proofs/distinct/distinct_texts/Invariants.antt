use Rattle.index_read.proofs.distinct.distinct_texts.Given as goal

-- the ledger is the one that begins here
abbrev pub ghosts-met_matching : goal.ghosts-met_matching
ghosts-met_matching a = record { name = a.blank.name; parts = a.blank.parts }
