use Rattle.test_surface_readers.proofs.indexes.indexes_are_read.Given as goal

-- the ledger is the one that begins here
abbrev pub ghosts-count_steps : goal.ghosts-count_steps
ghosts-count_steps g a = record { name = a.blank.name; parts = a.blank.parts }
