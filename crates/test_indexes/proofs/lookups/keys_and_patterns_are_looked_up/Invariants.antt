use Rattle.test_indexes.proofs.lookups.keys_and_patterns_are_looked_up.Given as goal

-- the ledger is the one that begins here
abbrev pub ghosts-look : goal.ghosts-look
ghosts-look g a = record { name = a.blank.name; parts = a.blank.parts }
