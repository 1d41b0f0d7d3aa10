use Rattle.index_read.proofs.plain.has_value.Given as goal

-- the ledger is the one that begins here
abbrev pub ghosts-has_value_over : goal.ghosts-has_value_over
ghosts-has_value_over a = record { name = a.blank.name; parts = a.blank.parts }
