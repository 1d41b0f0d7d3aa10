use Rattle.index_read.proofs.plain.values.Given as goal

-- the ledger is the one that begins here
abbrev pub ghosts-values_over : goal.ghosts-values_over
ghosts-values_over a = record { name = a.blank.name; parts = a.blank.parts }
