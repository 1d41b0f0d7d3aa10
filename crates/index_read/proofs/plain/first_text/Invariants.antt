use Rattle.index_read.proofs.plain.first_text.Given as goal

-- the ledger is the one that begins here
abbrev pub ghosts-first_text_over : goal.ghosts-first_text_over
ghosts-first_text_over a = record { name = a.blank.name; parts = a.blank.parts }
