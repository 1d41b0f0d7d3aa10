use Rattle.index_read.proofs.first.FirstWalk.next.Given as goal

-- the ledger is the one that begins here
abbrev pub ghosts-next_over : goal.ghosts-next_over
ghosts-next_over a = record { name = a.blank.name; parts = a.blank.parts }
