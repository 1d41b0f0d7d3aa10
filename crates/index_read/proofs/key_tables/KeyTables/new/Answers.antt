use Rattle.index_read.proofs.key_tables.KeyTables.new.Goals as goal

pub returns : goal.returns
returns c bytes text = record { runs = c.new.ensures bytes; ends = c.new-2.ensures bytes text }
