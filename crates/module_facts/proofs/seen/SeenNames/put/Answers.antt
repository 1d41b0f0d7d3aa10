use Rattle.std.proofs.Common.{ℕ, List}
use Rattle.name_table.specs.declared.key.NameKey.{NameKey}
use Rattle.module_facts.proofs.seen.SeenNames.put.Goals as goal

-- a list of bytes as a key
abbrev key_of : List ℕ → NameKey
key_of bytes = record { bytes = record { ref_ptr = (0, 0); now = bytes } }

pub returns : goal.returns
returns c = λ other. rw (← c.new.ensures) (c.in_ok-insert.ensures.updates.0 (key_of other))
