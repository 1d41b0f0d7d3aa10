-- The state of the writer while it writes.
-- It belongs to the code: no public meaning rests on it.
use Rattle.std.specs.Prelude.{ℕ, Bool, true, false, List, map}
use Rattle.index_format.specs.File.{Links, Written}
use Rattle.index_write.specs.declared.bytes.ChildLink.{ChildLink}

abbrev pub links_of : List ChildLink → Links
links_of ls = map (λ l. (l.byte, l.offset)) ls

abbrev pub state : List ℕ → List ChildLink → Written
state bytes links = record { bytes = bytes; links = links_of links }

abbrev pub bit : Bool → ℕ
bit true = 1
bit false = 0
