-- An index as the commands read it: its file, and the first value of a key. kmod's index format
-- 2.1.
use Rattle.std.specs.Prelude.{ℕ, List, Option, Some, None}
use Rattle.index_format.specs.Node.{root}
use Rattle.index_format.specs.Walk.{at}
use Rattle.index_format.specs.Check.{Fault, BadMagic as NoMagic, BadVersion as NoVersion}
use Rattle.index_format.specs.Check.{BadNode as NodeFault, Revisited as SecondVisit, index_fault}
use Rattle.index_nodes.specs.declared.fault.IndexFault.{IndexFault}
use Rattle.index_nodes.specs.declared.fault.IndexFault.TheVariants.{BadMagic, BadVersion, BadNode}
use Rattle.index_nodes.specs.declared.fault.IndexFault.TheVariants.{Revisited}
use Rattle.index_nodes.specs.Faults.{index_fault_text}
use Rattle.index_read.specs.declared.index.Index.{Index}
use Rattle.index_read.specs.Lookups.{text_of_first}
use Rattle.km_course.specs.Course.{Outcome, Stage, ◌>>=◌, given, reads}
use Rattle.km_course.specs.Course.Outcome.{value, end}
use Rattle.km_course.specs.declared.end.End.TheVariants.{Refused}
use Rattle.km_course.specs.declared.refusal.Refusal.TheVariants.{BadIndex}

-- A fault of the format, as the refusal states it.
abbrev pub told_fault : Fault → IndexFault
told_fault NoMagic = BadMagic
told_fault NoVersion = BadVersion
told_fault (NodeFault offset) = BadNode offset
told_fault (SecondVisit offset) = Revisited offset

-- The index of these bytes.
abbrev pub index_of : List ℕ → Index
index_of bytes = record { nodes = bytes }

-- The outcome of a file with this first fault: its index, or the refusal of the file.
unfoldable pub index_outcome : List ℕ → List ℕ → Option Fault → Outcome Index
index_outcome file bytes None = value (index_of bytes)
index_outcome file bytes (Some fault) =
    end (Refused (BadIndex file (index_fault_text (told_fault fault))))

-- The index in the file at the path, which is needed.
abbrev pub reads_index : List ℕ → Stage Index
reads_index file = do
  bytes ← reads file
  given (index_outcome file bytes (index_fault bytes))

-- The text of the first value that an index has for a key.
unfoldable pub first_text : List ℕ → List ℕ → Option (List ℕ)
first_text bytes key = text_of_first (at bytes (root bytes) key)
