-- The faults of an index, and their texts in a line on standard error.
use Rattle.std.specs.Prelude.{◌≡◌, ℕ, List, ◌++◌, codes, Option, Some}
use Rattle.std.specs.Fmt.{decimal}
use Rattle.index_format.specs.Check.{Fault, BadMagic as NoMagic, BadVersion as NoVersion}
use Rattle.index_format.specs.Check.{BadNode as NodeFault, Revisited as SecondVisit}
use Rattle.index_nodes.specs.declared.fault.IndexFault.{IndexFault}
use Rattle.index_nodes.specs.declared.fault.IndexFault.TheVariants.{BadMagic, BadVersion, BadNode}
use Rattle.index_nodes.specs.declared.fault.IndexFault.TheVariants.{Revisited, Memory}

-- The fault is the first one of the file; memory may run out at any file.
abbrev pub IsFirstFault : Option Fault → IndexFault → Type 0
IsFirstFault first BadMagic = first ≡ Some NoMagic
IsFirstFault first BadVersion = first ≡ Some NoVersion
IsFirstFault first (BadNode offset) = first ≡ Some (NodeFault offset)
IsFirstFault first (Revisited offset) = first ≡ Some (SecondVisit offset)
IsFirstFault first Memory = Unit {0}

-- The text of a fault. Numbers are decimal.
abbrev pub index_fault_text : IndexFault → List ℕ
index_fault_text BadMagic = codes "bad index magic"
index_fault_text BadVersion = codes "bad index version"
index_fault_text (BadNode offset) = codes "bad index node at " ++ decimal offset
index_fault_text (Revisited offset) = codes "index node twice at " ++ decimal offset
index_fault_text Memory = codes "out of memory"
