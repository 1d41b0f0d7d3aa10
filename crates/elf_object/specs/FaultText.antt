-- The texts of faults, as they are in a line on standard error. Numbers are decimal.
use Rattle.std.specs.Prelude.{ℕ, List, ◌++◌, codes}
use Rattle.std.specs.Fmt.{decimal}
use Rattle.elf_sections.specs.declared.fault.SectionFault.{SectionFault}
use Rattle.elf_sections.specs.declared.fault.SectionFault.TheVariants.{Memory}
use Rattle.elf_sections.specs.FaultText.{section_fault_text}
use Rattle.elf_object.specs.declared.fault.ObjectFault.{ObjectFault}
use Rattle.elf_object.specs.declared.fault.ObjectFault.TheVariants.{Shape, RelSection, BadTable}
use Rattle.elf_object.specs.declared.fault.ObjectFault.TheVariants.{ExtendedIndex, CommonSymbol}
use Rattle.elf_object.specs.declared.fault.ObjectFault.TheVariants.{BadSymbol, BadAlign, BadRela}
use Rattle.elf_object.specs.declared.fault.ObjectFault.TheVariants.{UnknownType, OverlappingPlaces}
use Rattle.elf_object.specs.declared.fault.ObjectFault.TheVariants.{Memory as OutOfMemory}

-- The text of a fault of an object file.
abbrev pub object_fault_text : ObjectFault → List ℕ
object_fault_text (Shape fault) = section_fault_text fault
object_fault_text (RelSection index) =
    codes "relocations without addends in section " ++ decimal index
object_fault_text (BadTable index) = codes "bad table in section " ++ decimal index
object_fault_text (ExtendedIndex index) = codes "extended index at symbol " ++ decimal index
object_fault_text (CommonSymbol index) = codes "common symbol " ++ decimal index
object_fault_text (BadSymbol index) = codes "bad symbol " ++ decimal index
object_fault_text (BadAlign index) = codes "bad alignment of section " ++ decimal index
object_fault_text (BadRela section entry) =
    codes "bad relocation " ++ (decimal section ++ (codes " " ++ decimal entry))
object_fault_text (UnknownType section entry kind) =
    codes "unknown relocation "
    ++ (decimal section ++ (codes " " ++ (decimal entry ++ (codes " " ++ decimal kind))))
object_fault_text (OverlappingPlaces section offset) =
    codes "overlapping places in section " ++ (decimal section ++ (codes " at " ++ decimal offset))
object_fault_text OutOfMemory = codes "out of memory"

-- A fault of the sections as one of the object.
abbrev pub object_fault_from : SectionFault → ObjectFault
object_fault_from Memory = OutOfMemory
object_fault_from fault = Shape fault
