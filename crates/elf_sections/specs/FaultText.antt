-- The texts of faults of sections, as they are in a line on standard error. Numbers are decimal.
use Rattle.std.specs.Prelude.{ℕ, List, ◌++◌, codes}
use Rattle.std.specs.Fmt.{decimal}
use Rattle.elf_sections.specs.declared.fault.SectionFault.{SectionFault}
use Rattle.elf_sections.specs.declared.fault.SectionFault.TheVariants.{NotElf, Truncated}
use Rattle.elf_sections.specs.declared.fault.SectionFault.TheVariants.{WrongClass, WrongMachine}
use Rattle.elf_sections.specs.declared.fault.SectionFault.TheVariants.{NotRelocatable, BadSection}
use Rattle.elf_sections.specs.declared.fault.SectionFault.TheVariants.{BadString, Memory}

-- The text of a fault of the sections of a file.
abbrev pub section_fault_text : SectionFault → List ℕ
section_fault_text NotElf = codes "not an ELF file"
section_fault_text (Truncated offset need) =
    codes "truncated at " ++ (decimal offset ++ (codes " need " ++ decimal need))
section_fault_text WrongClass = codes "wrong class"
section_fault_text WrongMachine = codes "wrong machine"
section_fault_text NotRelocatable = codes "not relocatable"
section_fault_text (BadSection index) = codes "bad section " ++ decimal index
section_fault_text (BadString offset) = codes "bad string at " ++ decimal offset
section_fault_text Memory = codes "out of memory"
