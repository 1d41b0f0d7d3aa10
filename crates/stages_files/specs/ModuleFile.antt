-- The file of a module, as the commands read it: its sections. gABI 4, "Sections".
use Rattle.std.specs.Prelude.{ℕ, List, Option, Some, None}
use Rattle.km_names.specs.Path.{is_compressed}
use Rattle.elf_sections.specs.declared.fault.SectionFault.{SectionFault}
use Rattle.elf_sections.specs.FaultText.{section_fault_text}
use Rattle.elf_sections.specs.Shape.{shape_fault}
use Rattle.elf_sections.specs.Sections.{FileSections, file_sections}
use Rattle.km_course.specs.Course.{Outcome, Stage, ◌>>=◌, given, ends, when◌then◌else◌, reads}
use Rattle.km_course.specs.Course.Outcome.{value, end}
use Rattle.km_course.specs.declared.end.End.TheVariants.{Refused}
use Rattle.km_course.specs.declared.refusal.Refusal.TheVariants.{BadModule, Compressed}

-- The outcome of a file with this first failing test: its sections, or the refusal of the module.
unfoldable pub sections_outcome : List ℕ → List ℕ → Option SectionFault → Outcome FileSections
sections_outcome path bytes None = value (file_sections bytes)
sections_outcome path bytes (Some fault) = end (Refused (BadModule path (section_fault_text fault)))

-- The sections of the module at the path. A compressed module is refused unread.
abbrev pub reads_sections : List ℕ → Stage FileSections
reads_sections path =
    when is_compressed path then ends (Refused (Compressed path)) else (do
      bytes ← reads path
      given (sections_outcome path bytes (shape_fault bytes)))
