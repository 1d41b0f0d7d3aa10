-- The bytes of an object's sections. gABI 4, "Sections".
use Rattle.std.specs.Prelude.{ℕ, ◌==◌, List, [], slice_get, Option, Some, None, option_and_then}
use Rattle.std.specs.Prelude.{unwrap_or, codes, if◌then◌else◌}
use Rattle.std.specs.List.{position}
use Rattle.std.specs.Option.{option_map_or}
use Rattle.std.specs.Str.{bytes_eq}
use Rattle.elf_format.specs.declared.section.TheConstants.{SHT_NOBITS}
use Rattle.elf_sections.specs.declared.section.Section.{Section}
use Rattle.elf_object.specs.Object.{FileObject}
use Rattle.elf_sections.specs.Sections.{bytes_of}

-- The bytes of the section i, and none if there is no such section.
unfoldable pub section_contents : FileObject → ℕ → List ℕ
section_contents o i = option_map_or (bytes_of o.file) (slice_get o.sections i) []

-- The first section of this name.
unfoldable pub named_section : FileObject → List ℕ → Option Section
named_section o name =
    option_and_then (slice_get o.sections) (position (λ s. bytes_eq s.name name) o.sections)

-- The file's bytes of a section, maybe an empty list. It is None if the section is of type NOBITS.
abbrev pub bytes_in : List ℕ → Section → Option (List ℕ)
bytes_in file s = if s.kind == SHT_NOBITS then None else Some (bytes_of file s)

-- The file's bytes of the first section of this name. It is None also if no section has the name.
unfoldable pub named_bytes : FileObject → List ℕ → Option (List ℕ)
named_bytes o name = option_and_then (bytes_in o.file) (named_section o name)

-- The bytes of the section `.modinfo`.
unfoldable pub modinfo_bytes : FileObject → List ℕ
modinfo_bytes o = unwrap_or (named_bytes o (codes ".modinfo")) []
