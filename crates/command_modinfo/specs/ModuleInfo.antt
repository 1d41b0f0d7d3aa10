-- What a module says of itself, by its sections. gABI 4, "Sections"; modinfo(8).
use Rattle.std.specs.Prelude.{ℕ, List, [], codes}
use Rattle.std.specs.List.{find}
use Rattle.std.specs.Str.{bytes_eq}
use Rattle.std.specs.Option.{option_map_or}
use Rattle.elf_sections.specs.Sections.{FileSections, bytes_of}
use Rattle.modinfo_fields.specs.declared.piece.Field.{Field}
use Rattle.modinfo_fields.specs.Fields.{fields_of}

-- The bytes of the first section of this name, or none if there is no such section. gABI 4,
-- "Sections".
unfoldable pub bytes_named : List ℕ → FileSections → List ℕ
bytes_named name sections =
    option_map_or (bytes_of sections.file) (find (λ s. bytes_eq s.name name) sections.list) []

-- What the module says of itself: the fields of its first `.modinfo` section.
abbrev pub module_fields : FileSections → List Field
module_fields sections = fields_of (bytes_named (codes ".modinfo") sections)
