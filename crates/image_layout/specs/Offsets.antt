-- The places of a module's sections in its image. gABI 4, "Sections", sh_addralign and sh_flags.
-- The three classes are the ones of the kernel's layout_sections, kernel/module/main.c. That each
-- begins at a page is this project's choice.
use Rattle.std.specs.Prelude.{ℕ, ◌+◌, ◌-◌, ◌*◌, ◌/◌, ◌==◌, ◌&&◌, nat_lt, not, Bool, true, false}
use Rattle.std.specs.Prelude.{if◌then◌else◌, List, [], ◌∷◌, map, length, filter, take, bit_and}
use Rattle.std.specs.Prelude.{slice_get}
use Rattle.std.specs.List.{range_with_len}
use Rattle.std.specs.Option.{option_map_or}
use Rattle.elf_format.specs.declared.section.TheConstants.{SHF_WRITE, SHF_EXECINSTR, PAGE}
use Rattle.elf_sections.specs.declared.section.Section.{Section}
use Rattle.image_layout.specs.declared.class.Class.{Class}
use Rattle.image_layout.specs.declared.class.Class.TheVariants.{Code, Fixed, Variable}

-- The greater of two numbers.
abbrev pub greater : ℕ → ℕ → ℕ
greater a b = if nat_lt a b then b else a

-- The least multiple of an alignment that isn't below a place. An alignment of 0 counts as 1.
unfoldable pub aligned : ℕ → ℕ → ℕ
aligned place align = let a = greater 1 align in a * ((place + (a - 1)) / a)

-- The class of a section: with code, else only read, else the rest.
unfoldable pub class_of : Section → Class
class_of s =
    if not (bit_and s.flags SHF_EXECINSTR == 0) then Code
    else if bit_and s.flags SHF_WRITE == 0 then Fixed
    else Variable

-- Whether the two classes are the same.
abbrev pub is_class : Class → Class → Bool
is_class Code Code = true
is_class Fixed Fixed = true
is_class Variable Variable = true
is_class one other = false

-- Whether the section is in memory, in this class.
abbrev pub is_in : Class → Section → Bool
is_in class s = s.kept && is_class class (class_of s)

-- The end of sections that are placed from a place on in order, each at the next multiple of its
-- alignment.
unfoldable pub end_of : ℕ → List Section → ℕ
end_of place [] = place
end_of place (s ∷ later) = end_of (aligned place s.align + s.size) later

-- The sections of a class, in the order of the table.
abbrev pub of_class : Class → List Section → List Section
of_class class sections = filter (is_in class) sections

-- The beginning of each class, and its end. The first class begins at 0, and each later one at the
-- next page.
unfoldable pub fixed_start : List Section → ℕ
fixed_start sections = aligned (end_of 0 (of_class Code sections)) PAGE

unfoldable pub variable_start : List Section → ℕ
variable_start sections = aligned (end_of (fixed_start sections) (of_class Fixed sections)) PAGE

abbrev pub class_start : List Section → Class → ℕ
class_start sections Code = 0
class_start sections Fixed = fixed_start sections
class_start sections Variable = variable_start sections

abbrev pub class_end : List Section → Class → ℕ
class_end sections class = end_of (class_start sections class) (of_class class sections)

-- The place of a section after these sections, which are the first of all: it is after the ones of
-- its class.
unfoldable pub offset_after : List Section → List Section → Section → ℕ
offset_after sections before s =
    aligned (end_of (class_start sections (class_of s)) (of_class (class_of s) before)) s.align

-- The place of the section i in the image. A section that isn't in memory has 0.
unfoldable pub offset : List Section → ℕ → ℕ
offset sections i =
    option_map_or (λ s. if s.kept then offset_after sections (take i sections) s else 0)
    (slice_get sections i) 0

-- The places of all sections.
unfoldable pub offsets : List Section → List ℕ
offsets sections = map (offset sections) (range_with_len 0 (length sections))

-- The size of the image in bytes: the end of the last section, up to the next page, and at least a
-- page.
unfoldable pub image_size : List Section → ℕ
image_size sections = greater PAGE (aligned (class_end sections Variable) PAGE)
