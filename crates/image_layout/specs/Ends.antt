-- The places that the search for offsets keeps, one for each class.
-- It belongs to the code: no public meaning rests on it.
use Rattle.std.specs.Prelude.{◌≡◌, ℕ, ◌<◌, ◌^◌, List}
use Rattle.elf_sections.specs.declared.section.Section.{Section}
use Rattle.image_layout.specs.declared.class.Class.{Class}
use Rattle.image_layout.specs.declared.class.Class.TheVariants.{Code, Fixed, Variable}
use Rattle.image_layout.specs.declared.layout.Ends.{Ends}
use Rattle.image_layout.specs.Offsets.{class_start, end_of, of_class}

-- The place of a class.
abbrev pub end_in : Ends → Class → ℕ
end_in ends Code = ends.code
end_in ends Fixed = ends.fixed
end_in ends Variable = ends.variable

-- The places are the ends of the classes with these sections, which are the first of all.
pub record AreEnds (sections before : List Section) (ends : Ends) : Type 0 where
  pub code : ends.code ≡ end_of (class_start sections Code) (of_class Code before)
  pub fixed : ends.fixed ≡ end_of (class_start sections Fixed) (of_class Fixed before)
  pub variable : ends.variable ≡ end_of (class_start sections Variable) (of_class Variable before)

-- Sums of the places fit in 128 bits.
pub record AreNear (ends : Ends) : Type 0 where
  pub code : ends.code < 2 ^ 95
  pub fixed : ends.fixed < 2 ^ 95
  pub variable : ends.variable < 2 ^ 95
