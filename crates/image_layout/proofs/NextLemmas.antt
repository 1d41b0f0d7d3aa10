-- One section more is placed.
use Rattle.std.proofs.Common.{◌≡◌, ◌<◌, ◌+◌, ◌^◌, ◌∙◌, inl, inr, ℕ, true, false, List, Some, sym}
use Rattle.std.proofs.Common.{ap, arith, take, cond}
use Rattle.std.specs.Prelude.{◌&&◌}
use Rattle.std.specs.List.{slice_get}
use Rattle.std.proofs.lemmas.Bool.{cases_Bool}
use Rattle.elf_sections.specs.declared.section.Section.{Section}
use Rattle.image_layout.specs.declared.class.Class.{Class}
use Rattle.image_layout.specs.declared.class.Class.TheVariants.{Code, Fixed, Variable}
use Rattle.image_layout.specs.declared.layout.Ends.{Ends}
use Rattle.image_layout.specs.Offsets.{aligned, class_of, class_start, end_of, image_size, is_class}
use Rattle.image_layout.specs.Offsets.{is_in, of_class, offset}
use Rattle.image_layout.specs.Ends.{AreEnds, AreNear, end_in}
use Rattle.image_layout.proofs.EndLemmas.{end-with, end-part}
use Rattle.image_layout.proofs.OffsetLemmas.{class_end_within, offset_kept, offset_unkept, lies_in}

end_is : (xs before : List Section) (ends : Ends) → AreEnds xs before ends → (class : Class)
    → end_in ends class ≡ end_of (class_start xs class) (of_class class before)
end_is xs before ends are Code = are.code
end_is xs before ends are Fixed = are.fixed
end_is xs before ends are Variable = are.variable

-- What the place of a class becomes with a section.
abbrev pub moved : Ends → Section → Class → ℕ
moved ends s class =
    cond (is_in class s) (aligned (end_in ends class) s.align + s.size) (end_in ends class)

ends-next : (xs : List Section) (i : ℕ) (s : Section) (old new : Ends) → slice_get xs i ≡ Some s
    → AreEnds xs (take i xs) old → ((class : Class) → end_in new class ≡ moved old s class)
    → AreEnds xs (take (i + 1) xs) new
ends-next xs i s old new is are step =
    let each : (class : Class)
    → end_in new class ≡ end_of (class_start xs class) (of_class class (take (i + 1) xs))
    =
    λ class. step class
    ∙ ap (λ e. cond (is_in class s) (aligned e s.align + s.size) e)
    (end_is xs (take i xs) old are class)
    ∙ sym (end-with (class_start xs class) class xs i s is) in
    record { code = each Code; fixed = each Fixed; variable = each Variable }

pub next-kept : (xs : List Section) (i : ℕ) (s : Section) (old new : Ends) (at : ℕ)
    → slice_get xs i ≡ Some s → s.kept ≡ true → AreEnds xs (take i xs) old
    → at ≡ aligned (end_in old (class_of s)) s.align
    → ((class : Class)
    → end_in new class
    ≡ cond (is_class class (class_of s)) (aligned (end_in old class) s.align + s.size)
    (end_in old class))
    → (at ≡ offset xs i) × AreEnds xs (take (i + 1) xs) new
next-kept xs i s old new at is kept are here step = (
  here ∙ ap (λ e. aligned e s.align) (end_is xs (take i xs) old are (class_of s))
      ∙ sym (offset_kept xs i s is kept),
  ends-next xs i s old new is are
      (λ class. step class
      ∙ ap (λ k. cond (k && is_class class (class_of s))
      (aligned (end_in old class) s.align + s.size) (end_in old class))
      (sym kept)),
)

pub next-unkept : (xs : List Section) (i : ℕ) (s : Section) (ends : Ends) → slice_get xs i ≡ Some s
    → s.kept ≡ false → AreEnds xs (take i xs) ends
    → (0 ≡ offset xs i) × AreEnds xs (take (i + 1) xs) ends
next-unkept xs i s ends is unkept are = (
  sym (offset_unkept xs i s is unkept),
  ends-next xs i s ends ends is are
      (λ class. ap (λ k. cond (k && is_class class (class_of s))
      (aligned (end_in ends class) s.align + s.size) (end_in ends class))
      (sym unkept)),
)

-- Places within an image that fits in memory are near.
pub ends-near : (xs : List Section) (i : ℕ) (ends : Ends) → AreEnds xs (take i xs) ends
    → image_size xs < 2 ^ 63 → AreNear ends
ends-near xs i ends are small =
    let near : (class : Class) → end_in ends class < 2 ^ 95 =
    λ class. omega (
      arith,
      end_is xs (take i xs) ends are class,
      end-part (class_start xs class) class xs i,
      class_end_within xs class,
    ) in
    record { code = near Code; fixed = near Fixed; variable = near Variable }

-- The place of a section in an image that fits in memory is a number of 64 bits.
pub offset-near : (xs : List Section) (i : ℕ) (s : Section) → slice_get xs i ≡ Some s
    → image_size xs < 2 ^ 63 → offset xs i < 2 ^ 63
offset-near xs i s is small =
    elim (cases_Bool s.kept) [
      | inl kept ↦ omega (arith, (lies_in xs i s is kept).image)
      | inr unkept ↦ omega (arith, offset_unkept xs i s is unkept)
    ]
