-- Where sections lie: within the image, and apart.
use Rattle.std.proofs.Common.{◌≡◌, ◌≤◌, ◌<◌, ◌+◌, ◌∙◌, ◌⊎◌, inl, inr, ℕ, true, false, List, Some}
use Rattle.std.proofs.Common.{refl, sym, ap, arith, take, subst}
use Rattle.std.specs.List.{slice_get}
use Rattle.std.proofs.lemmas.List.{take-take}
use Rattle.elf_sections.specs.declared.section.Section.{Section}
use Rattle.image_layout.specs.declared.class.Class.{Class}
use Rattle.image_layout.specs.declared.class.Class.TheVariants.{Code, Fixed, Variable}
use Rattle.image_layout.specs.Offsets.{aligned, class_of, class_start, class_end, end_of}
use Rattle.image_layout.specs.Offsets.{fixed_start, variable_start, image_size, is_class, is_in}
use Rattle.image_layout.specs.Offsets.{of_class, offset, offset_after}
use Rattle.image_layout.proofs.Aligning.{aligned_above, greater_right}
use Rattle.image_layout.proofs.EndLemmas.{end-with, end-part, end_of-above}

-- The classes are in order in the image.
pub record InOrder (xs : List Section) : Type 0 where
  pub fixed : class_end xs Code ≤ class_start xs Fixed
  pub within_fixed : class_start xs Fixed ≤ class_end xs Fixed
  pub variable : class_end xs Fixed ≤ class_start xs Variable
  pub within_variable : class_start xs Variable ≤ class_end xs Variable
  pub image : class_end xs Variable ≤ image_size xs

pub in_order : (xs : List Section) → InOrder xs
unfolding fixed_start variable_start image_size
in_order xs = record {
  fixed = aligned_above _ _;
  within_fixed = end_of-above _ _;
  variable = aligned_above _ _;
  within_variable = end_of-above _ _;
  image =
      let up = aligned_above (class_end xs Variable) 4096 in
      let last = greater_right 4096 (aligned (class_end xs Variable) 4096) in
      omega arith;
}

pub class_end_within : (xs : List Section) (class : Class) → class_end xs class ≤ image_size xs
class_end_within xs Code =
    let o
    = in_order xs in omega
    (arith, o.fixed, o.within_fixed, o.variable, o.within_variable, o.image)
class_end_within xs Fixed =
    let o = in_order xs in omega (arith, o.variable, o.within_variable, o.image)
class_end_within xs Variable = (in_order xs).image

is_class-same : (class : Class) → is_class class class ≡ true
is_class-same Code = refl
is_class-same Fixed = refl
is_class-same Variable = refl

is_class-one : (a b : Class) → is_class a b ≡ true → a ≡ b
is_class-one Code Code is = refl
is_class-one Fixed Fixed is = refl
is_class-one Variable Variable is = refl
is_class-one Code Fixed is = cc
is_class-one Code Variable is = cc
is_class-one Fixed Code is = cc
is_class-one Fixed Variable is = cc
is_class-one Variable Code is = cc
is_class-one Variable Fixed is = cc

pub in_own_class : (s : Section) → s.kept ≡ true → is_in (class_of s) s ≡ true
in_own_class s kept = rw (kept, is_class-same) refl

-- Where a section in memory lies, and where it ends.
pub offset_kept : (xs : List Section) (i : ℕ) (s : Section) → slice_get xs i ≡ Some s
    → s.kept ≡ true
    → offset xs i
    ≡ aligned (end_of (class_start xs (class_of s)) (of_class (class_of s) (take i xs))) s.align
unfolding offset offset_after
offset_kept xs i s is kept = rw (is, kept) refl

pub offset_unkept : (xs : List Section) (i : ℕ) (s : Section) → slice_get xs i ≡ Some s
    → s.kept ≡ false → offset xs i ≡ 0
unfolding offset
offset_unkept xs i s is kept = rw (is, kept) refl

finish : (xs : List Section) (i : ℕ) (s : Section) → slice_get xs i ≡ Some s → s.kept ≡ true
    → offset xs i + s.size
    ≡ end_of (class_start xs (class_of s)) (of_class (class_of s) (take (i + 1) xs))
finish xs i s is kept =
    ap (λ a. a + s.size) (offset_kept xs i s is kept)
    ∙ sym (end-with (class_start xs (class_of s)) (class_of s) xs i s is
    ∙ rw (in_own_class s kept) refl)

-- A section in memory lies in its class.
pub record LiesIn (xs : List Section) (i : ℕ) (s : Section) : Type 0 where
  pub low : class_start xs (class_of s) ≤ offset xs i
  pub after : end_of (class_start xs (class_of s)) (of_class (class_of s) (take i xs)) ≤ offset xs i
  pub high : offset xs i + s.size ≤ class_end xs (class_of s)
  pub last : offset xs i + s.size
      ≡ end_of (class_start xs (class_of s)) (of_class (class_of s) (take (i + 1) xs))
  pub image : offset xs i + s.size ≤ image_size xs

pub lies_in : (xs : List Section) (i : ℕ) (s : Section) → slice_get xs i ≡ Some s → s.kept ≡ true
    → LiesIn xs i s
lies_in xs i s is kept =
    let class = class_of s in
    let start = class_start xs class in
    let at = offset_kept xs i s is kept in
    let above = aligned_above (end_of start (of_class class (take i xs))) s.align in
    let first = end_of-above start (of_class class (take i xs)) in
    let end = finish xs i s is kept in
    let part = end-part start class xs (i + 1) in
    let whole = class_end_within xs class in
    record {
      low = omega (arith, at, above, first);
      after = omega (arith, at, above);
      high = omega (arith, end, part);
      last = end;
      image = omega (arith, end, part, whole);
    }

-- One of two ranges ends before the other begins.
abbrev pub Apart : ℕ → ℕ → ℕ → ℕ → Type 0
Apart a b c d = (b ≤ c) ⊎ (d ≤ a)

by_class : (xs : List Section) (one other : Class) (a b c d : ℕ) → class_start xs one ≤ a
    → b ≤ class_end xs one → class_start xs other ≤ c → d ≤ class_end xs other
    → (one ≡ other → b ≤ c) → Apart a b c d
by_class xs Code Code a b c d la lb lc ld same = inl (same refl)
by_class xs Fixed Fixed a b c d la lb lc ld same = inl (same refl)
by_class xs Variable Variable a b c d la lb lc ld same = inl (same refl)
by_class xs Code Fixed a b c d la lb lc ld same =
    let o = in_order xs in inl (omega (arith, la, lb, lc, ld, o.fixed))
by_class xs Code Variable a b c d la lb lc ld same =
    let o = in_order xs in inl (omega (arith, la, lb, lc, ld, o.fixed, o.within_fixed, o.variable))
by_class xs Fixed Variable a b c d la lb lc ld same =
    let o = in_order xs in inl (omega (arith, la, lb, lc, ld, o.variable))
by_class xs Fixed Code a b c d la lb lc ld same =
    let o = in_order xs in inr (omega (arith, la, lb, lc, ld, o.fixed))
by_class xs Variable Code a b c d la lb lc ld same =
    let o = in_order xs in inr (omega (arith, la, lb, lc, ld, o.fixed, o.within_fixed, o.variable))
by_class xs Variable Fixed a b c d la lb lc ld same =
    let o = in_order xs in inr (omega (arith, la, lb, lc, ld, o.variable))

-- Of two sections in memory one ends before the other begins.
pub apart : (xs : List Section) (i j : ℕ) (s t : Section) → slice_get xs i ≡ Some s
    → slice_get xs j ≡ Some t → s.kept ≡ true → t.kept ≡ true → i < j
    → Apart (offset xs i) (offset xs i + s.size) (offset xs j) (offset xs j + t.size)
apart xs i j s t at_i at_j kept_s kept_t less =
    let one = lies_in xs i s at_i kept_s in
    let other = lies_in xs j t at_j kept_t in
    by_class xs (class_of s) (class_of t) _ _ _ _ one.low one.high other.low other.high
    (λ same.
    let class = class_of t in
    let start = class_start xs class in
    let early : offset xs i + s.size ≡ end_of start (of_class class (take (i + 1) xs)) =
    subst (λ k. offset xs i + s.size ≡ end_of (class_start xs k) (of_class k (take (i + 1) xs)))
    same one.last in
    let part : end_of start (of_class class (take (i + 1) (take j xs)))
    ≤ end_of start (of_class class (take j xs))
    =
    end-part start class (take j xs) (i + 1) in
    let shorter : take (i + 1) (take j xs) ≡ take (i + 1) xs
    = take-take (i + 1) j xs (omega arith) in
    let moved : end_of start (of_class class (take (i + 1) (take j xs)))
    ≡ end_of start (of_class class (take (i + 1) xs))
    = ap (λ ys. end_of start (of_class class ys)) shorter in
    omega (arith, early, part, moved, other.after))
