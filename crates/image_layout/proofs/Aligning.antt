-- Alignments.
use Rattle.std.proofs.Common.{◌≡◌, ◌≤◌, ◌<◌, ◌+◌, ◌-◌, ◌*◌, ◌/◌, ◌%◌, ℕ, arith, true}
use Rattle.std.proofs.lemmas.Bool.Decides.{nat_tests}
use Rattle.elf_object.specs.Places.{is_alignment}
use Rattle.image_layout.specs.Offsets.{greater, aligned}

pub greater_left : (a b : ℕ) → a ≤ greater a b
greater_left a b = grind (arith, nat_tests)

pub greater_right : (a b : ℕ) → b ≤ greater a b
greater_right a b = grind (arith, nat_tests)

pub greater_bound : (a b c : ℕ) → a ≤ c → b ≤ c → greater a b ≤ c
greater_bound a b c left right = grind (arith, nat_tests)

multiple_above : (place a : ℕ) → 0 < a → place ≤ a * ((place + (a - 1)) / a)
multiple_above place a some = omega arith

multiple_near : (place a : ℕ) → 0 < a → a * ((place + (a - 1)) / a) ≤ place + (a - 1)
multiple_near place a some = omega arith

-- An aligned place isn't below, and less than the alignment above.
pub aligned_above : (place align : ℕ) → place ≤ aligned place align
unfolding aligned
aligned_above place align = multiple_above place (greater 1 align) (greater_left 1 align)

pub aligned_near : (place align bound : ℕ) → align ≤ bound → 1 ≤ bound
    → aligned place align ≤ place + bound
unfolding aligned
aligned_near place align bound small some =
    let step : greater 1 align ≤ bound = greater_bound 1 align bound some small in
    let near = multiple_near place (greater 1 align) (greater_left 1 align) in
    omega arith

-- An alignment is at most a page.
pub alignment_small : (align : ℕ) → is_alignment align ≡ true → align ≤ 4096
unfolding is_alignment
alignment_small align is = grind (arith, nat_tests)

-- A place that is aligned to pages is one.
pub aligned_page : (place align : ℕ) → align ≡ 4096 → aligned place align % 4096 ≡ 0
unfolding aligned
aligned_page place align is = rw is (omega arith)
