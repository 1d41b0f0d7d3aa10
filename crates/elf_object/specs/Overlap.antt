-- Bytes that two places change, as the search for them sees them. It belongs to the code: no public
-- meaning rests on it.
use Rattle.std.specs.Prelude.{◌≡◌, ℕ, ◌+◌, ◌*◌, ◌^◌, ◌<◌, ◌≤◌, ◌&&◌, nat_lt, nat_le, Bool, true}
use Rattle.std.specs.Prelude.{List, length, get_or, if◌then◌else◌}
use Rattle.std.specs.List.{count_by}
use Rattle.elf_object.specs.declared.place.RelaPlace.{RelaPlace}
use Rattle.elf_object.specs.declared.overlap.Order.{Order}
use Rattle.elf_object.specs.declared.changed.ChangedBytes.{ChangedBytes}
use Rattle.elf_object.specs.Places.{covers, place_width}

-- Whether a number lies from low on and below high.
abbrev pub is_between : ℕ → ℕ → ℕ → Bool
is_between low high a = nat_le low a && nat_lt a high

-- ---- Places in order. The bytes of all sections are in one line, 2^32 for each section, so that
-- each byte has a number.

-- How many items have the number a between their first number and their end.
abbrev pub count_at : {X : Type 0} → (X → ℕ) → (X → ℕ) → ℕ → List X → ℕ
count_at start finish a xs = count_by (λ x. is_between (start x) (finish x) a) xs

-- The number of a place's first byte.
abbrev pub place_start : RelaPlace → ℕ
place_start p = p.target * 2 ^ 32 + p.offset

-- The number after its last byte's.
abbrev pub place_end : RelaPlace → ℕ
place_end p = place_start p + place_width p

-- A place that changes bytes lies in the 2^32 bytes of its section, whose number has 16 bits.
abbrev pub IsNear : RelaPlace → Type 0
IsNear p = 0 < place_width p → (p.target < 2 ^ 16) × (p.offset + place_width p ≤ 2 ^ 32)

-- No number is counted twice, and none from `end` on is counted.
pub record IsApart {X : Type 0} (start finish : X → ℕ) (xs : List X) (end : ℕ) : Type 0 where
  pub once : (a : ℕ) → count_at start finish a xs ≤ 1
  pub past : (a : ℕ) → end ≤ a → count_at start finish a xs ≡ 0

-- If the order holds, the places are apart and before its end.
abbrev pub IsOrderOf : Order → List RelaPlace → Type 0
IsOrderOf order places = order.holds ≡ true → IsApart place_start place_end places order.end

-- ---- Places in no order. The bytes of one section after the other are marked.

-- How many of the places change the byte at x of the section `target`.
abbrev pub changes_at : ℕ → List RelaPlace → ℕ → ℕ
changes_at target places x = count_by (covers target x) places

-- 1 for a number from low on and below high, and 0 for the others.
abbrev pub count_between : ℕ → ℕ → ℕ → ℕ
count_between low high x = if is_between low high x then 1 else 0

-- No mark is greater than that of the section.
abbrev pub HasMarks : ChangedBytes → Type 0
HasMarks c = (x : ℕ) → get_or c.marks.items x 0 ≤ c.mark

-- The section's bytes have its mark if they are changed, by so many places each, and `shared` is
-- the least that two change.
pub record HasChanged (c : ChangedBytes) (count : ℕ → ℕ) : Type 0 where
  pub marked : (x : ℕ) → x < length c.marks.items → get_or c.marks.items x 0 ≡ c.mark → 0 < count x
  pub other : (x : ℕ) → x < length c.marks.items → (get_or c.marks.items x 0 ≡ c.mark → ⊥)
      → count x ≡ 0
  pub past : (x : ℕ) → length c.marks.items ≤ x → count x ≡ 0
  pub bounded : HasMarks c
  pub once : (x : ℕ) → x < c.shared → count x ≤ 1
  pub twice : c.shared < length c.marks.items → 1 < count c.shared
  pub within : c.shared ≤ length c.marks.items
