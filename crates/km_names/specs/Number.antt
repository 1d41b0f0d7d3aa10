-- Numbers as files have them: bytes at a place, the lowest or the highest first.
use Rattle.std.specs.Prelude.{ℕ, zero, suc, ◌+◌, ◌*◌, ◌^◌, List, slice_index, nat_lt, ℤ, pos, ◌-ℤ◌}
use Rattle.std.specs.Prelude.{if◌then◌else◌}

-- The number in the n bytes from place o of b, the lowest first. It is the sum of b[o + i] * 256^i
-- over i below n. gABI 4, "Data Encoding", ELFDATA2LSB.
unfoldable pub le : List ℕ → ℕ → ℕ → ℕ
le b o zero = 0
le b o (suc n) = le b o n + slice_index b (o + n) * 256 ^ n

-- The number in the n bytes from place o of b, the highest first: the sum of
-- `b[o + i] * 256^(n - 1 - i)` over i below n. The numbers of kmod's index format 2.1 have this
-- form.
unfoldable pub be : List ℕ → ℕ → ℕ → ℕ
be b o zero = 0
be b o (suc n) = slice_index b o * 256 ^ n + be b (o + 1) n

-- A number of 64 bits read as two's complement. gABI 4, "Data Representation", Elf64_Sxword.
unfoldable pub signed : ℕ → ℤ
signed v = if nat_lt v (2 ^ 63) then pos v else pos v -ℤ pos (2 ^ 64)
