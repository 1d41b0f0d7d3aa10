-- The greatest file that is read or written, in bytes. The number is this project's own.
use Rattle.std.specs.Prelude.{ℕ}

abbrev pub file_limit : ℕ
file_limit = 67108864
