-- The state of the writer of an object file while it writes.
-- It belongs to the code: no public meaning rests on it.
use Rattle.std.specs.Prelude.{◌≡◌, ℕ, ◌++◌, length}
use Rattle.elf_write.specs.declared.file.ObjectFile.{ObjectFile}
use Rattle.elf_write.specs.File.{Laid, header}

-- The file holds these sections, with 0 for the place of the section header table. It is for so
-- many sections, and the section of the number `named` has their names.
pub record IsFileOf (f : ObjectFile) (l : Laid) (count named : ℕ) : Type 0 where
  pub bytes : f.bytes.items ≡ header 0 count named ++ l.contents
  pub headers : f.headers.items ≡ l.headers
  pub names : f.names ≡ length l.names
