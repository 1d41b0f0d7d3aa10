-- Acts of courses.
use Rattle.std.specs.Prelude.{ℕ, Bool, true, false, List, [], ◌∷◌}
use Rattle.km_course.specs.Course.{Act}
use Rattle.km_course.specs.Course.Act.{read, list, say, warn, put}

-- The act reads a file or lists a folder: it writes nothing.
abbrev pub is_reading : Act → Bool
is_reading (read path) = true
is_reading (list folder) = true
is_reading (say bytes) = false
is_reading (warn bytes) = false
is_reading (put path bytes) = false

-- Bytes are printed, if there are any.
abbrev pub said : List ℕ → List Act
said [] = []
said (byte ∷ bytes) = say (byte ∷ bytes) ∷ []
