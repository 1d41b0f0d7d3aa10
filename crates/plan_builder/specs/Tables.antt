-- Texts as the code keeps them.
-- It belongs to the code: no public meaning rests on it.
use Rattle.std.specs.Prelude.{ℕ, List, map}
use Rattle.std.specs.Borrow.{Bor}

-- References to texts, as the texts.
abbrev pub byte_texts : List (Bor (List ℕ)) → List (List ℕ)
byte_texts texts = map (λ t. t.now) texts
