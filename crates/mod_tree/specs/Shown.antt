-- What references point to.
-- It belongs to the code: no public meaning rests on it.
use Rattle.std.specs.Prelude.{List, ℕ, map}
use Rattle.std.specs.Borrow.{Bor}

-- The values that the references of a list point to.
abbrev pub referents : List (Bor (List ℕ)) → List (List ℕ)
referents references = map (λ (r : Bor (List ℕ)). r.now) references
