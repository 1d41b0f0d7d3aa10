-- Text files, as lines. modules.dep(5), depmod(8).
use Rattle.std.specs.Prelude.{ℕ, List, [], ◌∷◌, ◌++◌}
pub use Rattle.km_names.specs.Lines.{lines_text}

-- A line with its line end.
abbrev pub ended : List ℕ → List ℕ
ended line = line ++ 10 ∷ []
