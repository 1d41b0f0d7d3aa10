-- The parameters that are read from a table, and the names of those that words name.
-- It belongs to the code: no public meaning rests on it.
use Rattle.std.specs.Prelude.{ℕ, ◌<◌, ◌≤◌, Bool, if◌then◌else◌, List, [], length, map, get_or}
use Rattle.std.specs.Prelude.{Option, Some, None, is_some}
use Rattle.std.specs.List.{position}
use Rattle.km_names.specs.Path.{underscored}
use Rattle.name_table.specs.NameTable.{IsTableOf}
use Rattle.param_apply.specs.declared.parameter.Parameters.{Parameters}
use Rattle.param_apply.specs.declared.words.WordNames.{WordNames}
use Rattle.param_apply.specs.Table.{entries}
use Rattle.param_apply.specs.Words.{Parameter, is_same, parameter, word_name}

-- The parameters, by the entries of their table in the image.
abbrev pub parameters_of : Parameters → List Parameter
parameters_of p = map (parameter p.types.texts) (entries p.image.now p.base p.table)

-- The names of these words, and the length of the longest.
pub record AreWordNames (n : WordNames) (words : List (List ℕ)) : Type 0 where
  pub table : IsTableOf n.table (map (λ w. Some (underscored (word_name w))) words)
  pub longest : (i : ℕ) → i < length words → length (word_name (get_or words i [])) ≤ n.longest

-- Whether a name is the one in a word.
abbrev pub is_word_name : List (List ℕ) → List ℕ → Bool
is_word_name words name = is_some (position (λ w. is_same (word_name w) name) words)

-- What a table has of a parameter: its name, if words name it.
abbrev pub kept_name : List (List ℕ) → Parameter → Option (List ℕ)
kept_name words p =
    if is_word_name words p.name then Some (underscored p.name) else None
