-- The list of search words: depmod.d(5), "search".
use Rattle.std.specs.Prelude.{ℕ, List, [], ◌∷◌, if◌then◌else◌, codes, Option, Some, None, Result}
use Rattle.std.specs.Prelude.{Ok, Err}
use Rattle.std.specs.List.{flat_map}
use Rattle.std.specs.Str.{bytes_eq}
use Rattle.km_names.specs.Space.{first_word, rest_after_word, words}
use Rattle.km_names.specs.Statements.{LinePlace, parsed}
use Rattle.km_names.specs.declared.conf.ConfFile.{ConfFile}

-- The words of a line, if there is one.
abbrev pub some_words : List (List ℕ) → Option (List (List ℕ))
some_words [] = None
some_words (word ∷ words) = Some (word ∷ words)

-- The words that a line of depmod.d states, if it is understood: one or more after `search`.
unfoldable pub search_line : List ℕ → Option (List (List ℕ))
search_line text =
    if bytes_eq (first_word text) (codes "search")
    then some_words (words (rest_after_word text))
    else None

-- The words of all lines, in order, or `updates built-in` if there is no line.
abbrev pub words_of_lines : List (List (List ℕ)) → List (List ℕ)
words_of_lines [] = codes "updates" ∷ codes "built-in" ∷ []
words_of_lines (line ∷ lines) = flat_map (λ words. words) (line ∷ lines)

-- The search list of the lines, unless one isn't understood.
abbrev pub search_of_lines : Result (List (List (List ℕ))) LinePlace
    → Result (List (List ℕ)) LinePlace
search_of_lines (Ok lines) = Ok (words_of_lines lines)
search_of_lines (Err place) = Err place

-- The search list of the files, or the place of the first line that isn't understood.
unfoldable pub search_of : List ConfFile → Result (List (List ℕ)) LinePlace
search_of files = search_of_lines (parsed search_line files)
