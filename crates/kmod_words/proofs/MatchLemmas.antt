-- What `clap` answers, by the rows of its matches.
use Rattle.std.proofs.Common.{◌≡◌, List, [], ◌∷◌, Option, Some, None, option_map, map, Bor, refl}
use Rattle.std.proofs.Common.{sym, ap, ◌∙◌}
use Rattle.std.specs.Prelude.{find, option_and_then, unwrap_or}
use Rattle.std.specs.Str.{bytes_eq}
use Rattle.clap.specs.Words.{App, Kinds, IsAmong, Row, Text, fault_of, first_value, matched_of}
use Rattle.clap.specs.Words.{matches_of, raw_values, rows_of}
use Rattle.clap.specs.Facts.{Entry}
use Rattle.clap.specs.Walk.{row_of}
use Rattle.clap.specs.declared.error.kind.ErrorKind.{ErrorKind}
use Rattle.clap.specs.declared.parser.matches.Found.{Found}
use Rattle.clap.specs.declared.parser.matches.MatchedArg.{MatchedArg}
use Rattle.clap.proofs.WalkLemmas.{find_row, first_value-rows, raw_values-rows}
use Rattle.kmod_words.specs.Understood.{unless_fault, understood, value_of, words_of}

-- where the value of a name comes from
pub source-rows : (f : Found) (name : Text)
    → option_and_then (λ (a : MatchedArg). a.source) (matched_of f name)
    ≡ option_and_then (λ (r : Row). r.source)
    (find (λ (r : Row). bytes_eq r.id name) (rows_of f))
source-rows f name =
    go (find (λ (e : Entry). bytes_eq e.0.now name) f.entries.items)
    ∙ ap (option_and_then (λ (r : Row). r.source)) (sym (find_row f.entries.items name))
  where
    go : (o : Option Entry)
        → option_and_then (λ (a : MatchedArg). a.source) (option_map (λ (e : Entry). e.1) o)
        ≡ option_and_then (λ (r : Row). r.source) (option_map row_of o)
    go None = refl
    go (Some e) = refl

-- the value of a name
pub value-rows : (f : Found) (name : Text) → first_value f name ≡ value_of name (rows_of f)
unfolding value_of
value-rows f name = first_value-rows f name

-- words with no fault have their matches
pub without_fault : (app : App) (words : List Text) (rows : List Row) → fault_of app words ≡ []
    → rows ≡ matches_of app words → Some rows ≡ understood app words
unfolding understood
without_fault app words rows none is =
    ap Some is ∙ sym (ap (λ kinds. unless_fault kinds (matches_of app words)) none)

-- words with a fault have none
pub with_fault : (app : App) (words : List Text) (kind : ErrorKind)
    → IsAmong kind (fault_of app words) → None ≡ understood app words
unfolding understood
with_fault app words kind among = go (fault_of app words) among
  where
    go : (kinds : Kinds) → IsAmong kind kinds → None ≡ unless_fault kinds (matches_of app words)
    go [] none = absurd none
    go (k ∷ ks) some = refl

-- the words of a name
pub words-rows : (f : Found) (name : Text) (found : Option (Bor (List (Bor Text))))
    → option_map (λ (s : Bor (List (Bor Text))). map (λ (v : Bor Text). v.now) s.now) found
    ≡ option_map raw_values (matched_of f name)
    → unwrap_or
    (option_map (λ (s : Bor (List (Bor Text))). map (λ (v : Bor Text). v.now) s.now) found)
    []
    ≡ words_of name (rows_of f)
unfolding words_of
words-rows f name found is = ap (λ o. unwrap_or o []) (is ∙ raw_values-rows f name)
