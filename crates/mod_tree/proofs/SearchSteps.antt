-- What the parts of a search line and of a search list give.
use Rattle.std.proofs.Common.{◌≡◌, ℕ, Bool, true, false, eqb, List, [], ◌∷◌, length, Some, None}
use Rattle.std.proofs.Common.{option_map, Result, Ok, Err, sym, refl, ap, ◌∙◌, ◌⊎◌, inl, inr, arith}
use Rattle.std.specs.Prelude.{not}
use Rattle.std.specs.Result.{result_err}
use Rattle.std.specs.Str.{bytes_eq}
use Rattle.std.proofs.lemmas.Bool.{true≢false, eqb-true}
use Rattle.km_names.specs.Statements.{LinePlace, line_fault, parsed}
use Rattle.km_names.specs.declared.conf.ConfFile.{ConfFile}
use Rattle.km_names.specs.declared.conf.ConfFault.{ConfFault}
use Rattle.km_names.specs.declared.conf.ConfFault.TheVariants.{Memory}
use Rattle.mod_tree.specs.Search.{some_words, search_line, search_of_lines, search_of}

pub no_words : (words list : List (List ℕ)) → list ≡ words → true ≡ eqb (length list) 0
    → None ≡ some_words words
no_words [] list e zero = refl
no_words (w ∷ ws) list e zero =
    absurd (omega (arith, ap length e, eqb-true (length list) 0 (sym zero)))

pub words-there : (words list : List (List ℕ)) → list ≡ words → false ≡ eqb (length list) 0
    → Some list ≡ some_words words
words-there [] list e some = absurd (true≢false (sym (some ∙ ap (λ ws. eqb (length ws) 0) e)))
words-there (w ∷ ws) list e some = ap Some e

not_cancels : (a b : Bool) → not a ≡ not b → a ≡ b
not_cancels true true e = refl
not_cancels true false e = absurd (true≢false (sym e))
not_cancels false true e = absurd (true≢false e)
not_cancels false false e = refl

-- what the test of a command says of the line's first word
pub command-is : {cut word slice command : List ℕ} {r : Bool} (v : Bool) → cut ≡ word
    → slice ≡ command → r ≡ not (bytes_eq cut slice) → r ≡ not v → bytes_eq word command ≡ v
command-is {cut = cut} {command = command} v first same test is =
    ap (λ w. bytes_eq w command) (sym first) ∙ ap (bytes_eq cut) (sym same)
    ∙ not_cancels _ v (sym test ∙ is)

pub search-ok : (files : List ConfFile) (lines : List (List (List ℕ)))
    → parsed search_line files ≡ Ok lines → search_of files ≡ search_of_lines (Ok lines)
unfolding search_of
search-ok files lines e = ap search_of_lines e

same-refusal : (r : Result (List (List (List ℕ))) LinePlace)
    → result_err (search_of_lines r) ≡ result_err r
same-refusal (Ok lines) = refl
same-refusal (Err place) = refl

pub search-err : (files : List ConfFile) (fault : ConfFault)
    → ((fault ≡ Memory)
    ⊎ (option_map line_fault (result_err (parsed search_line files)) ≡ Some fault))
    → ((fault ≡ Memory) ⊎ (option_map line_fault (result_err (search_of files)) ≡ Some fault))
unfolding search_of
search-err files fault (inl memory) = inl memory
search-err files fault (inr found) =
    inr (ap (option_map line_fault) (same-refusal (parsed search_line files)) ∙ found)
