-- The names of made modules as words.
use Rattle.std.proofs.Common.{◌≡◌, ℕ, ◌+◌, ◌%◌, ◌/◌, [], ◌∷◌, ◌++◌, map, codes, sym, ap, ◌∙◌, arith}
use Rattle.std.proofs.Common.{append_assoc, append-nil}
use Rattle.std.specs.List.{range_with_len}
use Rattle.std.specs.Fmt.{decimal}
use Rattle.std.proofs.lemmas.Fmt.{decimal_digit}
use Rattle.std.proofs.lemmas.List.FromFn.{map-range_with_len_more}
use Rattle.tree_gen.specs.Trial.{digit, name_of}
use Rattle.command_trial.specs.Words.{modprobe_options, modprobe_words}

-- the words of one module more
pub words-more : (n : ℕ) → modprobe_words (n + 1) ≡ modprobe_words n ++ name_of n ∷ []
unfolding modprobe_words
words-more n =
    ap (λ ns. modprobe_options ++ ns) (map-range_with_len_more name_of 0 n n (omega arith))
    ∙ sym (append_assoc modprobe_options (map name_of (range_with_len 0 n)) (name_of n ∷ []))

-- a digit as `{}` writes it
pub digit-decimal : (n : ℕ) → decimal (n % 10) ≡ digit n ∷ []
digit-decimal n = decimal_digit (n % 10) (omega arith)

-- four digits as `{}` writes them, one after the other
pub digits-decimal : (n : ℕ)
    → codes "m"
    ++ (decimal (n / 1000 % 10)
    ++ (decimal (n / 100 % 10) ++ (decimal (n / 10 % 10) ++ decimal (n % 10))))
    ≡ name_of n
digits-decimal n = simp digit-decimal

-- the words of no module
pub words-none : modprobe_words 0 ≡ modprobe_options
unfolding modprobe_words
words-none = append-nil modprobe_options
