use Rattle.std.proofs.Common.{◌≡◌, ℕ, ◌-◌, length, take, drop, Bool, true, false, cond, List}
use Rattle.std.proofs.Common.{[], ◌∷◌, refl, ap, ◌∙◌, arith}
use Rattle.std.proofs.lemmas.List.{take_all, drop_all}
use Rattle.km_names.specs.Texts.{spaced}
use Rattle.command_modprobe.specs.Resolved.{names_asked}
use Rattle.command_modprobe.proofs.basis.request_of.Goals as goal

-- The words after some names, as a slice has them.
abbrev after : List (List ℕ) → List (List ℕ) → List (List ℕ)
after words names = take (length words - length names) (drop (length names) words)

-- the words after the names that are asked for
rest : (all : Bool) (words : List (List ℕ))
    → spaced (after words (names_asked all words)) ≡ cond all [] (spaced (drop 1 words))
rest true words =
    let none = length words - length words in
    ap (λ l. spaced (take none l)) (drop_all (length words) words (omega arith))
    ∙ ap spaced (take_all none [] (omega arith))
rest false [] = refl
rest false (w ∷ ws) = ap spaced (take_all (length (w ∷ ws) - 1) ws (omega arith))

pub returns : goal.returns
returns c =
    let asked = c.args.asked.now in
    let names = c.names_asked-names.ensures ∙ ap (names_asked asked.all) c.as_slice-words.ensures in
    let options
    = c.in_ok-spaced.ensures ∙ (λ i. spaced (after (c.as_slice-words.ensures i) (names i)))
    ∙ rest asked.all asked.words in
    λ i. record {
      names = (c.in_ok-copied_names.ensures ∙ names) i;
      options = options i;
      use_blacklist = asked.use_blacklist;
      ignore_install = asked.ignore_install;
    }
