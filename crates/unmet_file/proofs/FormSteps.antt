-- What a line states, by its form.
use Rattle.std.proofs.Common.{◌≡◌, ℕ, Bool, true, false, List, Option, Some, None, refl, ap, ◌∙◌}
use Rattle.std.specs.Prelude.{option_map, if◌then◌else◌}
use Rattle.std.specs.Str.{bytes_eq}
use Rattle.symbol_binding.specs.declared.unbound.Unbound.{Unbound}
use Rattle.symbol_binding.specs.declared.unbound.Unbound.TheVariants as unbound
use Rattle.unmet_file.specs.declared.line.Form.{Form}
use Rattle.unmet_file.specs.declared.line.Form.TheVariants.{Missing, Provided, Double}
use Rattle.unmet_file.specs.declared.line.ProvidedKind.TheVariants.{Gpl, Version, Namespace}
use Rattle.unmet_file.specs.declared.kind.LineKind.TheVariants as kinds
use Rattle.km_names.specs.Space.{before_space, past_space}
use Rattle.unmet_file.specs.Line.{first_word, two_words, three_words, unmet_line}
use Rattle.unmet_file.specs.Forms.{form_named, stated}

-- what the words after the first state, by the form if there is one
stated_if : Option Form → List ℕ → Option Unbound
stated_if None words = None
stated_if (Some form) words = stated form words

by_form : (text : List ℕ)
    → stated_if (form_named (before_space text)) (past_space text) ≡ unmet_line text
unfolding form_named unmet_line stated_if
by_form text =
    go (bytes_eq (before_space text) (first_word kinds.Missing))
    (bytes_eq (before_space text) (first_word kinds.Gpl))
    (bytes_eq (before_space text) (first_word kinds.Version))
    (bytes_eq (before_space text) (first_word kinds.Namespace))
    (bytes_eq (before_space text) (first_word kinds.Double))
  where
    go : (a b c d e : Bool)
        → stated_if (if a
        then Some Missing
        else if b
        then Some (Provided Gpl)
        else if c
        then Some (Provided Version)
        else if d
        then Some (Provided Namespace)
        else if e
        then Some Double
        else None) (past_space text)
        ≡ (if a then option_map (λ w. unbound.Missing w.0 w.1) (two_words (past_space text))
        else if b then option_map (λ w. unbound.Gpl w.0 w.1 w.2) (three_words (past_space text))
        else if c then option_map (λ w. unbound.Version w.0 w.1 w.2) (three_words (past_space text))
        else if d
        then option_map (λ w. unbound.Namespace w.0 w.1 w.2) (three_words (past_space text))
        else if e then option_map (λ w. unbound.Double w.0 w.1 w.2) (three_words (past_space text))
        else None)
    go true b c d e = refl
    go false true c d e = refl
    go false false true d e = refl
    go false false false true e = refl
    go false false false false true = refl
    go false false false false false = refl

-- a line of a form
pub form-states : (text word words : List ℕ) (form : Form) → word ≡ before_space text
    → words ≡ past_space text
    → Some form ≡ form_named word → stated form words ≡ unmet_line text
unfolding stated_if
form-states text word words form first others is =
    ap (stated form) others ∙ ap (λ o. stated_if o (past_space text)) (is ∙ ap form_named first)
    ∙ by_form text

-- a line of no form
pub no-form : (text word : List ℕ) → word ≡ before_space text → None ≡ form_named word
    → None ≡ unmet_line text
unfolding stated_if
no-form text word first is =
    ap (λ o. stated_if o (past_space text)) (is ∙ ap form_named first) ∙ by_form text
