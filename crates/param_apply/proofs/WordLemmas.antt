-- The words of a text of options, from its first piece on.
use Rattle.std.proofs.Common.{◌≡◌, ℕ, ◌<◌, Bool, true, false, List, [], ◌∷◌, ◌++◌, Option, Some}
use Rattle.std.proofs.Common.{None, length, cond, eqb, refl, sym, ap, ◌∙◌, arith, append-nil}
use Rattle.std.proofs.Common.{append_assoc, inl, inr, ◌+◌, get_or, take}
use Rattle.std.specs.Prelude.{All, filter, take_while, codes, option_map, not}
use Rattle.std.specs.List.{slice_split, before_first, after_first, position_or_len, filter_map}
use Rattle.std.specs.List.{cons_option}
use Rattle.std.specs.Option.{option_to_list}
use Rattle.std.specs.Str.{bytes_eq}
use Rattle.std.proofs.lemmas.List.{take_all, take_more, drop_all}
use Rattle.std.proofs.lemmas.List.Splits.{slice_split_first, slice_split_none}
use Rattle.std.proofs.lemmas.List.Sums.{fails_before_first, take_while-cons}
use Rattle.std.proofs.lemmas.List.Elements.{All-from_get_or, All-cons, All-nil, filter_map-append}
use Rattle.std.proofs.lemmas.List.Quantifiers.{position-Some}
use Rattle.std.proofs.lemmas.Bool.{cases_lt}
use Rattle.modinfo_fields.specs.Fields.{is_text}
use Rattle.param_apply.specs.Words.{Parameter, Setting, is_same, number_named, setting, settings}
use Rattle.param_apply.specs.Words.{stating, words, word_name, word_text}

abbrev is_space : ℕ → Bool
is_space b = eqb b 32

piece_first : (piece : List ℕ) (pieces : List (List ℕ))
    → filter is_text (piece ∷ pieces) ≡ filter is_text (piece ∷ []) ++ filter is_text pieces
piece_first [] pieces = refl
piece_first (b ∷ bs) pieces = refl

-- The words of a text: its first piece, if it has a byte, and the words after it.
words-first : (text : List ℕ)
    → words text
    ≡ filter is_text (before_first is_space text ∷ []) ++ words (after_first is_space text)
words-first text = elim (cases_lt (position_or_len is_space text) (length text)) [
  | inl found ↦ ap (filter is_text) (slice_split_first is_space text 0 found)
      ∙ piece_first (before_first is_space text) (slice_split is_space (after_first is_space text))
  | inr past ↦
      let none : All (λ b. is_space b ≡ false) text
      = All-from_get_or (λ b. is_space b ≡ false) text 0
      (λ j l. fails_before_first is_space text j 0 (omega arith)) in
      let whole : before_first is_space text ≡ text = take_all _ text past in
      let nothing : after_first is_space text ≡ [] = drop_all _ text (omega arith) in
      ap (filter is_text) (slice_split_none is_space text none)
      ∙ sym (append-nil (filter is_text (text ∷ [])))
      ∙ ap (λ b. filter is_text (b ∷ []) ++ []) (sym whole)
      ∙ ap (λ rest. filter is_text (before_first is_space text ∷ [])
      ++ filter is_text (slice_split is_space rest)) (sym nothing)
]

-- A word that isn't `--`.
abbrev goes_on : List ℕ → Bool
goes_on word = not (bytes_eq word (codes "--"))

ended : (piece : List ℕ) (ws : List (List ℕ)) → bytes_eq piece (codes "--") ≡ true
    → take_while goes_on (filter is_text (piece ∷ []) ++ ws) ≡ []
ended [] ws is = cc
ended (b ∷ bs) ws is =
    take_while-cons goes_on (b ∷ bs) ws
    ∙ ap (λ (t : Bool). cond (not t) ((b ∷ bs) ∷ take_while goes_on ws) []) is

going : (piece : List ℕ) (ws : List (List ℕ)) → bytes_eq piece (codes "--") ≡ false
    → take_while goes_on (filter is_text (piece ∷ []) ++ ws)
    ≡ filter is_text (piece ∷ []) ++ take_while goes_on ws
going [] ws is = refl
going (b ∷ bs) ws is =
    take_while-cons goes_on (b ∷ bs) ws
    ∙ ap (λ (t : Bool). cond (not t) ((b ∷ bs) ∷ take_while goes_on ws) []) is

-- A text that begins with the word `--` states nothing.
pub stating-ended : (text piece : List ℕ) → piece ≡ before_first is_space text
    → bytes_eq piece (codes "--") ≡ true → stating text ≡ []
stating-ended text piece is end =
    ap (take_while goes_on)
    (words-first text
    ∙ ap (λ b. filter is_text (b ∷ []) ++ words (after_first is_space text)) (sym is))
    ∙ ended piece (words (after_first is_space text)) end

-- The words that were read and those of the rest, a piece later.
pub stating-taken : (options rest piece after : List ℕ) (list more : List (List ℕ))
    → list ++ stating rest ≡ stating options → piece ≡ before_first is_space rest
    → after ≡ after_first is_space rest → bytes_eq piece (codes "--") ≡ false
    → more ≡ filter is_text (piece ∷ []) → (list ++ more) ++ stating after ≡ stating options
stating-taken options rest piece after list more inv before then on is =
    let here : stating rest ≡ filter is_text (piece ∷ []) ++ stating after
    =
    ap (take_while goes_on)
    (words-first rest
    ∙ ap (λ b. filter is_text (b ∷ []) ++ words (after_first is_space rest)) (sym before)
    ∙ ap (λ a. filter is_text (piece ∷ []) ++ words a) (sym then))
    ∙ going piece (words after) on in
    append_assoc list more (stating after)
    ∙ ap (λ m. list ++ (m ++ stating after)) is ∙ ap (λ l. list ++ l) (sym here) ∙ inv

pub stating-nil : stating [] ≡ []
stating-nil = refl

-- A piece between spaces is a word if it has a byte.
pub piece-empty : (piece : List ℕ) → length piece ≡ 0 → [] ≡ filter is_text (piece ∷ [])
piece-empty [] empty = refl
piece-empty (b ∷ bs) empty = absurd (omega (arith, empty))

pub piece-word : (piece : List ℕ) → (length piece ≡ 0 → ⊥)
    → piece ∷ [] ≡ filter is_text (piece ∷ [])
piece-word [] some = absurd (some refl)
piece-word (b ∷ bs) some = refl

-- What is made of the first words, a word later.
pub taken-none : {X Y : Type 0} (h : X → Option Y) (xs : List X) (i : ℕ) (d : X) → i < length xs
    → h (get_or xs i d) ≡ None → filter_map h (take i xs) ≡ filter_map h (take (i + 1) xs)
taken-none h xs i d within is =
    sym (ap (filter_map h) (take_more xs i d within)
    ∙ filter_map-append h (take i xs) (get_or xs i d ∷ []) ∙ rw is (append-nil _))

pub taken-some : {X Y : Type 0} (h : X → Option Y) (xs : List X) (i : ℕ) (d : X) (y : Y)
    → i < length xs → h (get_or xs i d) ≡ Some y
    → filter_map h (take i xs) ++ y ∷ [] ≡ filter_map h (take (i + 1) xs)
taken-some h xs i d y within is =
    sym (ap (filter_map h) (take_more xs i d within)
    ∙ filter_map-append h (take i xs) (get_or xs i d ∷ []) ∙ rw is refl)

-- Words name parameters that there are.
within-named : (params : List Parameter) (word : List ℕ) (s : Setting) (o : Option ℕ)
    → number_named params (word_name word) ≡ o
    → option_map (λ k. record { number = k; text = word_text word }) o ≡ Some s
    → s.number < length params
within-named params word s None named is = cc
within-named params word s (Some k) named is =
    let inside
    = (position-Some (λ (p : Parameter). is_same p.name (word_name word)) params k
    (record { name = []; at = 0; kind = None }) named).0 in
    let e : k ≡ s.number = cc in
    omega arith

within-cons : (params : List Parameter) (o : Option Setting) (ss : List Setting)
    → ((s : Setting) → o ≡ Some s → s.number < length params)
    → All (λ s. s.number < length params) ss
    → All (λ s. s.number < length params) (option_to_list o ++ ss)
within-cons params None ss here later = later
within-cons params (Some s) ss here later =
    All-cons (λ (x : Setting). x.number < length params) s ss (here s refl) later

cons-is : {X : Type 0} (o : Option X) (xs : List X) → cons_option o xs ≡ option_to_list o ++ xs
cons-is None xs = refl
cons-is (Some x) xs = refl

within-words : (params : List Parameter) (ws : List (List ℕ))
    → All (λ s. s.number < length params) (filter_map (setting params) ws)
within-words params [] = All-nil (λ (s : Setting). s.number < length params)
within-words params (w ∷ ws) =
    rw (cons-is (setting params w) (filter_map (setting params) ws))
    (within-cons params (setting params w) (filter_map (setting params) ws)
    (λ s is. within-named params w s (number_named params (word_name w)) refl is)
    (within-words params ws))

pub settings-within : (params : List Parameter) (options : List ℕ)
    → All (λ (s : Setting). s.number < length params) (settings params options)
unfolding settings
settings-within params options = within-words params (stating options)
