-- Texts that are empty or not, and one word more of a line of soft dependencies.
use Rattle.std.proofs.Common.{◌≡◌, ℕ, Bool, true, false, cond, eqb, List, [], ◌∷◌, ◌++◌, length}
use Rattle.std.proofs.Common.{Option, None, sym, refl, ap, ◌∙◌, arith}
use Rattle.std.specs.Prelude.{not, map}
use Rattle.std.specs.List.{take_while}
use Rattle.std.specs.Str.{bytes_eq}
use Rattle.std.proofs.lemmas.Bool.{true≢false, false_from_ne_true, eqb-true}
use Rattle.std.proofs.lemmas.List.{append_assoc, append-nil}
use Rattle.std.proofs.lemmas.List.Sums.{take_while-cons}
use Rattle.std.proofs.lemmas.Slice.Eq.{bytes_eq-Decides}
use Rattle.km_names.specs.Path.{underscored}
use Rattle.km_names.specs.Space.{nonempty}
use Rattle.modprobe_conf.specs.Rules.{unless_empty, is_marker, words_after}

pub empty-at : {X : Type 0} (text cut : List ℕ) (x : Option X) → cut ≡ text
    → true ≡ eqb (length cut) 0 → None ≡ unless_empty text x
empty-at [] cut x e zero = refl
empty-at (b ∷ bs) cut x e zero =
    absurd (omega (arith, ap length e, eqb-true (length cut) 0 (sym zero)))

pub nonempty-at : {X : Type 0} (text cut : List ℕ) (x y : Option X) → cut ≡ text
    → false ≡ eqb (length cut) 0 → y ≡ x → y ≡ unless_empty text x
nonempty-at [] cut x y e some same = absurd (true≢false (sym (some ∙ ap (λ t. eqb (length t) 0) e)))
nonempty-at (b ∷ bs) cut x y e some same = same

-- the names that a marker before the first word, or the words themselves, give
abbrev pub names_from : List ℕ → Bool → List (List ℕ) → List (List ℕ)
names_from marker belongs words =
    map underscored
    (cond belongs (take_while (λ w. not (is_marker w)) words ++ words_after marker words)
    (words_after marker words))

pub at-marker : (marker word : List ℕ) (words : List (List ℕ)) (belongs : Bool)
    → is_marker word ≡ true
    → names_from marker belongs (word ∷ words) ≡ names_from marker (bytes_eq word marker) words
at-marker marker word words false is = refl
at-marker marker word words true is =
    let later : List (List ℕ) = words_after marker (word ∷ words) in
    let stops : take_while (λ w. not (is_marker w)) (word ∷ words) ≡ []
    = take_while-cons (λ w. not (is_marker w)) word words
    ∙ ap (λ v. cond (not v) (word ∷ take_while (λ w. not (is_marker w)) words) []) is in
    ap (λ front. map underscored (front ++ later)) stops

pub at-word : (marker word : List ℕ) (words : List (List ℕ)) → is_marker marker ≡ true
    → is_marker word ≡ false → (belongs : Bool)
    → names_from marker belongs (word ∷ words)
    ≡ cond belongs (underscored word ∷ names_from marker belongs words)
    (names_from marker belongs words)
at-word marker word words mark off belongs = go belongs
  where
    other : bytes_eq word marker ≡ false
    other
        = false_from_ne_true (bytes_eq word marker)
        (λ same. true≢false
        (sym mark ∙ ap is_marker (sym ((bytes_eq-Decides word marker).0 same)) ∙ off))

    later : words_after marker (word ∷ words) ≡ words_after marker words
    later
        = ap (λ v. cond v (take_while (λ w. not (is_marker w)) words ++ words_after marker words)
        (words_after marker words)) other

    goes : take_while (λ w. not (is_marker w)) (word ∷ words)
        ≡ word ∷ take_while (λ w. not (is_marker w)) words
    goes
        = take_while-cons (λ w. not (is_marker w)) word words
        ∙ ap (λ v. cond (not v) (word ∷ take_while (λ w. not (is_marker w)) words) []) off

    go : (b : Bool)
        → names_from marker b (word ∷ words)
        ≡ cond b (underscored word ∷ names_from marker b words) (names_from marker b words)
    go true
        = ap (λ front. map underscored (front ++ words_after marker (word ∷ words))) goes
        ∙ ap (λ ws. map underscored ((word ∷ take_while (λ w. not (is_marker w)) words) ++ ws))
        later
    go false = ap (map underscored) later

-- one word more, where there is one: it is a marker
pub marker-more : (marker word : List ℕ) (words : List (List ℕ)) (belongs next : Bool)
    → is_marker word ≡ true → next ≡ bytes_eq word marker
    → names_from marker next words ≡ names_from marker belongs (nonempty (word ∷ []) ++ words)
marker-more marker [] words belongs next on is = absurd (true≢false (sym on))
marker-more marker (b ∷ bs) words belongs next on is =
    ap (λ c. names_from marker c words) is ∙ sym (at-marker marker (b ∷ bs) words belongs on)

-- one that belongs
pub name-more : (done : List (List ℕ)) (marker word : List ℕ) (words : List (List ℕ))
    (belongs : Bool)
    → is_marker marker ≡ true → is_marker word ≡ false → belongs ≡ true
    → (done ++ map underscored (nonempty (word ∷ []))) ++ names_from marker belongs words
    ≡ done ++ names_from marker belongs (nonempty (word ∷ []) ++ words)
name-more done marker [] words belongs mark off on =
    ap (λ ns. ns ++ names_from marker belongs words) (append-nil done)
name-more done marker (b ∷ bs) words belongs mark off on =
    append_assoc done (underscored (b ∷ bs) ∷ []) (names_from marker belongs words)
    ∙ ap (λ ns. done ++ ns)
    (sym (at-word marker (b ∷ bs) words mark off belongs
    ∙ ap (λ c. cond c (underscored (b ∷ bs) ∷ names_from marker belongs words)
    (names_from marker belongs words)) on))

-- and one that doesn't
pub other-more : (marker word : List ℕ) (words : List (List ℕ)) (belongs : Bool)
    → is_marker marker ≡ true → is_marker word ≡ false → belongs ≡ false
    → names_from marker belongs words ≡ names_from marker belongs (nonempty (word ∷ []) ++ words)
other-more marker [] words belongs mark off out = refl
other-more marker (b ∷ bs) words belongs mark off out =
    sym (at-word marker (b ∷ bs) words mark off belongs
    ∙ ap (λ c. cond c (underscored (b ∷ bs) ∷ names_from marker belongs words)
    (names_from marker belongs words)) out)

-- a name at the end, where a word isn't empty
pub word-name : (done : List (List ℕ)) (word name : List ℕ) → false ≡ eqb (length word) 0
    → name ≡ underscored word → done ++ name ∷ [] ≡ done ++ map underscored (nonempty (word ∷ []))
word-name done [] name some is = absurd (true≢false (sym some))
word-name done (b ∷ bs) name some is = ap (λ n. done ++ n ∷ []) is

pub no-name : (done : List (List ℕ)) (word : List ℕ) → true ≡ eqb (length word) 0
    → done ≡ done ++ map underscored (nonempty (word ∷ []))
no-name done [] none = sym (append-nil done)
no-name done (b ∷ bs) none = absurd (omega (arith, eqb-true (length (b ∷ bs)) 0 (sym none)))

-- nothing is left where no word is
pub none-left : (marker : List ℕ) (belongs : Bool) → names_from marker belongs [] ≡ []
none-left marker true = refl
none-left marker false = refl
