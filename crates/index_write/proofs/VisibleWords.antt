-- Words of visible characters: as keys and texts of an index, and their normal forms.
use Rattle.std.proofs.Common.{◌≡◌, refl, sym, ap, ◌∙◌, ℕ, zero, suc, ◌<◌, ◌≤◌, Bool, true, false}
use Rattle.std.proofs.Common.{not, ◌&&◌, cond, List, [], ◌∷◌, length, map, take, drop, leb, eqb}
use Rattle.std.proofs.Common.{All, Some, None, arith}
use Rattle.std.specs.List.{list_all, slice_split, onto_first, position_or_len, join_with_byte}
use Rattle.std.specs.Char.{is_ascii_graphic}
use Rattle.std.proofs.lemmas.Bool.{leb-true}
use Rattle.std.proofs.lemmas.List.Elements.{All-weaker}
use Rattle.std.proofs.lemmas.List.Folds.{list_all-append}
use Rattle.std.proofs.lemmas.List.Sums.{AllPass-from_list_all}
use Rattle.km_names.specs.Ascii.{is_graphic}
use Rattle.km_names.specs.Path.{underscored}
use Rattle.km_names.specs.AliasForm.{normal_alias, brackets_pair, underscored_outside}
use Rattle.index_format.specs.Map.{IsKey, IsText}

-- both tests hold
pub both : (a b : Bool) → (a && b) ≡ true → (a ≡ true) × (b ≡ true)
both true b is = (refl, is)
both false b is = cc

-- the bytes of visible characters
pub graphic-byte : (b : ℕ) → is_ascii_graphic b ≡ true → (33 ≤ b) × (b ≤ 126)
graphic-byte b is =
    let tests = both (leb 33 b) (leb b 126) is in
    (leb-true 33 b tests.0, leb-true b 126 tests.1)

pub bytes-of : (text : List ℕ) → list_all is_ascii_graphic text ≡ true
    → All (λ b. (33 ≤ b) × (b ≤ 126)) text
bytes-of text is =
    All-weaker (λ b. is_ascii_graphic b ≡ true) (λ b. (33 ≤ b) × (b ≤ 126)) graphic-byte text
    (AllPass-from_list_all is_ascii_graphic text is)

pub characters : (text : List ℕ) → is_graphic text ≡ true → list_all is_ascii_graphic text ≡ true
unfolding is_graphic
characters text is = (both (not (eqb (length text) 0)) (list_all is_ascii_graphic text) is).1

-- visible characters make a key, and a text
pub key-of : (text : List ℕ) → list_all is_ascii_graphic text ≡ true → IsKey text
key-of text is =
    All-weaker (λ b. (33 ≤ b) × (b ≤ 126)) (λ b. (0 < b) × (b < 128))
    (λ b h. (omega arith, omega arith)) text (bytes-of text is)

pub text-of : (text : List ℕ) → list_all is_ascii_graphic text ≡ true → IsText text
text-of text is =
    All-weaker (λ b. (33 ≤ b) × (b ≤ 126)) (λ b. 0 < b) (λ b h. omega arith) text (bytes-of text is)

pub graphic-key : (text : List ℕ) → is_graphic text ≡ true → IsKey text
graphic-key text is = key-of text (characters text is)

pub graphic-text : (text : List ℕ) → is_graphic text ≡ true → IsText text
graphic-text text is = text-of text (characters text is)

abbrev visible : List ℕ → Bool
visible text = list_all is_ascii_graphic text

two : (a b : Bool) → a ≡ true → b ≡ true → (a && b) ≡ true
two a b one other = ap (λ x. x && b) one ∙ other

-- the parts of a text
onto-visible : (b : ℕ) (parts : List (List ℕ)) → is_ascii_graphic b ≡ true
    → list_all visible parts ≡ true → list_all visible (onto_first b parts) ≡ true
onto-visible b [] one is =
    two (is_ascii_graphic b && true) true (two (is_ascii_graphic b) true one refl) refl
onto-visible b (part ∷ parts) one is =
    let tests = both (visible part) (list_all visible parts) is in
    two (is_ascii_graphic b && visible part) (list_all visible parts)
    (two (is_ascii_graphic b) (visible part) one tests.0) tests.1

split-step : (b : ℕ) (cuts : Bool) (parts : List (List ℕ)) → is_ascii_graphic b ≡ true
    → list_all visible parts ≡ true
    → list_all visible (cond cuts ([] ∷ parts) (onto_first b parts)) ≡ true
split-step b true parts one is = is
split-step b false parts one is = onto-visible b parts one is

split-visible : (text : List ℕ) → visible text ≡ true
    → list_all visible (slice_split (λ b. eqb b 93) text) ≡ true
split-visible [] is = refl
split-visible (b ∷ text) is =
    let tests = both (is_ascii_graphic b) (visible text) is in
    split-step b (eqb b 93) (slice_split (λ c. eqb c 93) text) tests.0 (split-visible text tests.1)

-- fronts and rests of a text
take-visible : (n : ℕ) (text : List ℕ) → visible text ≡ true → visible (take n text) ≡ true
take-visible zero text is = refl
take-visible (suc n) [] is = refl
take-visible (suc n) (b ∷ text) is =
    let tests = both (is_ascii_graphic b) (visible text) is in
    two (is_ascii_graphic b) (visible (take n text)) tests.0 (take-visible n text tests.1)

drop-visible : (n : ℕ) (text : List ℕ) → visible text ≡ true → visible (drop n text) ≡ true
drop-visible zero text is = is
drop-visible (suc n) [] is = refl
drop-visible (suc n) (b ∷ text) is =
    drop-visible n text (both (is_ascii_graphic b) (visible text) is).1

-- what is written for a byte
line-or : (b : ℕ) (dash : Bool) → is_ascii_graphic b ≡ true
    → is_ascii_graphic (cond dash 95 b) ≡ true
line-or b true is = refl
line-or b false is = is

underscored-visible : (text : List ℕ) → visible text ≡ true → visible (underscored text) ≡ true
underscored-visible [] is = refl
underscored-visible (b ∷ text) is =
    let tests = both (is_ascii_graphic b) (visible text) is in
    two (is_ascii_graphic (cond (eqb b 45) 95 b)) (visible (underscored text))
    (line-or b (eqb b 45) tests.0) (underscored-visible text tests.1)

pub underscored-text : (text : List ℕ) → is_graphic text ≡ true → IsText (underscored text)
underscored-text text is =
    text-of (underscored text) (underscored-visible text (characters text is))

outside-visible : (part : List ℕ) → visible part ≡ true → visible (underscored_outside part) ≡ true
outside-visible part is =
    let at = position_or_len (λ b. eqb b 91) part in
    list_all-append is_ascii_graphic (underscored (take at part)) (drop at part)
    ∙ two (visible (underscored (take at part))) (visible (drop at part))
    (underscored-visible (take at part) (take-visible at part is)) (drop-visible at part is)

-- parts that are joined
join-visible : (parts : List (List ℕ)) → list_all visible parts ≡ true
    → visible (join_with_byte 93 (map underscored_outside parts)) ≡ true
join-visible [] is = refl
join-visible (part ∷ []) is = outside-visible part (both (visible part) true is).0
join-visible (part ∷ next ∷ parts) is =
    let tests = both (visible part) (list_all visible (next ∷ parts)) is in
    let rest = join_with_byte 93 (map underscored_outside (next ∷ parts)) in
    list_all-append is_ascii_graphic (underscored_outside part) (93 ∷ rest)
    ∙ two (visible (underscored_outside part)) (visible rest) (outside-visible part tests.0)
    (join-visible (next ∷ parts) tests.1)

kept-form : (pairs : Bool) (form key : List ℕ) → cond pairs (Some form) None ≡ Some key → form ≡ key
kept-form true form key is = cc
kept-form false form key is = cc

pub normal-key : (text key : List ℕ) → is_graphic text ≡ true → normal_alias text ≡ Some key
    → IsKey key
unfolding normal_alias
normal-key text key word is =
    let parts = slice_split (λ b. eqb b 93) text in
    let form : join_with_byte 93 (map underscored_outside parts) ≡ key
    = kept-form (brackets_pair parts) (join_with_byte 93 (map underscored_outside parts)) key is
    in
    key-of key
    (ap visible (sym form) ∙ join-visible parts (split-visible text (characters text word)))
