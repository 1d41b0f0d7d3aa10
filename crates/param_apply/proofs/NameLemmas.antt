-- Tables of names, with each `-` read as `_`.
use Rattle.std.proofs.Common.{◌≡◌, ℕ, Bool, List, [], ◌∷◌, ◌++◌, Some, length, map, take, get_or}
use Rattle.std.proofs.Common.{refl, sym, ap, subst, ◌∙◌, cond, ◌+◌, ◌<◌, true, false, Option}
use Rattle.std.proofs.Common.{None, is_some, inl, inr, arith, ◌==◌, ◌≤◌}
use Rattle.std.specs.List.{position, position_or_len}
use Rattle.std.specs.Prelude.{not, option_map, IfOk, OnOk, Result, Ok, Err}
use Rattle.std.specs.Str.{bytes_eq}
use Rattle.std.proofs.lemmas.Bool.{cases_Bool, cases_lt}
use Rattle.std.proofs.lemmas.List.{get_or_default, length-map, map_more}
use Rattle.std.proofs.lemmas.Slice.Eq.{bytes_eq-Decides}
use Rattle.km_names.specs.Path.{underscored}
use Rattle.km_names.proofs.Positions.{position-none}
use Rattle.elf_sections.proofs.StringLemmas.{position-nowhere_is}
use Rattle.name_table.specs.NameTable.{IsTableOf, Table, place_of, states}
use Rattle.param_apply.specs.declared.words.WordNames.{WordNames}
use Rattle.param_apply.specs.Naming.{AreWordNames, is_word_name, kept_name}
use Rattle.param_apply.specs.Words.{Parameter, Setting, is_same, number_named, setting, word_name}
use Rattle.param_apply.specs.Words.{word_text}

-- The first of some items that passes, by what is made of them.
first-map : {X Y : Type 0} (p : Y → Bool) (f : X → Y) (xs : List X)
    → position_or_len p (map f xs) ≡ position_or_len (λ x. p (f x)) xs
first-map p f [] = refl
first-map p f (x ∷ xs) = ap (λ n. cond (not (p (f x))) (1 + n) 0) (first-map p f xs)

position-map : {X Y : Type 0} (p : Y → Bool) (f : X → Y) (xs : List X)
    → position p (map f xs) ≡ position (λ x. p (f x)) xs
position-map p f xs = rw (first-map p f xs, length-map xs f) refl

-- The place that a table has for a name.
pub place-named : {X : Type 0} (t : Table) (f : X → List ℕ) (xs : List X) (name : List ℕ)
    → IsTableOf t (map (λ x. Some (underscored (f x))) xs)
    → place_of t (underscored name) ≡ position (λ x. is_same (f x) name) xs
place-named t f xs name is =
    is.places (underscored name)
    ∙ position-map (states (underscored name)) (λ x. Some (underscored (f x))) xs

-- The table of the first items, with one more.
pub table-more : {X : Type 0} (t : Table) (f : X → List ℕ) (xs : List X) (i : ℕ) (x : X)
    (name : List ℕ)
    → i < length xs → x ≡ get_or xs i x → name ≡ underscored (f x)
    → IsTableOf t (map (λ y. Some (underscored (f y))) (take i xs) ++ Some name ∷ [])
    → IsTableOf t (map (λ y. Some (underscored (f y))) (take (i + 1) xs))
table-more t f xs i x name within is named table =
    subst (IsTableOf t)
    (ap (λ n. map (λ y. Some (underscored (f y))) (take i xs) ++ Some n ∷ [])
    (named ∙ ap (λ y. underscored (f y)) is)
    ∙ sym (map_more (λ y. Some (underscored (f y))) xs i x within)) table

-- Names that are the same.
same-names : (name other : List ℕ) → is_same name other ≡ true
    → underscored name ≡ underscored other
same-names name other is = (bytes_eq-Decides (underscored name) (underscored other)).0 is

first-as : {X : Type 0} (p q : X → Bool) (xs : List X) → ((x : X) → p x ≡ q x)
    → position_or_len p xs ≡ position_or_len q xs
first-as p q [] same = refl
first-as p q (x ∷ xs) same =
    ap (λ (b : Bool). cond (not b) (1 + position_or_len p xs) 0) (same x)
    ∙ ap (λ n. cond (not (q x)) (1 + n) 0) (first-as p q xs same)

position-as : {X : Type 0} (p q : X → Bool) (xs : List X) → ((x : X) → p x ≡ q x)
    → position p xs ≡ position q xs
position-as p q xs same = rw (first-as p q xs same) refl

-- Whether a name is in a word depends only on what it is with each `-` as `_`.
word_name-as : (words : List (List ℕ)) (name other : List ℕ)
    → underscored name ≡ underscored other → is_word_name words name ≡ is_word_name words other
word_name-as words name other is =
    ap (λ u. is_some (position (λ w. bytes_eq (underscored (word_name w)) u) words)) is

-- The name of a word is one.
word_name-some : (words : List (List ℕ)) (name word : List ℕ) (i : ℕ) (o : Option ℕ)
    → position (λ w. is_same (word_name w) name) words ≡ o → i < length words
    → name ≡ word_name (get_or words i word) → is_some o ≡ true
word_name-some words name word i (Some j) is within named = refl
word_name-some words name word i None is within named =
    let wrong : is_same (word_name (get_or words i word)) name ≡ false
    = position-nowhere_is (λ w. is_same (word_name w) name) words i word is within in
    let right : is_same (word_name (get_or words i word)) name ≡ true
    = (bytes_eq-Decides (underscored (word_name (get_or words i word))) (underscored name)).1
    (ap underscored (sym named)) in
    absurd (cc)

pub word-named : (words : List (List ℕ)) (i : ℕ) (name word : List ℕ) → i < length words
    → name ≡ word_name (get_or words i word) → is_word_name words name ≡ true
word-named words i name word within named =
    word_name-some words name word i (position (λ w. is_same (word_name w) name) words) refl within
    named

-- The longest name, a word later.
pub longest-more : (words : List (List ℕ)) (i j old new : ℕ) (name word : List ℕ)
    → i < length words → ((k : ℕ) → k < i → length (word_name (get_or words k [])) ≤ old)
    → old ≤ new → length name ≤ new → name ≡ word_name word → word ≡ get_or words i word
    → j < i + 1 → length (word_name (get_or words j [])) ≤ new
longest-more words i j old new name word within before more long named is less =
    elim (cases_lt j i) [
      | inl early ↦ omega (arith, before j early, more)
      | inr late ↦
          let here : j ≡ i = omega (arith, late, less) in
          let same : get_or words j [] ≡ word
          = ap (λ (n : ℕ). get_or words n []) here ∙ get_or_default words i [] word within
          ∙ sym is in
          let size = ap (λ (w : List ℕ). length (word_name w)) same in
          omega (arith, size, long, ap length named)
    ]

-- No word has a name that is longer than all of theirs.
pub longer-unnamed : (n : WordNames) (words : List (List ℕ)) (name : List ℕ) → AreWordNames n words
    → n.longest < length name → is_word_name words name ≡ false
longer-unnamed n words name are longer =
    ap is_some
    (position-none (λ w. is_same (word_name w) name) words []
    (λ k less.
    elim (cases_Bool (is_same (word_name (get_or words k [])) name)) [
      | inl same ↦
          let long = ap length (same-names (word_name (get_or words k [])) name same) in
          absurd (omega (
            arith,
            long,
            longer,
            are.longest k less,
            length-map (word_name (get_or words k [])) (λ b. cond (b == 45) 95 b),
            length-map name (λ b. cond (b == 45) 95 b),
          ))
      | inr other ↦ other
    ]))

-- Whether the table of the names in words has a name.
pub names-have : (n : WordNames) (words : List (List ℕ)) (name : List ℕ) → AreWordNames n words
    → is_some (place_of n.table (underscored name)) ≡ is_word_name words name
names-have n words name are = ap is_some (place-named n.table word_name words name are.table)

-- What a table has of a parameter.
kept-named : (words : List (List ℕ)) (p : Parameter) → is_word_name words p.name ≡ true
    → kept_name words p ≡ Some (underscored p.name)
kept-named words p is = rw is refl

pub kept-unnamed : (words : List (List ℕ)) (p : Parameter) → is_word_name words p.name ≡ false
    → kept_name words p ≡ None
kept-unnamed words p is = rw is refl

-- The number of a parameter that a word names, by a table of those that words name.
kept-states : (words : List (List ℕ)) (name : List ℕ) (p : Parameter) (b : Bool)
    → is_word_name words name ≡ true → is_word_name words p.name ≡ b
    → states (underscored name) (kept_name words p) ≡ is_same p.name name
kept-states words name p true named is = ap (states (underscored name)) (kept-named words p is)
kept-states words name p false named is =
    ap (states (underscored name)) (kept-unnamed words p is)
    ∙ elim (cases_Bool (is_same p.name name)) [
      | inl same ↦
          let right
          = word_name-as words p.name name (same-names p.name name same) in
          absurd (cc)
      | inr other ↦ sym other
    ]

pub number-kept : (t : Table) (words : List (List ℕ)) (params : List Parameter) (name : List ℕ)
    → IsTableOf t (map (kept_name words) params) → is_word_name words name ≡ true
    → place_of t (underscored name) ≡ number_named params name
number-kept t words params name is named =
    is.places (underscored name)
    ∙ position-map (states (underscored name)) (kept_name words) params
    ∙ position-as (λ p. states (underscored name) (kept_name words p))
    (λ (p : Parameter). is_same p.name name) params
    (λ p. kept-states words name p (is_word_name words p.name) named refl)

-- What a table has of a parameter, by a look-up among the names of words.
pub kept-tested : (n : WordNames) (words : List (List ℕ)) (p : Parameter) (name : List ℕ) (b : Bool)
    → AreWordNames n words → name ≡ underscored p.name → b ≡ is_some (place_of n.table name)
    → kept_name words p ≡ cond b (Some name) None
kept-tested n words p name b are is has =
    let same : b ≡ is_word_name words p.name
    = has ∙ ap (λ u. is_some (place_of n.table u)) is ∙ names-have n words p.name are in
    rw (same, is) refl

-- What a table has of a parameter more.
pub kept-more : (new : Table) (items : List (Option (List ℕ))) (words : List (List ℕ))
    (p : Parameter) (o : Option (List ℕ))
    → kept_name words p ≡ o → IsTableOf new (items ++ o ∷ [])
    → IsTableOf new (items ++ kept_name words p ∷ [])
kept-more new items words p o is table =
    subst (λ n. IsTableOf new (items ++ n ∷ [])) (sym is) table

-- What holds where a call didn't fail.
pub where-ok : {T E : Type 0} (r : Result T E) {P Q : Type 0} → OnOk r P → (P → Q) → OnOk r Q
where-ok (Ok v) holds next = next holds
where-ok (Err e) holds next = tt

-- What a word states, by the number that its name was found at.
pub setting-found : (params : List Parameter) (word : List ℕ) (number : Option ℕ)
    (s : Option Setting)
    → s ≡ option_map (λ k. record { number = k; text = word_text word }) number
    → number ≡ number_named params (word_name word) → s ≡ setting params word
setting-found params word number s is named = rw (is, named) refl

pub where-ok-value : {T E : Type 0} (r : Result T E) {P Q : T → Type 0} → IfOk r P
    → ((v : T) → P v → Q v) → IfOk r Q
where-ok-value (Ok v) holds next = next v holds
where-ok-value (Err e) holds next = tt
