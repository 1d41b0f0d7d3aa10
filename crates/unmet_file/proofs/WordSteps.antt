-- Words of visible characters, with a space between them.
use Rattle.std.proofs.Common.{◌≡◌, ℕ, suc, ◌+◌, ◌<◌, Bool, true, false, not, ◌&&◌, List, [], ◌∷◌}
use Rattle.std.proofs.Common.{◌++◌, length, take, drop, eqb, cond, Option, Some, None, option_map}
use Rattle.std.proofs.Common.{refl, sym, ap, subst, ◌∙◌, length-append, arith}
use Rattle.std.specs.Prelude.{codes}
use Rattle.std.specs.List.{list_all, position_or_len}
use Rattle.std.specs.Char.{is_ascii_graphic}
use Rattle.std.proofs.Math.Seq.{take-append_seam, drop-append-add}
use Rattle.std.proofs.lemmas.Bool.{eqb-true}
use Rattle.km_names.specs.Ascii.{is_graphic}
use Rattle.km_names.specs.Space.{before_space, past_space}
use Rattle.unmet_file.specs.Line.{two_words, three_words, three_text}

pub both_hold : (a b : Bool) → (a && b) ≡ true → (a ≡ true) × (b ≡ true)
both_hold true b h = (refl, h)
both_hold false b h = absurd (cc)

-- a word has a byte, and only visible ones
pub graphic-some : (text : List ℕ) → is_graphic text ≡ true → 0 < length text
unfolding is_graphic
graphic-some [] h = absurd (cc)
graphic-some (b ∷ bs) h = omega arith

pub graphic-all : (text : List ℕ) → is_graphic text ≡ true → list_all is_ascii_graphic text ≡ true
unfolding is_graphic
graphic-all text h = (both_hold (not (eqb (length text) 0)) (list_all is_ascii_graphic text) h).1

-- a visible character is no other
pub not-byte : (b c : ℕ) → is_ascii_graphic c ≡ false → is_ascii_graphic b ≡ true → eqb b c ≡ false
not-byte b c hidden shown = go (eqb b c) refl
  where
    go : (v : Bool) → eqb b c ≡ v → eqb b c ≡ false
    go true is = absurd (differ (sym hidden ∙ ap is_ascii_graphic (sym (eqb-true b c is)) ∙ shown))
      where
        differ : false ≡ true → ⊥
        differ h = cc
    go false is = is

seam : (word others : List ℕ) → list_all is_ascii_graphic word ≡ true
    → position_or_len (λ b. eqb b 32) (word ++ 32 ∷ others) ≡ length word
seam [] others h = refl
seam (b ∷ bs) others h =
    let p = both_hold (is_ascii_graphic b) (list_all is_ascii_graphic bs) h in
    ap (λ v. cond (not v) (1 + position_or_len (λ c. eqb c 32) (bs ++ 32 ∷ others)) 0)
    (not-byte b 32 refl p.0)
    ∙ ap (λ n. 1 + n) (seam bs others p.1)
    ∙ (omega arith)

-- a word before a space
pub front-word : (word others : List ℕ) → is_graphic word ≡ true
    → before_space (word ++ 32 ∷ others) ≡ word
front-word word others h =
    ap (λ n. take n (word ++ 32 ∷ others)) (seam word others (graphic-all word h))
    ∙ take-append_seam word (32 ∷ others)

pub rest-word : (word others : List ℕ) → is_graphic word ≡ true
    → past_space (word ++ 32 ∷ others) ≡ others
rest-word word others h =
    ap (λ n. drop (n + 1) (word ++ 32 ∷ others)) (seam word others (graphic-all word h))
    ∙ drop-append-add word (32 ∷ others) 1

-- two words are read back, and three
pub two-back : (a b : List ℕ) → is_graphic a ≡ true → is_graphic b ≡ true
    → two_words (a ++ (codes " " ++ b)) ≡ Some (a, b)
two-back a b h k =
    rw (front-word a b h, rest-word a b h, h, k) refl

pub three-back : (a b c : List ℕ) → is_graphic a ≡ true → is_graphic b ≡ true → is_graphic c ≡ true
    → three_words (three_text a b c) ≡ Some (a, b, c)
three-back a b c h k l =
    let others : List ℕ = b ++ (codes " " ++ c) in
    rw (front-word a others h, rest-word a others h, h)
    (ap (option_map (λ w. (a, w.0, w.1))) (two-back b c k l))

-- a text whose rest isn't empty is its two parts with a space between
more_joined : (b : ℕ) (bs : List ℕ)
    → (0 < length (past_space bs) → before_space bs ++ 32 ∷ past_space bs ≡ bs)
    → (v : Bool) → eqb b 32 ≡ v
    → 0 < length (drop (cond (not v) (1 + position_or_len (λ c. eqb c 32) bs) 0 + 1) (b ∷ bs))
    → take (cond (not v) (1 + position_or_len (λ c. eqb c 32) bs) 0) (b ∷ bs) ++ 32
    ∷ drop (cond (not v) (1 + position_or_len (λ c. eqb c 32) bs) 0 + 1) (b ∷ bs)
    ≡ b ∷ bs
more_joined b bs later true is some = ap (λ c. c ∷ bs) (sym (eqb-true b 32 is))
more_joined b bs later false is some =
    let n = position_or_len (λ c. eqb c 32) bs in
    let e : 1 + n ≡ suc n = omega arith in
    let f : 1 + n + 1 ≡ suc (n + 1) = omega arith in
    let others : 0 < length (past_space bs) = subst (λ k. 0 < length (drop k (b ∷ bs))) f some in
    ap (λ k. take k (b ∷ bs) ++ 32 ∷ drop (1 + n + 1) (b ∷ bs)) e
    ∙ ap (λ k. b ∷ (before_space bs ++ 32 ∷ drop k (b ∷ bs))) f
    ∙ ap (λ xs. b ∷ xs) (later others)

pub joined : (text : List ℕ) → 0 < length (past_space text)
    → before_space text ++ 32 ∷ past_space text ≡ text
joined [] h = absurd (omega arith)
joined (b ∷ bs) h = more_joined b bs (joined bs) (eqb b 32) refl h

-- what two words are read of, and three
pub record AreTwo (text : List ℕ) (w : List ℕ × List ℕ) : Type 0 where
  pub text_is : w.0 ++ (codes " " ++ w.1) ≡ text
  pub first : is_graphic w.0 ≡ true
  pub second : is_graphic w.1 ≡ true

pub record AreThree (text : List ℕ) (w : List ℕ × List ℕ × List ℕ) : Type 0 where
  pub text_is : three_text w.0 w.1 w.2 ≡ text
  pub first : is_graphic w.0 ≡ true
  pub second : is_graphic w.1 ≡ true
  pub third : is_graphic w.2 ≡ true

pub two-written : (text : List ℕ) (w : List ℕ × List ℕ) → two_words text ≡ Some w → AreTwo text w
two-written text w h =
    go (is_graphic (before_space text)) (is_graphic (past_space text)) refl refl h
  where
    go : (a b : Bool) → is_graphic (before_space text) ≡ a → is_graphic (past_space text) ≡ b
        → cond (a && b) (Some (before_space text, past_space text)) None ≡ Some w → AreTwo text w
    go true true e f is =
        let p : (let q : List ℕ × List ℕ = (before_space text, past_space text) in q) ≡ w = cc in
        subst (AreTwo text) p
        (record { text_is = joined text (graphic-some (past_space text) f); first = e; second = f })
    go true false e f is = absurd (cc)
    go false b e f is = absurd (cc)

pub three-written : (text : List ℕ) (w : List ℕ × List ℕ × List ℕ) → three_words text ≡ Some w
    → AreThree text w
three-written text w h =
    go (is_graphic (before_space text)) (two_words (past_space text)) refl refl h
  where
    go : (a : Bool) (o : Option (List ℕ × List ℕ)) → is_graphic (before_space text) ≡ a
        → two_words (past_space text) ≡ o
        → cond a (option_map (λ v. (before_space text, v.0, v.1)) o) None ≡ Some w → AreThree text w
    go true (Some v) e f is =
        let p : (let q : List ℕ × List ℕ × List ℕ = (before_space text, v.0, v.1) in q) ≡ w = cc in
        let two = two-written (past_space text) v f in
        let some : 0 < length (past_space text)
        = subst (λ xs. 0 < length xs) two.text_is (omega (arith, length-append v.0 (32 ∷ v.1)))
        in
        subst (AreThree text) p (record {
          text_is = ap (λ xs. before_space text ++ 32 ∷ xs) two.text_is ∙ joined text some;
          first = e;
          second = two.first;
          third = two.second;
        })
    go true None e f is = absurd (cc)
    go false o e f is = absurd (cc)
