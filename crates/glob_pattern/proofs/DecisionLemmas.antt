-- The parts of a pattern decide the relation.
use Rattle.std.proofs.Common.{◌≡◌, ◌≢◌, ◌≤◌, suc, ◌==◌, ◌||◌, inl, inr, refl, sym, subst, ap, ◌∙◌}
use Rattle.std.proofs.Common.{ℕ, Bool, true, false, cond, nat_le, List, [], ◌∷◌, ◌++◌, length}
use Rattle.std.proofs.Common.{Option, Some, None, Contains, MatchBool, arith, append_assoc}
use Rattle.std.specs.Bool.{Decides}
use Rattle.std.specs.Option.{option_map, option_map_or}
use Rattle.std.proofs.lemmas.Bool.{false≢true, and_parts}
use Rattle.std.proofs.lemmas.Bool.Decides.{nat_tests, Decides-not, Decides-and, Decides-or}
use Rattle.std.proofs.lemmas.List.{nil_from_length, append-nil}
use Rattle.std.proofs.lemmas.List.Elements.{Contains-append_cases}
use Rattle.glob_pattern.specs.Pattern.{Lists, Has, Matches, empty, run, any, set, itself, star}
use Rattle.glob_pattern.specs.Pattern.{question, bracket, closing, bang, dash}
use Rattle.glob_pattern.specs.Parts.{is_listed, is_in_set, Part, parts_from, some_end, parts_take}
use Rattle.glob_pattern.specs.Parts.Part.{Many, One}

-- ---- sets

decides_least : (a b : ℕ) → Decides (nat_le a b) (a ≤ b)
decides_least a b = grind (arith, nat_tests)

pub decides_same : (a b : ℕ) → Decides (a == b) (a ≡ b)
decides_same a b = grind (arith, nat_tests)

by_test : (t : Bool) {a b : Bool} {P Q : Type 0} → Decides a P → Decides b Q
    → Decides (cond t a b) (MatchBool t P Q)
by_test true p q = p
by_test false p q = q

listed : (items : List ℕ) (byte : ℕ) → Decides (is_listed items byte) (Lists items byte)
listed [] byte = (λ e. absurd (false≢true e), λ h. absurd h)
listed (low ∷ []) byte = Decides-or _ _ (decides_same byte low) (listed [] byte)
listed (low ∷ middle ∷ []) byte = Decides-or _ _ (decides_same byte low) (listed (middle ∷ []) byte)
listed (low ∷ middle ∷ high ∷ items) byte =
    by_test (middle == dash)
    (Decides-or _ _ (Decides-and _ _ (decides_least low byte) (decides_least byte high))
    (listed items byte))
    (Decides-or _ _ (decides_same byte low) (listed (middle ∷ high ∷ items) byte))

in_set : (items : List ℕ) (byte : ℕ) → Decides (is_in_set items byte) (Has items byte)
in_set [] byte = (λ e. absurd (false≢true e), λ h. absurd h)
in_set (first ∷ items) byte =
    by_test (first == bang) (Decides-not _ (listed items byte)) (listed (first ∷ items) byte)

-- ---- from the test to the relation

-- A pattern whose items of an open set were read.
abbrev front : Option (List ℕ) → List ℕ → List ℕ
front None bytes = bytes
front (Some items) bytes = bracket ∷ items ++ bytes

abbrev IsOpen : Option (List ℕ) → Type 0
IsOpen None = Unit {0}
IsOpen (Some items) = ¬ Contains items closing

abbrev Gives : Option (List ℕ) → List ℕ → Type 0
Gives at bytes =
    (ps : List Part) (text : List ℕ) → parts_from at bytes ≡ Some ps → parts_take ps text ≡ true
    → Matches (front at bytes) text

mapped : {X Y : Type 0} (f : X → Y) (o : Option X) (y : Y) → option_map f o ≡ Some y
    → (x : X) × (o ≡ Some x) × (f x ≡ y)
mapped f None y e = cc
mapped f (Some x) y e = (x, refl, cc)

-- An end that passes.
some_end-found : (test : List ℕ → Bool) (text : List ℕ) → some_end test text ≡ true
    → (skipped : List ℕ) × (rest : List ℕ) × (text ≡ skipped ++ rest) × (test rest ≡ true)
some_end-found test [] e = ([], [], refl, e)
some_end-found test (b ∷ text) e =
    elim (test (b ∷ text)) as
    (λ t. test (b ∷ text) ≡ t → (t || some_end test text) ≡ true
    → (skipped : List ℕ) × (rest : List ℕ) × (b ∷ text ≡ skipped ++ rest)
    × (test rest ≡ true)) [
      | true ↦ λ is _. ([], b ∷ text, refl, is)
      | false ↦ λ _ later. let h
          = some_end-found test text later in (b ∷ h.0, h.1, ap (λ t. b ∷ t) h.2, h.3)
    ] refl e

one_taken : (test : ℕ → Bool) (ps : List Part) (text : List ℕ)
    → parts_take (One test ∷ ps) text ≡ true
    → (byte : ℕ) × (rest : List ℕ) × (text ≡ byte ∷ rest) × (test byte ≡ true)
    × (parts_take ps rest ≡ true)
one_taken test ps [] e = absurd (false≢true e)
one_taken test ps (b ∷ rest) e =
    let both = and_parts (test b) _ e in (b, rest, refl, both.0, both.1)

gives_many : (bytes : List ℕ) → Gives None bytes → (ps : List Part) (text : List ℕ)
    → option_map (λ ps. Many ∷ ps) (parts_from None bytes) ≡ Some ps → parts_take ps text ≡ true
    → Matches (star ∷ bytes) text
gives_many bytes ih ps text e t =
    let p = mapped (λ ps. Many ∷ ps) (parts_from None bytes) ps e in
    let h
    = some_end-found (parts_take p.0) text (subst (λ q. parts_take q text ≡ true) (sym p.2) t)
    in
    rw (h.2) (run h.0 (ih p.0 h.1 p.1 h.3))

gives_one : (test : ℕ → Bool) (bytes pattern : List ℕ) → Gives None bytes
    → ((byte : ℕ) (rest : List ℕ) → test byte ≡ true → Matches bytes rest
    → Matches pattern (byte ∷ rest))
    → (ps : List Part) (text : List ℕ)
    → option_map (λ ps. One test ∷ ps) (parts_from None bytes) ≡ Some ps → parts_take ps text ≡ true
    → Matches pattern text
gives_one test bytes pattern ih make ps text e t =
    let p = mapped (λ ps. One test ∷ ps) (parts_from None bytes) ps e in
    let h = one_taken test p.0 text (subst (λ q. parts_take q text ≡ true) (sym p.2) t) in
    rw (h.2) (make h.0 h.1 h.3 (ih p.0 h.1 p.1 h.4))

gives_byte : (b : ℕ) (bytes : List ℕ) → Gives None bytes → Gives (Some []) bytes
    → Gives None (b ∷ bytes)
gives_byte b bytes ih ih_set ps text e t =
    elim (b == star) as
    (λ s. (b == star) ≡ s
    → cond s (option_map (λ ps. Many ∷ ps) (parts_from None bytes))
    (cond (b == question)
    (option_map (λ ps. One (λ b. true) ∷ ps) (parts_from None bytes))
    (cond (b == bracket) (parts_from (Some []) bytes)
    (option_map (λ ps. One (λ x. x == b) ∷ ps) (parts_from None bytes))))
    ≡ Some ps
    → Matches (b ∷ bytes) text) [
      | true ↦ λ is e. let same : b ≡ star
          = (decides_same b star).0 is in rw same (gives_many bytes ih ps text e t)
      | false ↦ λ no_star e. elim (b == question) as
          (λ s. (b == question) ≡ s
          → cond s (option_map (λ ps. One (λ b. true) ∷ ps) (parts_from None bytes))
          (cond (b == bracket) (parts_from (Some []) bytes)
          (option_map (λ ps. One (λ x. x == b) ∷ ps) (parts_from None bytes)))
          ≡ Some ps
          → Matches (b ∷ bytes) text) [
            | true ↦ λ is e. let same : b ≡ question
                = (decides_same b question).0 is in rw same
                (gives_one (λ b. true) bytes (question ∷ bytes) ih (λ byte rest _ m. any byte m) ps
                text e t)
            | false ↦ λ no_question e. elim (b == bracket) as
                (λ s. (b == bracket) ≡ s
                → cond s (parts_from (Some []) bytes)
                (option_map (λ ps. One (λ x. x == b) ∷ ps) (parts_from None bytes))
                ≡ Some ps
                → Matches (b ∷ bytes) text) [
                  | true ↦ λ is e. let same : b ≡ bracket
                      = (decides_same b bracket).0 is in rw same (ih_set ps text e t)
                  | false ↦ λ no_bracket e. gives_one (λ x. x == b) bytes (b ∷ bytes) ih
                      (λ byte rest is m. itself_at b bytes byte rest ((decides_same byte b).0 is)
                      no_star
                      no_question no_bracket m) ps text e t
                ] refl e
          ] refl e
    ] refl e
  where
    differs : (a b : ℕ) → (a == b) ≡ false → a ≢ b
    differs a b e = grind (arith, nat_tests)

    itself_at : (b : ℕ) (bytes : List ℕ) (byte : ℕ) (rest : List ℕ) → byte ≡ b → (b == star) ≡ false
        → (b == question) ≡ false → (b == bracket) ≡ false → Matches bytes rest
        → Matches (b ∷ bytes) (byte ∷ rest)
    itself_at b bytes byte rest is x y z m
        = rw is (itself b (differs b star x) (differs b question y) (differs b bracket z) m)

no_items : ¬ Contains {X = ℕ} [] closing
no_items h = absurd (omega (arith, h.1))

one_more : (items : List ℕ) (b : ℕ) → ¬ Contains items closing → (b == closing) ≡ false
    → ¬ Contains (items ++ b ∷ []) closing
one_more items b lacks other h = elim (Contains-append_cases items (b ∷ []) closing h) [
  | inl there ↦ lacks there
  | inr last ↦ alone b other last
]
  where
    alone : (b : ℕ) → (b == closing) ≡ false → ¬ Contains (b ∷ []) closing
    alone b other h = grind (arith, nat_tests)

gives : (at : Option (List ℕ)) (bytes : List ℕ) → IsOpen at → Gives at bytes
gives None [] fresh ps text e t =
    let none : [] ≡ ps = cc in
    let size : length text ≡ 0
    = (decides_same (length text) 0).0 (subst (λ q. parts_take q text ≡ true) (sym none) t) in
    rw (nil_from_length text size) empty
gives None (b ∷ bytes) fresh ps text e t =
    gives_byte b bytes (gives None bytes tt) (gives (Some []) bytes no_items) ps text e t
gives (Some items) [] fresh ps text e t = cc
gives (Some items) (b ∷ bytes) fresh ps text e t =
    elim (b == closing) as
    (λ s. (b == closing) ≡ s
    → cond s (option_map (λ ps. One (is_in_set items) ∷ ps) (parts_from None bytes))
    (parts_from (Some (items ++ b ∷ [])) bytes)
    ≡ Some ps
    → Matches (bracket ∷ items ++ b ∷ bytes) text) [
      | true ↦ λ is e. let same : b ≡ closing
          = (decides_same b closing).0 is in rw same
          (gives_one (is_in_set items) bytes (bracket ∷ items ++ closing ∷ bytes)
          (gives None bytes tt)
          (λ byte rest has m. set items byte fresh ((in_set items byte).0 has) m) ps text e
          t)
      | false ↦ λ other e. rw append_assoc at
          (gives (Some (items ++ b ∷ [])) bytes (one_more items b fresh other) ps text e t)
    ] refl e

-- ---- from the relation to the test

-- The parts of a pattern take the text.
record Takes (pattern text : List ℕ) : Type 0 where
  parts : List Part
  are : parts_from None pattern ≡ Some parts
  take_it : parts_take parts text ≡ true

set_read : (items inside pattern : List ℕ) → ¬ Contains inside closing
    → parts_from (Some items) (inside ++ closing ∷ pattern)
    ≡ option_map (λ ps. One (is_in_set (items ++ inside)) ∷ ps) (parts_from None pattern)
set_read items [] pattern lacks = rw append-nil refl
set_read items (b ∷ inside) pattern lacks =
    let other : (b == closing) ≡ false = first_other b inside lacks in
    rw other (set_read (items ++ b ∷ []) inside pattern (λ h. lacks (there b inside h))
    ∙ rw append_assoc refl)
  where
    first_other : (b : ℕ) (inside : List ℕ) → ¬ Contains (b ∷ inside) closing
        → (b == closing) ≡ false
    first_other b inside lacks = elim (b == closing) as (λ t. (b == closing) ≡ t → t ≡ false) [
      | true ↦ λ is. absurd (lacks (0, omega arith, (decides_same b closing).0 is))
      | false ↦ λ _. refl
    ] refl

    there : (b : ℕ) (inside : List ℕ) → Contains inside closing → Contains (b ∷ inside) closing
    there b inside h = (suc h.0, omega (arith, h.1), h.2)

some_end-after : (test : List ℕ → Bool) (skipped rest : List ℕ) → test rest ≡ true
    → some_end test (skipped ++ rest) ≡ true
some_end-after test [] [] e = e
some_end-after test [] (b ∷ rest) e = rw e refl
some_end-after test (b ∷ skipped) rest e =
    rw (some_end-after test skipped rest e) (either (test (b ∷ skipped ++ rest)))
  where
    either : (t : Bool) → (t || true) ≡ true
    either true = refl
    either false = refl

pub not_same : (a b : ℕ) → a ≢ b → (a == b) ≡ false
not_same a b e = grind (arith, nat_tests)

taken : {pattern text : List ℕ} → Matches pattern text → Takes pattern text
taken empty = record { parts = []; are = refl; take_it = refl }
taken (run skipped m) =
    let t = taken m in
    record {
      parts = Many ∷ t.parts;
      are = ap (option_map (λ ps. Many ∷ ps)) t.are;
      take_it = some_end-after (parts_take t.parts) skipped _ t.take_it;
    }
taken (any byte m) =
    let t = taken m in
    record {
      parts = One (λ b. true) ∷ t.parts;
      are = ap (option_map (λ ps. One (λ b. true) ∷ ps)) t.are;
      take_it = t.take_it;
    }
taken (set inside byte lacks has m) =
    let t = taken m in
    record {
      parts = One (is_in_set inside) ∷ t.parts;
      are = set_read [] inside _ lacks ∙ ap (option_map (λ ps. One (is_in_set inside) ∷ ps)) t.are;
      take_it = rw ((in_set inside byte).1 has) (t.take_it);
    }
taken (itself byte x y z m) =
    let t = taken m in
    record {
      parts = One (λ b. b == byte) ∷ t.parts;
      are
          = rw (not_same byte star x, not_same byte question y, not_same byte bracket z)
          (ap (option_map (λ ps. One (λ b. b == byte) ∷ ps)) t.are);
      take_it = rw ((decides_same byte byte).1 refl) (t.take_it);
    }

-- ---- both

by_parts : (o : Option (List Part)) (text : List ℕ)
    → option_map_or (λ ps. parts_take ps text) o false ≡ true
    → (ps : List Part) × (o ≡ Some ps) × (parts_take ps text ≡ true)
by_parts None text e = absurd (false≢true e)
by_parts (Some ps) text e = (ps, refl, e)

-- Whether the parts of the pattern take the text.
abbrev pub is_taken : List ℕ → List ℕ → Bool
is_taken pattern text = option_map_or (λ ps. parts_take ps text) (parts_from None pattern) false

pub decides : (pattern text : List ℕ) → Decides (is_taken pattern text) (Matches pattern text)
decides pattern text = (
  λ e. let p = by_parts (parts_from None pattern) text e in gives None pattern tt p.0 text p.1 p.2,
  λ m. let t = taken m in rw (t.are) (t.take_it),
)

by_answer : {P : Type 0} (answer : Bool) → Decides answer P → Dec P
by_answer true d = yes (d.0 refl)
by_answer false d = no (λ p. false≢true (d.1 p))

-- A text matches a pattern, or doesn't.
pub decision : (pattern text : List ℕ) → Dec (Matches pattern text)
decision pattern text = by_answer (is_taken pattern text) (decides pattern text)
