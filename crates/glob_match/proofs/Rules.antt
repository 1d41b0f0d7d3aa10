-- What each rule of the relation says, read backwards: by the pattern's first element.
use Rattle.std.proofs.Common.{◌≡◌, ◌≢◌, ◌<◌, refl, sym, subst, ◌∙◌, ℕ, suc, List, [], ◌∷◌, ◌++◌}
use Rattle.std.proofs.Common.{length, length-append, take, drop, Contains, Bor, arith}
use Rattle.std.proofs.lemmas.List.{take-append-drop}
use Rattle.std.proofs.Math.Seq.{drop-append_seam}
use Rattle.std.proofs.lemmas.List.Elements.{Contains-append_right}
use Rattle.glob_pattern.specs.Pattern.{Matches, Has, star, question, bracket, closing, empty, run}
use Rattle.glob_pattern.specs.Pattern.{any, set, itself}
use Rattle.glob_match.specs.Front.{Closes, IsFirst, IsMet, IsRun, IsTaken}
use Rattle.glob_match.specs.declared.element.Element.{Element}
use Rattle.glob_match.specs.declared.element.Element.TheVariants.{Run, Any, Set, Byte}

-- The first byte of a pattern matches one byte of the text, and what follows the rest of it.
data MatchesOne (first : ℕ) (pattern : List ℕ) (byte : ℕ) (text : List ℕ) : Type 0 where
  one_any : first ≡ question → Matches pattern text → MatchesOne first pattern byte text
  one_set : (inside after : List ℕ) → first ≡ bracket → pattern ≡ inside ++ closing ∷ after
      → ¬ Contains inside closing → Has inside byte → Matches after text
      → MatchesOne first pattern byte text
  one_itself : byte ≡ first → first ≢ star → first ≢ question → first ≢ bracket
      → Matches pattern text → MatchesOne first pattern byte text

-- The first byte of a pattern matches a run, or one byte.
data ByFirst (first : ℕ) (pattern text : List ℕ) : Type 0 where
  by_run : (skipped rest : List ℕ) → first ≡ star → text ≡ skipped ++ rest → Matches pattern rest
      → ByFirst first pattern text
  by_one : (byte : ℕ) (rest : List ℕ) → text ≡ byte ∷ rest → MatchesOne first pattern byte rest
      → ByFirst first pattern text

abbrev Read : List ℕ → List ℕ → Type 0
Read [] text = text ≡ []
Read (first ∷ pattern) text = ByFirst first pattern text

read : {pattern text : List ℕ} → Matches pattern text → Read pattern text
read empty = refl
read (run skipped m) = by_run skipped _ refl refl m
read (any byte m) = by_one byte _ refl (one_any refl m)
read (set inside byte lacks has m) = by_one byte _ refl (one_set inside _ refl refl lacks has m)
read (itself byte a b c m) = by_one byte _ refl (one_itself refl a b c m)

-- The empty pattern matches only the empty text.
pub of_empty : (text : List ℕ) → Matches [] text → text ≡ []
of_empty text m = read m

head_same : {x y : ℕ} {xs ys : List ℕ} → x ∷ xs ≡ y ∷ ys → x ≡ y
head_same e = cc

tail_same : {x y : ℕ} {xs ys : List ℕ} → x ∷ xs ≡ y ∷ ys → xs ≡ ys
tail_same e = cc

not_first : (x : ℕ) (xs : List ℕ) → ¬ Contains (x ∷ xs) closing → x ≡ closing → ⊥
not_first x xs lacks e = lacks (0, omega arith, e)

not_later : (x : ℕ) (xs : List ℕ) → ¬ Contains (x ∷ xs) closing → ¬ Contains xs closing
not_later x xs lacks h = lacks (suc h.0, omega (arith, h.1), h.2)

-- A list's first closing bracket is in one place.
closes_once : (inside after inside' after' : List ℕ)
    → inside ++ closing ∷ after ≡ inside' ++ closing ∷ after' → ¬ Contains inside closing
    → ¬ Contains inside' closing → (inside ≡ inside') × (after ≡ after')
closes_once [] after [] after' e lacks lacks' = (refl, tail_same e)
closes_once [] after (y ∷ inside') after' e lacks lacks' =
    absurd (not_first y inside' lacks' (sym (head_same e)))
closes_once (x ∷ inside) after [] after' e lacks lacks' =
    absurd (not_first x inside lacks (head_same e))
closes_once (x ∷ inside) after (y ∷ inside') after' e lacks lacks' =
    let same : (inside ≡ inside') × (after ≡ after')
    = closes_once inside after inside' after' (tail_same e) (not_later x inside lacks)
    (not_later y inside' lacks') in
    let heads : x ≡ y = head_same e in
    (cc, same.1)

contains_closing : (inside after : List ℕ) → Contains (inside ++ closing ∷ after) closing
contains_closing inside after =
    Contains-append_right inside (closing ∷ after) closing (0, omega arith, refl)

-- A pattern that begins with a set that isn't closed matches nothing.
unclosed_one : (first byte : ℕ) (bytes rest : List ℕ) → first ≡ bracket → ¬ Contains bytes closing
    → MatchesOne first bytes byte rest → ⊥
unclosed_one first byte bytes rest e lacks (one_any is m) = absurd (omega arith)
unclosed_one first byte bytes rest e lacks (one_set inside after is parts closed has m) =
    lacks (rw parts (contains_closing inside after))
unclosed_one first byte bytes rest e lacks (one_itself is a b c m) = c e

unclosed_first : (first : ℕ) (bytes text : List ℕ) → first ≡ bracket → ¬ Contains bytes closing
    → ByFirst first bytes text → ⊥
unclosed_first first bytes text e lacks (by_run skipped rest is parts m) = absurd (omega arith)
unclosed_first first bytes text e lacks (by_one byte rest parts m) =
    unclosed_one first byte bytes rest e lacks m

pub unclosed : (bytes text : List ℕ) → ¬ Contains bytes closing → ¬ Matches (bracket ∷ bytes) text
unclosed bytes text lacks m = unclosed_first bracket bytes text refl lacks (read m)

-- A run before a pattern.
run_ends : (first : ℕ) (after text : List ℕ) → first ≡ star → ByFirst first after text
    → (skipped : ℕ) × Matches after (drop skipped text)
run_ends first after text e (by_run skipped rest is parts m) =
    (length skipped, rw (parts, drop-append_seam skipped rest) m)
run_ends first after text e (by_one byte rest parts (one_any is m)) = absurd (omega arith)
run_ends first after text e (by_one byte rest parts (one_set inside later is split closed has m)) =
    absurd (omega arith)
run_ends first after text e (by_one byte rest parts (one_itself is a b c m)) = absurd (a e)

is_run_after : (after : List ℕ) → IsRun (star ∷ after) after
is_run_after after = record {
  shorter = omega arith;
  ends
      = λ text. (
        λ m. run_ends star after text refl (read m),
        λ h. rw (← take-append-drop h.0 text) (run (take h.0 text) h.1),
      );
}

pub is_run : (pattern after : List ℕ) (element : Element) → element ≡ Run
    → IsFirst pattern element after → IsRun pattern after
is_run pattern after element e is =
    let parts : pattern ≡ star ∷ after = rw e at is in
    rw parts (is_run_after after)

-- What a match of a pattern says whose first element is of one byte.
pub record Meets (element : Element) (after text : List ℕ) : Type 0 where
  pub byte : ℕ
  pub rest : List ℕ
  pub parts : text ≡ byte ∷ rest
  pub is_met : IsMet element byte
  pub goes_on : Matches after rest

any_meets : (first : ℕ) (after text : List ℕ) → first ≡ question → ByFirst first after text
    → Meets Any after text
any_meets first after text e (by_run skipped rest is parts m) = absurd (omega arith)
any_meets first after text e (by_one byte rest parts (one_any is m)) =
    record { byte = byte; rest = rest; parts = parts; is_met = tt; goes_on = m }
any_meets first after text e (by_one byte rest parts (one_set inside later is split closed has m)) =
    absurd (omega arith)
any_meets first after text e (by_one byte rest parts (one_itself is a b c m)) = absurd (b e)

byte_meets : (first : ℕ) (after text : List ℕ) → first ≢ star → first ≢ question → first ≢ bracket
    → ByFirst first after text → Meets (Byte first) after text
byte_meets first after text x y z (by_run skipped rest is parts m) = absurd (x is)
byte_meets first after text x y z (by_one byte rest parts (one_any is m)) = absurd (y is)
byte_meets first after text x y z
    (by_one byte rest parts (one_set inside later is split closed has m))
    =
    absurd (z is)
byte_meets first after text x y z (by_one byte rest parts (one_itself is a b c m)) =
    record { byte = byte; rest = rest; parts = parts; is_met = is; goes_on = m }

set_meets : (first : ℕ) (bytes after text : List ℕ) (inside : Bor (List ℕ)) → first ≡ bracket
    → Closes bytes inside.now after → ByFirst first bytes text → Meets (Set inside) after text
set_meets first bytes after text inside e closes (by_run skipped rest is parts m) =
    absurd (omega arith)
set_meets first bytes after text inside e closes (by_one byte rest parts (one_any is m)) =
    absurd (omega arith)
set_meets first bytes after text inside e closes
    (by_one byte rest parts (one_set inside' later is split closed has m))
    =
    let same : (inside' ≡ inside.now) × (later ≡ after)
    = closes_once inside' later inside.now after (sym split ∙ closes.parts) closed closes.first
    in
    record {
      byte = byte;
      rest = rest;
      parts = parts;
      is_met = rw (same.0) at has;
      goes_on = rw (same.1) at m;
    }
set_meets first bytes after text inside e closes (by_one byte rest parts (one_itself is a b c m)) =
    absurd (c e)

pub meets : (pattern after text : List ℕ) (element : Element) → IsFirst pattern element after
    → element ≢ Run → Matches pattern text → Meets element after text
meets pattern after text Run is one m = absurd (one refl)
meets pattern after text Any is one m =
    any_meets question after text refl (read (subst (λ p. Matches p text) is m))
meets pattern after text (Set inside) is one m =
    set_meets bracket is.0 after text inside refl is.2 (read (subst (λ p. Matches p text) is.1 m))
meets pattern after text (Byte byte) is one m =
    byte_meets byte after text is.1 is.2 is.3 (read (subst (λ p. Matches p text) is.0 m))

-- A match of a pattern whose first element is of one byte, made of a match of what follows.
pub goes_back : (pattern after rest : List ℕ) (element : Element) (byte : ℕ)
    → IsFirst pattern element after → IsMet element byte → Matches after rest
    → Matches pattern (byte ∷ rest)
goes_back pattern after rest Run byte is met m = absurd met
goes_back pattern after rest Any byte is met m = rw is (any byte m)
goes_back pattern after rest (Set inside) byte is met m =
    let closed : is.0 ≡ inside.now ++ closing ∷ after = is.2.parts in
    rw (is.1, closed) (set inside.now byte is.2.first met m)
goes_back pattern after rest (Byte own) byte is met m =
    rw (is.0, ← met)
    (itself byte (λ h. is.1 (sym met ∙ h)) (λ h. is.2 (sym met ∙ h)) (λ h. is.3 (sym met ∙ h))
    m)

first_shorter : (pattern after : List ℕ) (element : Element) → IsFirst pattern element after
    → length after < length pattern
first_shorter pattern after Run is = rw is (omega arith)
first_shorter pattern after Any is = rw is (omega arith)
first_shorter pattern after (Set inside) is =
    let closed : is.0 ≡ inside.now ++ closing ∷ after = is.2.parts in
    rw (is.1, closed) (omega (arith, length-append inside.now (closing ∷ after)))
first_shorter pattern after (Byte byte) is = rw (is.0) (omega arith)

pub is_taken : (pattern after text rest : List ℕ) (element : Element) (byte : ℕ)
    → IsFirst pattern element after → element ≢ Run → text ≡ byte ∷ rest → IsMet element byte
    → IsTaken pattern text after rest
is_taken pattern after text rest element byte is one parts met = record {
  shorter = first_shorter pattern after element is;
  rest_is = rw parts refl;
  rest_shorter = rw parts (omega arith);
  back = λ m. rw parts (goes_back pattern after rest element byte is met m);
  takes_one
      = λ other m. let x
      = meets pattern after other element is one m in rw (x.parts) x.goes_on;
}

pub none_at_end : (pattern after text : List ℕ) (element : Element) → IsFirst pattern element after
    → element ≢ Run → text ≡ [] → Matches pattern text → ⊥
none_at_end pattern after text element is one ends m =
    let x = meets pattern after text element is one m in
    let clash : [] ≡ x.byte ∷ x.rest = sym ends ∙ x.parts in
    cc

pub not_met : (pattern after text rest : List ℕ) (element : Element) (byte : ℕ)
    → IsFirst pattern element after → element ≢ Run → text ≡ byte ∷ rest → (IsMet element byte → ⊥)
    → Matches pattern text → ⊥
not_met pattern after text rest element byte is one parts unmet m =
    let x = meets pattern after text element is one m in
    let same : byte ∷ rest ≡ x.byte ∷ x.rest = sym parts ∙ x.parts in
    unmet (rw (head_same same) x.is_met)
