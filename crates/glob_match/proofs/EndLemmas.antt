-- Which ends of a text match a pattern that is read from its last byte to its first.
use Rattle.std.proofs.Common.{◌≡◌, ◌≢◌, ◌↔◌, refl, sym, ap, subst, ◌∙◌, ⊎_elim, ℕ, suc, ◌+◌, ◌-◌}
use Rattle.std.proofs.Common.{◌*◌, ◌/◌, ◌<◌, ◌≤◌, Bool, true, false, not, ◌&&◌, ◌||◌, ◌==◌, nat_le}
use Rattle.std.proofs.Common.{List, [], ◌∷◌, ◌++◌, length, take, drop, slice_index, Option, Some}
use Rattle.std.proofs.Common.{None, IsTrue, arith, length-append}
use Rattle.std.specs.List.{AllByRecursion}
use Rattle.std.specs.Option.{option_map, option_map_or}
use Rattle.std.proofs.lemmas.Bool.{and_left, and_right, and_from, or_from, le-leb, lt-leb, eq-eqb}
use Rattle.std.proofs.lemmas.Bool.{ne_eqb, cases_lt}
use Rattle.std.proofs.lemmas.List.{append-nil, drop_at, drop_more, drop_all, drop-append-le}
use Rattle.std.proofs.lemmas.List.{take-append-le, take_all, get_or-take, get_or-drop, length-drop}
use Rattle.std.proofs.lemmas.List.{length-take, take_at}
use Rattle.glob_pattern.specs.Pattern.{Matches, star, question, bracket, closing, bang, dash}
use Rattle.glob_pattern.specs.Parts.{Part, parts_from, parts_take, some_end, is_listed, is_in_set}
use Rattle.glob_pattern.specs.Parts.Part.{Many, One}
use Rattle.glob_pattern.proofs.DecisionLemmas.{is_taken, decides, not_same}
use Rattle.glob_match.specs.Words.{HasBits, HasPlaces, is_between}
use Rattle.glob_match.specs.Progress.{Stands, reaches}
use Rattle.glob_match.specs.Ends.{take_end, is_end, part, IsEnd}
use Rattle.glob_match.specs.declared.ends.End.{End}
use Rattle.glob_match.specs.declared.place.Place.TheVariants.{Outside}
use Rattle.glob_match.proofs.ReadLemmas.{IsRead, run_step, same_between}
use Rattle.glob_match.proofs.RunLemmas.{all_more, low_first, part_more, take_first}
use Rattle.glob_match.proofs.ReachLemmas.{taken_after}

-- ---- a pattern that was read, and what follows it

pub matches_with : (text pattern more : List ℕ) (first : ℕ) (reached listed : List ℕ)
    (answer : Bool)
    → Stands text pattern Outside first reached listed
    → ((test : ℕ → Bool) → HasPlaces first reached test
    → (IsTrue answer ↔ ((n : ℕ) × (test n ≡ true) × (is_end more text n ≡ true))))
    → (IsTrue answer ↔ Matches (pattern ++ more) text)
matches_with text pattern more first reached listed answer s meets =
    let is = meets (reaches s.parts text) s.places in
    let read = subst (IsRead pattern s.parts) s.set s.read more in
    let same : is_taken (pattern ++ more) text
    ≡ option_map_or (λ qs. parts_take qs text)
    (option_map (λ qs. s.parts ++ qs) (parts_from None more)) false
    = ap (λ o. option_map_or (λ qs. parts_take qs text) o false) read in
    let after = taken_after s.parts (parts_from None more) text in
    let d = decides (pattern ++ more) text in
    (λ e. d.0 (same ∙ after.1 (is.0 e)), λ m. is.1 (after.0 (sym same ∙ d.1 m)))

pub end_past : (pattern text : List ℕ) (t : ℕ) → length text < t → is_end pattern text t ≡ false
end_past pattern text t lt = and_left (nat_le t (length text)) _ (lt-leb t (length text) lt)

-- ---- one part before others

same_drop : (text : List ℕ) (t : ℕ) → t < length text
    → drop t text ≡ slice_index text t ∷ drop (suc t) text
same_drop text t lt =
    let one : t + 1 ≡ suc t
    = omega arith in drop_more text t 0 lt ∙ ap (λ n. slice_index text t ∷ drop n text) one

no_parts : (text : List ℕ) (t : ℕ) → take_end None text t ≡ false
no_parts text t = and_right (nat_le t (length text)) false refl

pub one_before : (test : ℕ → Bool) (o : Option (List Part)) (text : List ℕ) (t : ℕ)
    → take_end (option_map (λ ps. One test ∷ ps) o) text t
    ≡ (take_end o text (suc t) && test (slice_index text t))
one_before test None text t =
    no_parts text t
    ∙ sym (and_left (take_end None text (suc t)) (test (slice_index text t))
    (no_parts text (suc t)))
one_before test (Some ps) text t =
    ⊎_elim
    (λ lt.
    (λ i. le-leb t (length text) (omega (arith, lt)) i
    && parts_take (One test ∷ ps) (same_drop text t lt i))
    ∙ swapped (test (slice_index text t)) (parts_take ps (drop (suc t) text))
    ∙ ap (λ b. (b && parts_take ps (drop (suc t) text)) && test (slice_index text t))
    (sym (le-leb (suc t) (length text) lt)))
    (λ past.
    and_right (nat_le t (length text)) _ (ap (parts_take (One test ∷ ps)) (drop_all t text past))
    ∙ sym (and_left (take_end (Some ps) text (suc t)) (test (slice_index text t))
    (and_left (nat_le (suc t) (length text)) _
    (lt-leb (suc t) (length text) (omega (arith, past))))))
    (cases_lt t (length text))
  where
    swapped : (a b : Bool) → (true && (a && b)) ≡ ((true && b) && a)
    swapped true true = refl
    swapped true false = refl
    swapped false true = refl
    swapped false false = refl

pub many_before : (o : Option (List Part)) (text : List ℕ) (t : ℕ)
    → take_end (option_map (λ ps. Many ∷ ps) o) text t
    ≡ (take_end o text t || take_end (option_map (λ ps. Many ∷ ps) o) text (suc t))
many_before None text t =
    no_parts text t
    ∙ sym (or_from (take_end None text t) (take_end None text (suc t)) (no_parts text t)
    (no_parts text (suc t)))
many_before (Some ps) text t =
    ⊎_elim
    (λ lt.
    let here = le-leb t (length text) (omega (arith, lt)) in
    let next = le-leb (suc t) (length text) lt in
    let rest = drop (suc t) text in
    (λ i. here i && some_end (parts_take ps) (same_drop text t lt i))
    ∙ ap (λ xs. parts_take ps xs || some_end (parts_take ps) rest) (sym (same_drop text t lt))
    ∙ (λ i. (sym here i && parts_take ps (drop t text))
    || (sym next i && some_end (parts_take ps) rest)))
    (λ ge.
    let out
    = and_left (nat_le (suc t) (length text)) (some_end (parts_take ps) (drop (suc t) text))
    (lt-leb (suc t) (length text) (omega (arith, ge))) in
    let empty = drop_all t text ge in
    ap (λ xs. nat_le t (length text) && some_end (parts_take ps) xs) empty
    ∙ ap (λ xs. nat_le t (length text) && parts_take ps xs) (sym empty)
    ∙ sym (or_false (take_end (Some ps) text t))
    ∙ ap (λ b. take_end (Some ps) text t || b) (sym out))
    (cases_lt t (length text))
  where
    or_false : (a : Bool) → (a || false) ≡ a
    or_false true = refl
    or_false false = refl

pub empty_end : (text : List ℕ) (t : ℕ) → take_end (Some []) text t ≡ (t == length text)
empty_end text t =
    ⊎_elim
    (λ lt. and_right (nat_le t (length text)) _
    (ne_eqb (length (drop t text)) 0 (λ e. omega (arith, e, length-drop t text, lt)))
    ∙ sym (ne_eqb t (length text) (λ e. omega (arith, e, lt))))
    (λ ge.
    ⊎_elim
    (λ past. and_left (nat_le t (length text)) _ (lt-leb t (length text) past)
    ∙ sym (ne_eqb t (length text) (λ e. omega (arith, e, past))))
    (λ le.
    and_from (nat_le t (length text)) _ (le-leb t (length text) le)
    (eq-eqb (length (drop t text)) 0 (omega (arith, length-drop t text, ge)))
    ∙ sym (eq-eqb t (length text) (omega (arith, le, ge))))
    (cases_lt (length text) t))
    (cases_lt t (length text))

-- ---- one byte before a pattern

pub star_before : (pattern text : List ℕ) (t : ℕ)
    → is_end (star ∷ pattern) text t
    ≡ (is_end pattern text t || is_end (star ∷ pattern) text (suc t))
star_before pattern text t = many_before (parts_from None pattern) text t

pub question_before : (pattern text : List ℕ) (t : ℕ)
    → is_end (question ∷ pattern) text t ≡ is_end pattern text (suc t)
question_before pattern text t =
    one_before (λ b. true) (parts_from None pattern) text t ∙ and_true (is_end pattern text (suc t))
  where
    and_true : (a : Bool) → (a && true) ≡ a
    and_true true = refl
    and_true false = refl

pub byte_before : (byte : ℕ) (pattern text : List ℕ) (t : ℕ) → byte ≢ star → byte ≢ question
    → byte ≢ bracket
    → is_end (byte ∷ pattern) text t
    ≡ (is_end pattern text (suc t) && is_between byte byte (slice_index text t))
byte_before byte pattern text t a b c =
    rw (not_same byte star a, not_same byte question b, not_same byte bracket c)
    (one_before (λ x. x == byte) (parts_from None pattern) text t)
    ∙ ap (λ x. is_end pattern text (suc t) && x) (sym (same_between byte (slice_index text t)))

-- ---- parts of a file

pub part_first : (file : List ℕ) (at to : ℕ) → at < to → at < length file
    → part file at to ≡ slice_index file at ∷ part file (at + 1) to
part_first file at to lt within =
    let size : to - at ≡ suc (to - (at + 1)) = omega (arith, lt) in
    ap (λ n. take n (drop at file)) size ∙ take_first file at (at + 1) (to - (at + 1)) refl within

pub part_none : (file : List ℕ) (at : ℕ) → part file at at ≡ []
part_none file at = let none : at - at ≡ 0 = omega arith in ap (λ n. take n (drop at file)) none

part_index : (file : List ℕ) (at to k : ℕ) → k < to - at
    → slice_index (part file at to) k ≡ slice_index file (at + k)
part_index file at to k lt = get_or-take (to - at) (drop at file) k 0 lt ∙ get_or-drop at file k 0

length-part : (file : List ℕ) (at to : ℕ) → length (part file at to) ≤ to - at
length-part file at to = omega (arith, length-take (to - at) (drop at file))

-- ---- the items of a set

or_turned : (a b : Bool) → (a || b) ≡ (b || a)
or_turned true true = refl
or_turned true false = refl
or_turned false true = refl
or_turned false false = refl

low_last : (low : ℕ) (items : List ℕ) (x : ℕ) → length items ≤ 1
    → is_listed (low ∷ items) x ≡ ((x == low) || is_listed items x)
low_last low [] x few = refl
low_last low (y ∷ []) x few = refl
low_last low (y ∷ z ∷ items) x few = absurd (omega (arith, few))

pub lists_byte : (file : List ℕ) (at close x : ℕ) → at < close → close < length file
    → (at + 2 < close → slice_index file (at + 1) ≢ dash)
    → is_listed (part file at close) x
    ≡ (is_listed (part file (at + 1) close) x
    || is_between (slice_index file at) (slice_index file at) x)
lists_byte file at close x lt within other =
    let low = slice_index file at in
    let rest = part file (at + 1) close in
    ap (λ items. is_listed items x) (part_first file at close lt (omega (arith, lt, within)))
    ∙ ⊎_elim
    (λ more. low_first low rest x (λ e. other more (sym (next more) ∙ e)))
    (λ few. low_last low rest x (omega (arith, few, length-part file (at + 1) close)))
    (cases_lt (at + 2) close)
    ∙ or_turned (x == low) (is_listed rest x)
    ∙ ap (λ b. is_listed rest x || b) (sym (same_between low x))
  where
    next : at + 2 < close → slice_index (part file (at + 1) close) 0 ≡ slice_index file (at + 1)
    next more
        = let here : at + 1 + 0 ≡ at + 1
        = omega arith in part_index file (at + 1) close 0 (omega (arith, more))
        ∙ ap (slice_index file) here

pub lists_range : (file : List ℕ) (at close x : ℕ) → at + 2 < close → close < length file
    → slice_index file (at + 1) ≡ dash
    → is_listed (part file at close) x
    ≡ (is_listed (part file (at + 3) close) x
    || is_between (slice_index file at) (slice_index file (at + 2)) x)
lists_range file at close x lt within middle =
    let low = slice_index file at in
    let high = slice_index file (at + 2) in
    let rest = part file (at + 3) close in
    let two : at + 1 + 1 ≡ at + 2 = omega arith in
    let three : at + 2 + 1 ≡ at + 3 = omega arith in
    let items : part file at close ≡ low ∷ dash ∷ high ∷ rest =
    part_first file at close (omega (arith, lt)) (omega (arith, lt, within))
    ∙ ap (λ xs. low ∷ xs)
    (part_first file (at + 1) close (omega (arith, lt)) (omega (arith, lt, within)))
    ∙ (λ i. low ∷ middle i ∷ part file (two i) close)
    ∙ ap (λ xs. low ∷ dash ∷ xs) (part_first file (at + 2) close lt (omega (arith, lt, within)))
    ∙ ap (λ n. low ∷ dash ∷ high ∷ part file n close) three in
    ap (λ xs. is_listed xs x) items ∙ or_turned (is_between low high x) (is_listed rest x)

-- ---- a set before a pattern

module _ (file : List ℕ) (at close to : ℕ) (low : at + 1 ≤ close)
    (is_bracket : slice_index file at ≡ bracket)
    (items : (k : ℕ) → at + 1 ≤ k → k < close → slice_index file k ≢ closing) where
  inside_open : (k : ℕ) → k < length (part file (at + 1) close)
      → slice_index (part file (at + 1) close) k ≢ closing
  inside_open k lt =
      let size : k < close - (at + 1) = omega (arith, lt, length-part file (at + 1) close) in
      λ e. items (at + 1 + k) (omega arith) (omega (arith, size))
      (sym (part_index file (at + 1) close k size) ∙ e)

  set_parts : close < to → to ≤ length file → slice_index file close ≡ closing
      → parts_from None (part file at to)
      ≡ option_map (λ ps. One (is_in_set (part file (at + 1) close)) ∷ ps)
      (parts_from None (part file (close + 1) to))
  set_parts lt within closed =
      let inside = part file (at + 1) close in
      let after = part file (close + 1) to in
      let rest : part file (at + 1) to ≡ inside ++ closing ∷ after =
      part_more file (at + 1) close to low (omega (arith, lt))
      ∙ ap (λ xs. inside ++ xs)
      (part_first file close to lt (omega (arith, lt, within)) ∙ ap (λ b. b ∷ after) closed) in
      ap (parts_from None)
      (part_first file at to (omega (arith, low, lt)) (omega (arith, low, lt, within))
      ∙ (λ i. is_bracket i ∷ rest i))
      ∙ run_step [] inside (closing ∷ after) inside_open

  pub set_before : close < to → to ≤ length file → slice_index file close ≡ closing
      → (text : List ℕ) (t : ℕ)
      → is_end (part file at to) text t
      ≡ (is_end (part file (close + 1) to) text (suc t)
      && is_in_set (part file (at + 1) close) (slice_index text t))
  set_before lt within closed text t =
      ap (λ o. take_end o text t) (set_parts lt within closed)
      ∙ one_before (is_in_set (part file (at + 1) close))
      (parts_from None (part file (close + 1) to)) text t

  pub never_closed : close ≡ to → at < length file → (text : List ℕ) (t : ℕ)
      → is_end (part file at to) text t ≡ false
  never_closed same within text t =
      let inside = part file (at + 1) close in
      let all : part file at to ≡ bracket ∷ inside
      = part_first file at to (omega (arith, low, same)) within
      ∙ (λ i. is_bracket i ∷ part file (at + 1) (sym same i)) in
      ap (λ o. take_end o text t)
      (ap (parts_from None) all ∙ ap (parts_from (Some [])) (sym (append-nil inside))
      ∙ run_step [] inside [] inside_open)
      ∙ no_parts text t

  -- What the set has, by its first item.
  pub has_others : at + 1 < close → close < length file → slice_index file (at + 1) ≡ bang → (x : ℕ)
      → is_in_set (part file (at + 1) close) x ≡ not (is_listed (part file (at + 2) close) x)
  has_others more within first x =
      let two : at + 1 + 1 ≡ at + 2 = omega arith in
      ap (λ xs. is_in_set xs x)
      (part_first file (at + 1) close more (omega (arith, more, within))
      ∙ (λ i. first i ∷ part file (two i) close))

  pub has_items : close < length file → (at + 1 < close → slice_index file (at + 1) ≢ bang)
      → (x : ℕ) → is_in_set (part file (at + 1) close) x ≡ is_listed (part file (at + 1) close) x
  has_items within other x =
      ⊎_elim
      (λ more.
      let first = slice_index file (at + 1) in
      let rest = part file (at + 1 + 1) close in
      let all = part_first file (at + 1) close more (omega (arith, more, within)) in
      ap (λ xs. is_in_set xs x) all ∙ no_bang first rest (other more)
      ∙ ap (λ xs. is_listed xs x) (sym all))
      (λ few.
      let none : at + 1 ≡ close = omega (arith, few, low) in
      let empty : part file (at + 1) close ≡ []
      = ap (λ n. part file n close) none ∙ part_none file close in
      ap (λ xs. is_in_set xs x) empty ∙ ap (λ xs. is_listed xs x) (sym empty))
      (cases_lt (at + 1) close)
    where
      no_bang : (first : ℕ) (rest : List ℕ) → first ≢ bang
          → is_in_set (first ∷ rest) x ≡ is_listed (first ∷ rest) x
      no_bang first rest e = rw (not_same first bang e) refl

-- ---- words of a vector

pub written : (test : ℕ → Bool) (new rest : List ℕ) (count : ℕ) → length new ≡ count
    → HasBits new test → HasBits (take count (new ++ rest)) test
written test new rest count size h =
    subst (λ ws. HasBits ws test) (sym (take_at new rest count size)) h

-- Where the text is no longer than the words.
pub no_end_past : (pattern text : List ℕ) (count : ℕ) → count ≡ length text / 64 + 1 → (n : ℕ)
    → 64 * count ≤ n → is_end pattern text n ≡ false
no_end_past pattern text count is n le = end_past pattern text n (omega (arith, is, le))

-- ---- the ends that are kept

all_kept : {X : Type 0} (P Q : X → Type 0) → ((x : X) → P x → Q x) → (xs : List X)
    → AllByRecursion P xs → AllByRecursion Q xs
all_kept P Q keep [] h = tt
all_kept P Q keep (x ∷ xs) h = (keep x h.0, all_kept P Q keep xs h.1)

more_words : (file text words new : List ℕ) (e : End) → IsEnd file text words e
    → IsEnd file text (words ++ new) e
more_words file text words new e is =
    let count = length text / 64 + 1 in
    let within = is.within in
    let same : take count (drop e.start (words ++ new)) ≡ take count (drop e.start words) =
    ap (take count) (drop-append-le e.start words new (omega (arith, within)))
    ∙ take-append-le count (drop e.start words) new
    (omega (arith, within, length-drop e.start words)) in
    record {
      within = omega (arith, within, length-append words new);
      bits = subst (λ ws. HasBits ws (is_end (part file e.at e.to) text)) (sym same) is.bits;
    }

last_words : (file text words new : List ℕ) (e : End) → e.start ≡ length words
    → length new ≡ length text / 64 + 1 → HasBits new (is_end (part file e.at e.to) text)
    → IsEnd file text (words ++ new) e
last_words file text words new e start size h =
    let same : take (length text / 64 + 1) (drop e.start (words ++ new)) ≡ new =
    ap (take (length text / 64 + 1)) (drop_at words new e.start (sym start))
    ∙ take_all (length text / 64 + 1) new (omega (arith, size)) in
    record {
      within = omega (arith, start, size, length-append words new);
      bits = subst (λ ws. HasBits ws (is_end (part file e.at e.to) text)) (sym same) h;
    }

pub one_more : (file text words new : List ℕ) (ends : List End) (e : End)
    → AllByRecursion (IsEnd file text words) ends → e.start ≡ length words
    → length new ≡ length text / 64 + 1 → HasBits new (is_end (part file e.at e.to) text)
    → AllByRecursion (IsEnd file text (words ++ new)) (ends ++ e ∷ [])
one_more file text words new ends e known start size h =
    all_more (IsEnd file text (words ++ new)) ends e
    (all_kept (IsEnd file text words) (IsEnd file text (words ++ new))
    (more_words file text words new) ends known)
    (last_words file text words new e start size h)
