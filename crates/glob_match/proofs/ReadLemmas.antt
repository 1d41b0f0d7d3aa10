-- A pattern that is read byte by byte.
use Rattle.std.proofs.Common.{◌≡◌, ◌≢◌, refl, sym, ap, subst, ◌∙◌, ℕ, zero, suc, ◌+◌, ◌*◌, ◌/◌, ◌%◌}
use Rattle.std.proofs.Common.{◌<◌, ◌≤◌, Bool, true, false, ◌&&◌, ◌||◌, ◌==◌, nat_le, List, [], ◌∷◌}
use Rattle.std.proofs.Common.{◌++◌, length, take, slice_index, Option, Some, None, append_assoc}
use Rattle.std.proofs.Common.{arith, ⊎_elim, ◌-◌}
use Rattle.std.specs.Option.{option_map, option_map_or}
use Rattle.std.specs.Bool.{Decides}
use Rattle.std.specs.Int.{bit_at}
use Rattle.std.proofs.lemmas.Bool.{false≢true, le-leb, lt-leb, and_right, cases_lt}
use Rattle.std.proofs.lemmas.Bool.Decides.{nat_tests}
use Rattle.std.proofs.lemmas.Nat.Bits.{bit_at-suc, bit_at-zero}
use Rattle.std.proofs.lemmas.List.{append-nil}
use Rattle.glob_pattern.specs.Pattern.{Matches, star, question, bracket, closing, bang, dash}
use Rattle.glob_pattern.specs.Parts.{Part, parts_from, parts_take, is_listed, is_in_set}
use Rattle.glob_pattern.specs.Parts.Part.{Many, One}
use Rattle.glob_match.specs.Words.{HasBits, HasPlaces, is_between, moved, any_up_to, bit}
use Rattle.glob_match.specs.Progress.{Stands, IsOpen, reaches, pending_items, flip}
use Rattle.glob_match.specs.declared.place.Place.{Place}
use Rattle.glob_match.specs.declared.place.Place.TheVariants.{Outside, Opened, Inside}
use Rattle.glob_match.specs.declared.place.Pending.{Pending}
use Rattle.glob_match.specs.declared.place.Pending.TheVariants.{Nothing, Low}
use Rattle.glob_pattern.proofs.DecisionLemmas.{is_taken, decides, not_same}
use Rattle.glob_match.proofs.WordLemmas.{bit_once}
use Rattle.glob_match.proofs.ReachLemmas.{reaches-one, reaches-run, reaches-twice, reaches-end}
use Rattle.glob_match.proofs.ReachLemmas.{reaches-none}

-- The pattern was read: these are its parts, and these the items of its open set.
abbrev pub IsRead : List ℕ → List Part → Option (List ℕ) → Type 0
IsRead pattern parts open_set =
    (rest : List ℕ)
    → parts_from None (pattern ++ rest)
    ≡ option_map (λ ps. parts ++ ps) (parts_from open_set rest)

map_map : (ps qs : List Part) (o : Option (List Part))
    → option_map (λ rs. ps ++ rs) (option_map (λ rs. qs ++ rs) o)
    ≡ option_map (λ rs. (ps ++ qs) ++ rs) o
map_map ps qs None = refl
map_map ps qs (Some rs) = ap Some (sym (append_assoc ps qs rs))

-- One byte more, by what it does wherever the pattern is.
read_part : (pattern : List ℕ) (parts qs : List Part) (at next : Option (List ℕ)) (byte : ℕ)
    → IsRead pattern parts at
    → ((rest : List ℕ)
    → parts_from at (byte ∷ rest) ≡ option_map (λ ps. qs ++ ps) (parts_from next rest))
    → IsRead (pattern ++ byte ∷ []) (parts ++ qs) next
read_part pattern parts qs at next byte read step rest =
    ap (parts_from None) (append_assoc pattern (byte ∷ []) rest)
    ∙ read (byte ∷ rest)
    ∙ ap (option_map (λ ps. parts ++ ps)) (step rest)
    ∙ map_map parts qs (parts_from next rest)

read_set : (pattern : List ℕ) (parts : List Part) (at next : Option (List ℕ)) (byte : ℕ)
    → IsRead pattern parts at
    → ((rest : List ℕ) → parts_from at (byte ∷ rest) ≡ parts_from next rest)
    → IsRead (pattern ++ byte ∷ []) parts next
read_set pattern parts at next byte read step rest =
    ap (parts_from None) (append_assoc pattern (byte ∷ []) rest)
    ∙ read (byte ∷ rest)
    ∙ ap (option_map (λ ps. parts ++ ps)) (step rest)

-- ---- places

pub same_bits : (words : List ℕ) (f g : ℕ → Bool) → ((n : ℕ) → f n ≡ g n) → HasBits words f
    → HasBits words g
same_bits words f g same h k i lt low = h k i lt low ∙ ap bit (same (64 * k + i))

same_places : (first : ℕ) (words : List ℕ) (f g : ℕ → Bool) → ((n : ℕ) → f n ≡ g n)
    → HasPlaces first words f → HasPlaces first words g
same_places first words f g same h = record {
  bits = same_bits words _ _ (λ n. same (first + n)) h.bits;
  before = λ n lt. sym (same n) ∙ h.before n lt;
  after = λ n le. sym (same n) ∙ h.after n le;
}

-- A byte that is listed was taken of the text.
abbrev pub Taken : (text : List ℕ) (first : ℕ) (reached : List ℕ) (next : ℕ) (new : List ℕ)
    → (ℕ → Bool) → Type 0
Taken text first reached next new list =
    (test : ℕ → Bool) → HasPlaces first reached test
    → HasPlaces next new (λ n. nat_le n (length text) && moved test list n)

-- The words have the places that are reached by one part more, of one byte.
one_places : (text : List ℕ) (parts : List Part) (test list : ℕ → Bool) (first : ℕ) (words : List ℕ)
    → ((n : ℕ) → list n ≡ test (slice_index text n))
    → HasPlaces first words (λ n. nat_le n (length text) && moved (reaches parts text) list n)
    → HasPlaces first words (reaches (parts ++ One test ∷ []) text)
one_places text parts test list first words same h =
    same_places first words _ _
    (λ n. ap (λ t. nat_le n (length text) && t) (moved_same n)
    ∙ sym (reaches-one test parts text n)) h
  where
    moved_same : (n : ℕ)
        → moved (reaches parts text) list n
        ≡ moved (reaches parts text) (λ m. test (slice_index text m)) n
    moved_same zero = refl
    moved_same (suc n) = ap (λ t. reaches parts text n && t) (same n)

-- ---- a byte outside of a set

module _ (text pattern : List ℕ) (first : ℕ) (reached listed : List ℕ)
    (s : Stands text pattern Outside first reached listed) where
  outside : IsRead pattern s.parts None
  outside = subst (IsRead pattern s.parts) s.set s.read

  pub star_read : (next : ℕ) (new others : List ℕ)
      → ((test : ℕ → Bool) → HasPlaces first reached test
      → HasPlaces next new (λ n. nat_le n (length text) && any_up_to test n))
      → Stands text (pattern ++ star ∷ []) Outside next new others
  star_read next new others more = record {
    parts = s.parts ++ Many ∷ [];
    open_set = None;
    read = read_part pattern s.parts (Many ∷ []) None None star outside (λ rest. refl);
    places
        = same_places next new _ _ (λ n. sym (reaches-run s.parts text n))
        (more (reaches s.parts text) s.places);
    set = refl;
  }

  -- So many `*` more change nothing.
  more_stars : (next : ℕ) (new others : List ℕ) (rest : List ℕ)
      → ((n : ℕ) → n < length rest → slice_index rest n ≡ star)
      → (read : List ℕ) (parts : List Part) → IsRead read (parts ++ Many ∷ []) None
      → HasPlaces next new (reaches (parts ++ Many ∷ []) text)
      → Stands text (read ++ rest) Outside next new others
  more_stars next new others [] stars read parts is places = record {
    parts = parts ++ Many ∷ [];
    open_set = None;
    read = subst (λ p. IsRead p (parts ++ Many ∷ []) None) (sym (append-nil read)) is;
    places = places;
    set = refl;
  }
  more_stars next new others (x ∷ rest) stars read parts is places =
      let first : x ≡ star = stars 0 (omega arith) in
      subst (λ p. Stands text p Outside next new others) (append_assoc read (x ∷ []) rest)
      (more_stars next new others rest (λ n lt. stars (suc n) (omega (arith, lt))) (read ++ x ∷ [])
      (parts ++ Many ∷ [])
      (subst (λ b. IsRead (read ++ b ∷ []) ((parts ++ Many ∷ []) ++ Many ∷ []) None) (sym first)
      (read_part read (parts ++ Many ∷ []) (Many ∷ []) None None star is (λ r. refl)))
      (same_places next new _ _ (λ n. sym (reaches-twice parts text n)) places))

  pub stars_read : (next : ℕ) (new others run : List ℕ) → 0 < length run
      → ((n : ℕ) → n < length run → slice_index run n ≡ star)
      → ((test : ℕ → Bool) → HasPlaces first reached test
      → HasPlaces next new (λ n. nat_le n (length text) && any_up_to test n))
      → Stands text (pattern ++ run) Outside next new others
  stars_read next new others [] some stars more = absurd (omega (arith, some))
  stars_read next new others (x ∷ rest) some stars more =
      let one : x ≡ star = stars 0 (omega arith) in
      subst (λ p. Stands text p Outside next new others) (append_assoc pattern (x ∷ []) rest)
      (more_stars next new others rest (λ n lt. stars (suc n) (omega (arith, lt)))
      (pattern ++ x ∷ []) s.parts
      (subst (λ b. IsRead (pattern ++ b ∷ []) (s.parts ++ Many ∷ []) None) (sym one)
      (read_part pattern s.parts (Many ∷ []) None None star outside (λ r. refl)))
      (same_places next new _ _ (λ n. sym (reaches-run s.parts text n))
      (more (reaches s.parts text) s.places)))

  pub bracket_read : (others : List ℕ)
      → Stands text (pattern ++ bracket ∷ []) Opened first reached others
  bracket_read others = record {
    parts = s.parts;
    open_set = Some [];
    read = read_set pattern s.parts None (Some []) bracket outside (λ rest. refl);
    places = s.places;
    set = refl;
  }

  one_read : (byte : ℕ) (test list : ℕ → Bool) (next : ℕ) (new others : List ℕ)
      → ((rest : List ℕ)
      → parts_from None (byte ∷ rest)
      ≡ option_map (λ ps. (One test ∷ []) ++ ps) (parts_from None rest))
      → ((n : ℕ) → list n ≡ test (slice_index text n)) → Taken text first reached next new list
      → Stands text (pattern ++ byte ∷ []) Outside next new others
  one_read byte test list next new others step same more = record {
    parts = s.parts ++ One test ∷ [];
    open_set = None;
    read = read_part pattern s.parts (One test ∷ []) None None byte outside step;
    places = one_places text s.parts test list next new same (more (reaches s.parts text) s.places);
    set = refl;
  }

  pub question_read : (list : ℕ → Bool) (next : ℕ) (new others : List ℕ) → ((n : ℕ) → list n ≡ true)
      → Taken text first reached next new list
      → Stands text (pattern ++ question ∷ []) Outside next new others
  question_read list next new others all more
      = one_read question (λ _. true) list next new others (λ rest. refl) all more

  pub byte_read : (byte : ℕ) (list : ℕ → Bool) (next : ℕ) (new others : List ℕ) → byte ≢ star
      → byte ≢ question → byte ≢ bracket → ((n : ℕ) → list n ≡ (slice_index text n == byte))
      → Taken text first reached next new list
      → Stands text (pattern ++ byte ∷ []) Outside next new others
  byte_read byte list next new others a b c same more =
      one_read byte (λ x. x == byte) list next new others
      (λ rest. rw (not_same byte star a, not_same byte question b, not_same byte bracket c)
      refl) same more

-- ---- a byte of a set

-- A set is closed, as a part of one byte.
set_closed : (text pattern : List ℕ) (first : ℕ) (reached : List ℕ) (parts : List Part)
    (open_set : Option (List ℕ)) (items : List ℕ) (list : ℕ → Bool) (next : ℕ)
    (new others : List ℕ)
    → IsRead pattern parts open_set → open_set ≡ Some items
    → HasPlaces first reached (reaches parts text)
    → ((n : ℕ) → list n ≡ is_in_set items (slice_index text n))
    → Taken text first reached next new list
    → Stands text (pattern ++ closing ∷ []) Outside next new others
set_closed text pattern first reached parts open_set items list next new others read is places same
    more
    =
    record {
      parts = parts ++ One (is_in_set items) ∷ [];
      open_set = None;
      read
          = read_part pattern parts (One (is_in_set items) ∷ []) (Some items) None closing
          (subst (IsRead pattern parts) is read) (λ rest. refl);
      places
          = one_places text parts (is_in_set items) list next new same
          (more (reaches parts text) places);
      set = refl;
    }

-- A byte more of a set that stays open.
item_step : (items : List ℕ) (byte : ℕ) → byte ≢ closing → (rest : List ℕ)
    → parts_from (Some items) (byte ∷ rest) ≡ parts_from (Some (items ++ byte ∷ [])) rest
item_step items byte other rest = rw (not_same byte closing other) refl

module _ (text pattern : List ℕ) (first : ℕ) (reached listed : List ℕ)
    (s : Stands text pattern Opened first reached listed) where
  opened : IsRead pattern s.parts (Some [])
  opened = subst (IsRead pattern s.parts) s.set s.read

  pub empty_set : (list : ℕ → Bool) (next : ℕ) (new others : List ℕ) → ((n : ℕ) → list n ≡ false)
      → Taken text first reached next new list
      → Stands text (pattern ++ closing ∷ []) Outside next new others
  empty_set list next new others none more
      = set_closed text pattern first reached s.parts s.open_set [] list next new others s.read
      s.set s.places none more

  pub bang_read : (others : List ℕ) → HasBits others (λ n. false)
      → Stands text (pattern ++ bang ∷ []) (Inside true Nothing) first reached others
  bang_read others none = record {
    parts = s.parts;
    open_set = Some (bang ∷ []);
    read = read_set pattern s.parts (Some []) (Some (bang ∷ [])) bang opened (λ rest. refl);
    places = s.places;
    set = (bang ∷ [], refl, record { test = λ _. false; tests = λ rest byte. refl; bits = none });
  }

  pub first_read : (low : ℕ) (others : List ℕ) → low ≢ closing → low ≢ bang
      → HasBits others (λ n. false)
      → Stands text (pattern ++ low ∷ []) (Inside false (Low low)) first reached others
  first_read low others a b none = record {
    parts = s.parts;
    open_set = Some (low ∷ []);
    read = read_set pattern s.parts (Some []) (Some (low ∷ [])) low opened (item_step [] low a);
    places = s.places;
    set
        = (
          low ∷ [],
          refl,
          record {
            test = λ _. false;
            tests = λ rest byte. rw (not_same low bang b) refl;
            bits = none;
          },
        );
  }

-- Bytes more of a set that stays open.
pub run_step : (items run rest : List ℕ) → ((k : ℕ) → k < length run → slice_index run k ≢ closing)
    → parts_from (Some items) (run ++ rest) ≡ parts_from (Some (items ++ run)) rest
run_step items [] rest inside = ap (λ xs. parts_from (Some xs) rest) (sym (append-nil items))
run_step items (x ∷ run) rest inside =
    item_step items x (inside 0 (omega arith)) (run ++ rest)
    ∙ run_step (items ++ x ∷ []) run rest (λ k lt. inside (suc k) (omega (arith, lt)))
    ∙ ap (λ xs. parts_from (Some xs) rest) (append_assoc items (x ∷ []) run)

module _ (text pattern : List ℕ) (first : ℕ) (reached listed : List ℕ) (negated : Bool)
    (pending : Pending) (s : Stands text pattern (Inside negated pending) first reached listed)
  where
    pub run_read : (run : List ℕ) (next : Pending) (others : List ℕ)
        → ((k : ℕ) → k < length run → slice_index run k ≢ closing)
        → ((items : List ℕ) → IsOpen text negated first (pending_items pending) items listed
        → IsOpen text negated first (pending_items next) (items ++ run) others)
        → Stands text (pattern ++ run) (Inside negated next) first reached others
    run_read run next others inside more =
        let items = s.set.0 in
        record {
          parts = s.parts;
          open_set = Some (items ++ run);
          read = λ rest.
              ap (parts_from None) (append_assoc pattern run rest)
              ∙ subst (IsRead pattern s.parts) s.set.1 s.read (run ++ rest)
              ∙ ap (option_map (λ ps. s.parts ++ ps)) (run_step items run rest inside);
          places = s.places;
          set = (items ++ run, refl, more items s.set.2);
        }

    pub items_read : (byte : ℕ) (next : Pending) (others : List ℕ) → byte ≢ closing
        → ((items : List ℕ) → IsOpen text negated first (pending_items pending) items listed
        → IsOpen text negated first (pending_items next) (items ++ byte ∷ []) others)
        → Stands text (pattern ++ byte ∷ []) (Inside negated next) first reached others
    items_read byte next others other more =
        let items = s.set.0 in
        record {
          parts = s.parts;
          open_set = Some (items ++ byte ∷ []);
          read
              = read_set pattern s.parts (Some items) (Some (items ++ byte ∷ [])) byte
              (subst (IsRead pattern s.parts) s.set.1 s.read) (item_step items byte other);
          places = s.places;
          set = (items ++ byte ∷ [], refl, more items s.set.2);
        }

    pub set_read : (bytes : List ℕ) (next : ℕ) (new others : List ℕ)
        → ((n : ℕ) → slice_index bytes n ≡ slice_index text n)
        → ((list : ℕ → Bool) → HasBits listed (λ n. list (first + n))
        → Taken text first reached next new
        (λ m. flip negated
        (list m || is_listed (pending_items pending) (slice_index bytes m))))
        → Stands text (pattern ++ closing ∷ []) Outside next new others
    set_read bytes next new others same more =
        let o = s.set.2 in
        set_closed text pattern first reached s.parts s.open_set s.set.0
        (λ m. flip negated
        (o.test (slice_index text m)
        || is_listed (pending_items pending) (slice_index bytes m))) next new others
        s.read s.set.1 s.places
        (λ n.
        ap (λ x. flip negated (o.test (slice_index text n) || is_listed (pending_items pending) x))
        (same n)
        ∙ ap (λ xs. flip negated (o.test (slice_index text n) || is_listed xs (slice_index text n)))
        (sym (append-nil (pending_items pending)))
        ∙ sym (o.tests [] (slice_index text n))
        ∙ ap (λ xs. is_in_set xs (slice_index text n)) (append-nil s.set.0))
        (more (λ m. o.test (slice_index text m)) o.bits)

-- ---- the items of a set

pub same_between : (a byte : ℕ) → is_between a a byte ≡ (byte == a)
same_between a byte = grind (arith, nat_tests)

pub listed_low : (low byte : ℕ) (rest : List ℕ) (x : ℕ) → byte ≢ dash
    → is_listed (low ∷ byte ∷ rest) x ≡ ((x == low) || is_listed (byte ∷ rest) x)
listed_low low byte [] x other = refl
listed_low low byte (y ∷ rest) x other = rw (not_same byte dash other) refl

module _ (text bytes : List ℕ) (same : (n : ℕ) → slice_index bytes n ≡ slice_index text n)
    (negated : Bool) (first : ℕ) (items listed : List ℕ) where
  -- A byte that begins an item, or may end a range.
  pub pend : (byte : ℕ) (before after : List ℕ) → after ≡ before ++ byte ∷ []
      → IsOpen text negated first before items listed
      → IsOpen text negated first after (items ++ byte ∷ []) listed
  pend byte before after is o = record {
    test = o.test;
    tests = λ rest x.
        ap (λ xs. is_in_set xs x) (append_assoc items (byte ∷ []) rest)
        ∙ o.tests (byte ∷ rest) x
        ∙ ap (λ xs. flip negated (o.test x || is_listed xs x))
        (sym (ap (λ xs. xs ++ rest) is ∙ append_assoc before (byte ∷ []) rest));
    bits = o.bits;
  }

  -- An item that is decided by this byte.
  decide : (byte low high : ℕ) (before after new : List ℕ)
      → ((rest : List ℕ) (x : ℕ)
      → is_listed (before ++ byte ∷ rest) x
      ≡ (is_between low high x || is_listed (after ++ rest) x))
      → ((test : ℕ → Bool) → HasBits listed test
      → HasBits new (λ n. test n || is_between low high (slice_index bytes (first + n))))
      → IsOpen text negated first before items listed
      → IsOpen text negated first after (items ++ byte ∷ []) new
  decide byte low high before after new step more o = record {
    test = λ x. o.test x || is_between low high x;
    tests = λ rest x.
        ap (λ xs. is_in_set xs x) (append_assoc items (byte ∷ []) rest)
        ∙ o.tests (byte ∷ rest) x
        ∙ ap (λ t. flip negated (o.test x || t)) (step rest x)
        ∙ ap (flip negated)
        (sym (or_assoc (o.test x) (is_between low high x) (is_listed (after ++ rest) x)));
    bits
        = same_bits new _ _
        (λ n. ap (λ x. o.test (slice_index text (first + n)) || is_between low high x)
        (same (first + n))) (more (λ n. o.test (slice_index text (first + n))) o.bits);
  }
    where
      or_assoc : (a b c : Bool) → ((a || b) || c) ≡ (a || (b || c))
      or_assoc true b c = refl
      or_assoc false b c = refl

  pub low_decided : (low byte : ℕ) (new : List ℕ) → byte ≢ dash
      → ((test : ℕ → Bool) → HasBits listed test
      → HasBits new (λ n. test n || is_between low low (slice_index bytes (first + n))))
      → IsOpen text negated first (low ∷ []) items listed
      → IsOpen text negated first (byte ∷ []) (items ++ byte ∷ []) new
  low_decided low byte new other more o =
      decide byte low low (low ∷ []) (byte ∷ []) new
      (λ rest x. listed_low low byte rest x other
      ∙ ap (λ t. t || is_listed (byte ∷ rest) x) (sym (same_between low x))) more o

  pub range_decided : (low byte : ℕ) (new : List ℕ)
      → ((test : ℕ → Bool) → HasBits listed test
      → HasBits new (λ n. test n || is_between low byte (slice_index bytes (first + n))))
      → IsOpen text negated first (low ∷ dash ∷ []) items listed
      → IsOpen text negated first [] (items ++ byte ∷ []) new
  range_decided low byte new more o
      = decide byte low byte (low ∷ dash ∷ []) [] new (λ rest x. refl) more o

  -- Items that are decided together, and a byte after them that begins an item.
  pub run_decided : (low last : ℕ) (run : List ℕ) (list : ℕ → Bool) (new : List ℕ)
      → ((rest : List ℕ) (x : ℕ)
      → is_listed (low ∷ run ++ rest) x ≡ (list x || is_listed (last ∷ rest) x))
      → ((test : ℕ → Bool) → HasBits listed test
      → HasBits new (λ n. test n || list (slice_index bytes (first + n))))
      → IsOpen text negated first (low ∷ []) items listed
      → IsOpen text negated first (last ∷ []) (items ++ run) new
  run_decided low last run list new step more o = record {
    test = λ x. o.test x || list x;
    tests = λ rest x.
        ap (λ xs. is_in_set xs x) (append_assoc items run rest)
        ∙ o.tests (run ++ rest) x
        ∙ ap (λ t. flip negated (o.test x || t)) (step rest x)
        ∙ ap (flip negated) (sym (or_together (o.test x) (list x) (is_listed (last ∷ rest) x)));
    bits
        = same_bits new _ _
        (λ n. ap (λ x. o.test (slice_index text (first + n)) || list x) (same (first + n)))
        (more (λ n. o.test (slice_index text (first + n))) o.bits);
  }
    where
      or_together : (a b c : Bool) → ((a || b) || c) ≡ (a || (b || c))
      or_together true b c = refl
      or_together false b c = refl

-- ---- what was read

-- Outside of a set the test of a match asks whether the parts take the text.
outside_match : (text pattern : List ℕ) (parts : List Part) → IsRead pattern parts None
    → is_taken pattern text ≡ parts_take parts text
outside_match text pattern parts read =
    ap (λ o. option_map_or (λ ps. parts_take ps text) o false)
    (ap (parts_from None) (sym (append-nil pattern)) ∙ read [])
    ∙ ap (λ ps. parts_take ps text) (append-nil parts)

inside_match : (text pattern items : List ℕ) (parts : List Part) → IsRead pattern parts (Some items)
    → is_taken pattern text ≡ false
inside_match text pattern items parts read =
    ap (λ o. option_map_or (λ ps. parts_take ps text) o false)
    (ap (parts_from None) (sym (append-nil pattern)) ∙ read [])

-- The pattern matches if its place is outside of a set, and the end of the text is reached.
pub outside_decides : (text pattern : List ℕ) (first : ℕ) (reached listed : List ℕ) (answer : Bool)
    → Stands text pattern Outside first reached listed
    → ((test : ℕ → Bool) → HasPlaces first reached test → answer ≡ test (length text))
    → Decides answer (Matches pattern text)
outside_decides text pattern first reached listed answer s is =
    let e : answer ≡ is_taken pattern text
    = is (reaches s.parts text) s.places ∙ reaches-end s.parts text
    ∙ sym (outside_match text pattern s.parts (subst (IsRead pattern s.parts) s.set s.read))
    in
    subst (λ t. Decides t (Matches pattern text)) (sym e) (decides pattern text)

pub opened_never : (text pattern : List ℕ) (first : ℕ) (reached listed : List ℕ)
    → Stands text pattern Opened first reached listed → ¬ Matches pattern text
opened_never text pattern first reached listed s m =
    false≢true (sym
    (inside_match text pattern [] s.parts (subst (IsRead pattern s.parts) s.set s.read))
    ∙ (decides pattern text).1 m)

pub inside_never : (text pattern : List ℕ) (first : ℕ) (reached listed : List ℕ) (negated : Bool)
    (pending : Pending)
    → Stands text pattern (Inside negated pending) first reached listed → ¬ Matches pattern text
inside_never text pattern first reached listed negated pending s m =
    false≢true (sym (inside_match text pattern s.set.0 s.parts
    (subst (IsRead pattern s.parts) s.set.1 s.read))
    ∙ (decides pattern text).1 m)

-- No place is reached, so nothing that begins with the pattern matches.
pub lost : (text pattern : List ℕ) (first : ℕ) (reached listed : List ℕ) (place : Place)
    → Stands text pattern place first reached listed → HasBits reached (λ n. false)
    → (rest : List ℕ) → ¬ Matches (pattern ++ rest) text
lost text pattern first reached listed place s none rest m =
    let e = ap (λ o. option_map_or (λ ps. parts_take ps text) o false) (s.read rest) in
    no_parts (parts_from s.open_set rest) (sym e ∙ (decides (pattern ++ rest) text).1 m)
  where
    never : (n : ℕ) → n ≤ length text → reaches s.parts text n ≡ false
    never n le =
        ⊎_elim
        (λ early. s.places.before n early)
        (λ later.
        ⊎_elim
        (λ inside.
        let k = (n - first) / 64 in
        let i = (n - first) % 64 in
        let at : first + (64 * k + i) ≡ n = omega (arith, later) in
        let lt : k < length reached = omega (arith, inside, later) in
        let low : i < 64 = omega arith in
        bit_once (reaches s.parts text n) false
        (ap (λ m. bit (reaches s.parts text m)) (sym at) ∙ sym (s.places.bits k i lt low)
        ∙ none k i lt low))
        (λ past. s.places.after n past)
        (cases_lt n (first + 64 * length reached)))
        (cases_lt n first)

    no_parts : (o : Option (List Part))
        → option_map_or (λ ps. parts_take ps text) (option_map (λ ps. s.parts ++ ps) o) false ≡ true
        → ⊥
    no_parts None e = false≢true e
    no_parts (Some ps) e = reaches-none s.parts ps text never e

-- ---- the beginning

no_other : (text : List ℕ) (n : ℕ) → reaches [] text (suc n) ≡ false
no_other [] n = ap (λ t. t && parts_take [] (take (suc n) [])) (lt-leb (suc n) 0 (omega arith))
no_other (x ∷ text) n =
    and_right (nat_le (suc n) (length (x ∷ text))) _
    (not_same (suc (length (take n text))) 0 (λ e. omega (arith, e)))

begun_bits : (text reached : List ℕ) → reached ≡ 1 ∷ []
    → HasBits reached (λ n. reaches [] text (0 + n))
begun_bits text reached is zero zero lt low =
    let none : 0 ≡ 0 + (64 * 0 + 0) = omega arith in
    ap (λ ws. bit_at (slice_index ws 0) 0) is
    ∙ ap bit (sym (ap (λ t. t && true) (le-leb 0 (length text) (omega arith))))
    ∙ ap (λ n. bit (reaches [] text n)) none
begun_bits text reached is zero (suc i) lt low =
    let n : suc i ≡ 0 + (64 * 0 + suc i) = omega arith in
    ap (λ ws. bit_at (slice_index ws 0) (suc i)) is ∙ bit_at-suc 1 i ∙ bit_at-zero i
    ∙ ap bit (sym (no_other text i)) ∙ ap (λ n. bit (reaches [] text n)) n
begun_bits text reached is (suc k) i lt low =
    let one = ap length is in absurd (omega (arith, lt, one))

pub begun : (text reached listed : List ℕ) → reached ≡ 1 ∷ []
    → Stands text [] Outside 0 reached listed
begun text reached listed is = record {
  parts = [];
  open_set = None;
  read = λ rest. sym (map_same (parts_from None rest));
  places = record {
    bits = begun_bits text reached is;
    before = λ n lt. absurd (omega (arith, lt));
    after = λ n le. let one = ap length is in later n (omega (arith, le, one));
  };
  set = refl;
}
  where
    map_same : (o : Option (List Part)) → option_map (λ ps. [] ++ ps) o ≡ o
    map_same None = refl
    map_same (Some ps) = refl

    later : (n : ℕ) → 0 < n → reaches [] text n ≡ false
    later zero lt = absurd (omega (arith, lt))
    later (suc n) lt = no_other text n
