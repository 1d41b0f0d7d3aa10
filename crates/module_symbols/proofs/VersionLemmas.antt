-- Version lists.
use Rattle.std.proofs.Common.{◌≡◌, ℕ, suc, ◌+◌, ◌-◌, ◌*◌, ◌/◌, ◌<◌, ◌≤◌, Bool, true, false, ◌==◌}
use Rattle.std.proofs.Common.{cond, ltb, List, [], ◌∷◌, ◌++◌, length, map, take, drop, position}
use Rattle.std.proofs.Common.{find, Option, Some, None, option_map, refl, sym, ap, ◌∙◌, inl, inr}
use Rattle.std.proofs.Common.{get_or, zero, arith, zero-add, append_assoc, append-nil}
use Rattle.std.proofs.lemmas.Bool.{cases_lt, lt-ltb, ltb-true}
use Rattle.std.proofs.lemmas.Cmp.{nat_eq_equiv}
use Rattle.std.proofs.lemmas.Iterator.Adapters.{position_from-zero}
use Rattle.std.proofs.lemmas.List.{map-append, length-take-le, drop_all, drop_more, get_or-drop}
use Rattle.std.proofs.lemmas.List.{get_or-map, length-drop, length-map, take_rest}
use Rattle.memchr.specs.Find.{Nowhere, Passes, is_byte}
use Rattle.std.proofs.lemmas.List.Elements.{All-from_get_or, filter_map-append}
use Rattle.std.proofs.lemmas.List.FromFn.{map-range_with_len_more}
use Rattle.std.proofs.lemmas.List.Folds.{find_at}
use Rattle.std.proofs.lemmas.List.Splits.{slice_split_first, slice_split_none, length-slice_split}
use Rattle.std.proofs.lemmas.List.Sums.{fails_before_first}
use Rattle.std.proofs.lemmas.Slice.Eq.{bytes_eq-Decides}
use Rattle.std.specs.List.{cons_option, filter_map, position_from, position_or_len, range_with_len}
use Rattle.std.specs.List.{slice_get, slice_split, zip, before_first, after_first}
use Rattle.std.specs.Str.{bytes_eq}
use Rattle.km_names.specs.Number.{le}
use Rattle.km_names.specs.Strings.{first_string}
use Rattle.name_table.specs.NameTable.{first_place, states}
use Rattle.module_symbols.specs.declared.versions.Version.{Version}
use Rattle.module_symbols.specs.Listed.{mark_of, version_entry}
use Rattle.module_symbols.specs.Versions.{ended_names, entry, entry_name, extended_list}
use Rattle.module_symbols.specs.Versions.{stated_version, without_last}

-- ---- entries

range-more : (n : ℕ) → range_with_len 0 (n + 1) ≡ range_with_len 0 n ++ n ∷ []
range-more n =
    sym (map-same (range_with_len 0 (n + 1))) ∙ map-range_with_len_more (λ k. k) 0 n n (zero-add n)
    ∙ ap (λ l. l ++ n ∷ []) (map-same (range_with_len 0 n))
  where
    map-same : (xs : List ℕ) → map (λ k. k) xs ≡ xs
    map-same [] = refl
    map-same (x ∷ xs) = ap (λ l. x ∷ l) (map-same xs)

-- an entry with a name is put at the end
pub entry-given : (bytes : List ℕ) (k : ℕ) (list : List Version) (v : Version) (name : List ℕ)
    (number : ℕ)
    → map version_entry list ≡ filter_map (entry bytes) (range_with_len 0 k)
    → Some name ≡ entry_name bytes k → number ≡ le bytes (64 * k) 8
    → version_entry v ≡ (name, number)
    → map version_entry (list ++ v ∷ []) ≡ filter_map (entry bytes) (range_with_len 0 (k + 1))
entry-given bytes k list v name number so_far named is same =
    map-append version_entry list (v ∷ [])
    ∙ ap (λ l. l ++ version_entry v ∷ []) so_far
    ∙ ap (λ e. filter_map (entry bytes) (range_with_len 0 k) ++ e ∷ [])
    (same ∙ ap (λ n. (name, n)) is)
    ∙ ap (λ o. filter_map (entry bytes) (range_with_len 0 k)
    ++ cons_option (option_map (λ (n : List ℕ). (n, le bytes (64 * k) 8)) o) []) named
    ∙ sym (filter_map-append (entry bytes) (range_with_len 0 k) (k ∷ []))
    ∙ ap (filter_map (entry bytes)) (sym (range-more k))

-- one without a name isn't
pub entry-silent : (bytes : List ℕ) (k : ℕ) (list : List Version)
    → map version_entry list ≡ filter_map (entry bytes) (range_with_len 0 k)
    → None ≡ entry_name bytes k
    → map version_entry list ≡ filter_map (entry bytes) (range_with_len 0 (k + 1))
entry-silent bytes k list so_far named =
    so_far
    ∙ sym (append-nil (filter_map (entry bytes) (range_with_len 0 k)))
    ∙ ap (λ o. filter_map (entry bytes) (range_with_len 0 k)
    ++ cons_option (option_map (λ (n : List ℕ). (n, le bytes (64 * k) 8)) o) []) named
    ∙ sym (filter_map-append (entry bytes) (range_with_len 0 k) (k ∷ []))
    ∙ ap (filter_map (entry bytes)) (sym (range-more k))

-- ---- names that end with a NUL

abbrev is_nul : ℕ → Bool
is_nul b = b == 0

without_last-cons : (x : List ℕ) (xs : List (List ℕ)) → 0 < length xs
    → without_last (x ∷ xs) ≡ x ∷ without_last xs
without_last-cons x [] h = absurd (omega arith)
without_last-cons x (y ∷ ys) h = refl

some-string : (b : Bool) (n : ℕ) (bytes name : List ℕ)
    → option_map (λ k. take k bytes) (cond b (Some n) None) ≡ Some name
    → (b ≡ true) × (name ≡ take n bytes)
some-string true n bytes name e = (refl, cc)
some-string false n bytes name e = absurd (cc)

none-string : (b : Bool) (n : ℕ) (bytes : List ℕ)
    → None ≡ option_map (λ k. take k bytes) (cond b (Some n) None) → b ≡ false
none-string true n bytes e = absurd (cc)
none-string false n bytes e = refl

-- the first of them, and those after it
pub ended_names-cons : (bytes name : List ℕ) → Some name ≡ first_string bytes
    → ended_names bytes ≡ name ∷ ended_names (drop (length name + 1) bytes)
unfolding ended_names first_string
ended_names-cons bytes name is =
    let n : ℕ = position_or_len is_nul bytes in
    let w = some-string (ltb n (length bytes)) n bytes name (sym is) in
    let within : n < length bytes = ltb-true n (length bytes) w.0 in
    let long : length name ≡ n = ap length w.1 ∙ length-take-le n bytes (omega arith) in
    let after : after_first is_nul bytes ≡ drop (length name + 1) bytes
    = ap (λ k. drop k bytes) (omega arith) in
    let some : 0 < length (slice_split is_nul (after_first is_nul bytes))
    = omega (arith, length-slice_split is_nul (after_first is_nul bytes)) in
    ap without_last (slice_split_first is_nul bytes 0 within)
    ∙ without_last-cons (before_first is_nul bytes) (slice_split is_nul (after_first is_nul bytes))
    some
    ∙ ap (λ l. l ∷ without_last (slice_split is_nul (after_first is_nul bytes))) (sym w.1)
    ∙ ap (λ l. name ∷ without_last (slice_split is_nul l)) after

-- where none is left
pub ended_names-none : (bytes : List ℕ) → None ≡ first_string bytes → ended_names bytes ≡ []
unfolding ended_names first_string
ended_names-none bytes is =
    let n : ℕ = position_or_len is_nul bytes in
    let past : ltb n (length bytes) ≡ false = none-string (ltb n (length bytes)) n bytes is in
    ap without_last
    (slice_split_none is_nul bytes
    (All-from_get_or (λ b. is_nul b ≡ false) bytes 0
    (λ j l. fails_before_first is_nul bytes j 0 (before j n (length bytes) l past))))
  where
    before : (j n len : ℕ) → j < len → ltb n len ≡ false → j < n
    before j n len l past = elim (cases_lt n len) [
      | inl less ↦
          let wrong : true ≡ false = sym (lt-ltb n len less) ∙ past in cc
      | inr more ↦ omega arith
    ]

-- before the first extended version
pub extended-start : (crcs names : List ℕ) (list : List Version) → list ≡ []
    → extended_list crcs names
    ≡ map version_entry list
    ++ zip (ended_names names)
    (map (λ j. le crcs (4 * j) 4) (range_with_len 0 (length crcs / 4 - 0)))
unfolding extended_list
extended-start crcs names list empty =
    let later : ℕ → List (List ℕ × ℕ)
    = λ n. zip (ended_names names) (map (λ j. le crcs (4 * j) 4) (range_with_len 0 n)) in
    let same : length crcs / 4 ≡ length crcs / 4 - 0 = omega arith in
    ap later same ∙ ap (λ l. map version_entry l ++ later (length crcs / 4 - 0)) (sym empty)

-- an extended version is put at the end
pub extended-given : (all : List (List ℕ × ℕ)) (list : List Version) (v : Version)
    (rest name : List ℕ) (g : ℕ → ℕ) (k n : ℕ)
    → k < n → Some name ≡ first_string rest → version_entry v ≡ (name, g k)
    → all ≡ map version_entry list ++ zip (ended_names rest) (map g (range_with_len k (n - k)))
    → all
    ≡ map version_entry (list ++ v ∷ [])
    ++ zip (ended_names (drop (length name + 1) rest))
    (map g (range_with_len (k + 1) (n - (k + 1))))
extended-given all list v rest name g k n less named same so_far =
    let later : List (List ℕ × ℕ)
    = zip (ended_names (drop (length name + 1) rest))
    (map g (range_with_len (k + 1) (n - (k + 1)))) in
    let left : n - k ≡ suc (n - (k + 1)) = omega arith in
    so_far
    ∙ ap (λ l. map version_entry list ++ zip l (map g (range_with_len k (n - k))))
    (ended_names-cons rest name named)
    ∙ ap (λ m. map version_entry list
    ++ zip (name ∷ ended_names (drop (length name + 1) rest)) (map g (range_with_len k m))) left
    ∙ sym (append_assoc (map version_entry list) ((name, g k) ∷ []) later)
    ∙ ap (λ e. map version_entry list ++ e ∷ [] ++ later) (sym same)
    ∙ ap (λ l. l ++ later) (sym (map-append version_entry list (v ∷ [])))

zip-none : (xs : List (List ℕ)) → zip xs (map (λ (k : ℕ). k) []) ≡ []
zip-none [] = refl
zip-none (x ∷ xs) = refl

-- no name is left
pub extended-none : (all : List (List ℕ × ℕ)) (list : List Version) (rest : List ℕ)
    (numbers : List ℕ)
    → None ≡ first_string rest
    → all ≡ map version_entry list ++ zip (ended_names rest) numbers → map version_entry list ≡ all
extended-none all list rest numbers none so_far =
    sym (so_far ∙ ap (λ l. map version_entry list ++ zip l numbers) (ended_names-none rest none)
    ∙ append-nil (map version_entry list))

-- no number is left
pub extended-all : (all : List (List ℕ × ℕ)) (list : List Version) (rest : List ℕ) (g : ℕ → ℕ)
    (k n : ℕ)
    → n ≤ k
    → all ≡ map version_entry list ++ zip (ended_names rest) (map g (range_with_len k (n - k)))
    → map version_entry list ≡ all
extended-all all list rest g k n past so_far =
    let left : n - k ≡ 0 = omega arith in
    sym (so_far
    ∙ ap
    (λ m. map version_entry list ++ zip (ended_names rest) (map g (range_with_len k m)))
    left
    ∙ ap (λ l. map version_entry list ++ l) (zip-none (ended_names rest))
    ∙ append-nil (map version_entry list))

-- ---- the version of a name

find-shown : (name : List ℕ) (list : List Version)
    → find (λ (e : List ℕ × ℕ). bytes_eq e.0 name) (map version_entry list)
    ≡ option_map version_entry (find (λ (v : Version). bytes_eq v.name.now name) list)
find-shown name [] = refl
find-shown name (v ∷ vs) =
    elim (bytes_eq v.name.now name) as
    (λ b. cond b (Some (version_entry v))
    (find (λ (e : List ℕ × ℕ). bytes_eq e.0 name) (map version_entry vs))
    ≡ option_map version_entry
    (cond b (Some v) (find (λ (x : Version). bytes_eq x.name.now name) vs))) [
      | true ↦ refl
      | false ↦ find-shown name vs
    ]

position_from-shown : (name : List ℕ) (i : ℕ) (list : List Version)
    → position_from (states name) i (map (λ (v : Version). Some v.name.now) list)
    ≡ position_from (λ (v : Version). bytes_eq v.name.now name) i list
position_from-shown name i [] = refl
position_from-shown name i (v ∷ vs) =
    ap (λ o. cond (bytes_eq v.name.now name) (Some i) o) (position_from-shown name (i + 1) vs)

place-is : (name : List ℕ) (list : List Version)
    → first_place (map (λ (v : Version). Some v.name.now) list) name
    ≡ position (λ (v : Version). bytes_eq v.name.now name) list
place-is name list =
    position_from-zero (states name) (map (λ (v : Version). Some v.name.now) list)
    ∙ position_from-shown name 0 list
    ∙ sym (position_from-zero (λ (v : Version). bytes_eq v.name.now name) list)

some-place : (b : Bool) (n k : ℕ) → Some k ≡ cond b (Some n) None → k ≡ n
some-place true n k e = cc
some-place false n k e = absurd (cc)

found-at : {X : Type 0} (p : X → Bool) (xs : List X) (k : ℕ) → Some k ≡ position p xs
    → find p xs ≡ slice_get xs k
found-at p xs k is =
    find_at p xs
    ∙ ap (slice_get xs)
    (sym (some-place (ltb (position_or_len p xs) (length xs)) (position_or_len p xs) k is))

lost-from : {X : Type 0} (p : X → Bool) (i : ℕ) (xs : List X) → None ≡ position_from p i xs
    → find p xs ≡ None
lost-from p i [] h = refl
lost-from p i (x ∷ xs) h =
    lost-by (p x) i (position_from p (i + 1) xs) (find p xs) x h (lost-from p (i + 1) xs)
  where
    lost-by : {X : Type 0} (b : Bool) (i : ℕ) (later : Option ℕ) (found : Option X) (x : X)
        → None ≡ cond b (Some i) later → (None ≡ later → found ≡ None)
        → cond b (Some x) found ≡ None
    lost-by true i later found x h rest = absurd (cc)
    lost-by false i later found x h rest = rest h

pub stated-found : (list : List Version) (name : List ℕ) (k : ℕ)
    → Some k ≡ first_place (map (λ (v : Version). Some v.name.now) list) name
    → option_map (λ (v : Version). v.number) (slice_get list k)
    ≡ stated_version (map version_entry list) name
unfolding stated_version
stated-found list name k is =
    let found : find (λ (v : Version). bytes_eq v.name.now name) list ≡ slice_get list k
    = found-at (λ (v : Version). bytes_eq v.name.now name) list k (is ∙ place-is name list) in
    number-of (slice_get list k)
    ∙ ap (λ o. option_map (λ (e : List ℕ × ℕ). e.1) (option_map version_entry o)) (sym found)
    ∙ ap (option_map (λ (e : List ℕ × ℕ). e.1)) (sym (find-shown name list))
  where
    number-of : (o : Option Version)
        → option_map (λ (v : Version). v.number) o
        ≡ option_map (λ (e : List ℕ × ℕ). e.1) (option_map version_entry o)
    number-of None = refl
    number-of (Some v) = refl

pub stated-none : (list : List Version) (name : List ℕ)
    → None ≡ first_place (map (λ (v : Version). Some v.name.now) list) name
    → None ≡ stated_version (map version_entry list) name
unfolding stated_version
stated-none list name is =
    let lost : find (λ (v : Version). bytes_eq v.name.now name) list ≡ None =
    lost-from (λ (v : Version). bytes_eq v.name.now name) 0 list
    (is ∙ place-is name list
    ∙ position_from-zero (λ (v : Version). bytes_eq v.name.now name) list) in
    sym (ap (option_map (λ (e : List ℕ × ℕ). e.1))
    (find-shown name list ∙ ap (option_map version_entry) lost))

-- ---- versions looked for one by one

-- the version at k has another name
pub passed-name : (list : List Version) (name : List ℕ) (k : ℕ) (d : Version)
    (found : Option (List ℕ × ℕ))
    → k < length list → bytes_eq (get_or list k d).name.now name ≡ false
    → found ≡ find (λ (e : List ℕ × ℕ). bytes_eq e.0 name) (map version_entry (drop k list))
    → found ≡ find (λ (e : List ℕ × ℕ). bytes_eq e.0 name) (map version_entry (drop (k + 1) list))
passed-name list name k d found within other so_far =
    so_far
    ∙ ap (λ l. find (λ (e : List ℕ × ℕ). bytes_eq e.0 name) (map version_entry l))
    (drop_more list k d within)
    ∙ ap (λ b. cond b (Some (version_entry (get_or list k d)))
    (find (λ (e : List ℕ × ℕ). bytes_eq e.0 name) (map version_entry (drop (k + 1) list)))) other

-- names with different marks are different
pub other-name : (list : List Version) (marks name : List ℕ) (k mark : ℕ) (d : Version)
    → marks ≡ map (λ (v : Version). mark_of v.name.now) list → k < length list
    → mark ≡ mark_of name → (get_or marks k 0 ≡ mark → ⊥)
    → bytes_eq (get_or list k d).name.now name ≡ false
other-name list marks name k mark d are within is differ =
    by_test (bytes_eq (get_or list k d).name.now name) refl
  where
    by_test : (b : Bool) → bytes_eq (get_or list k d).name.now name ≡ b → b ≡ false
    by_test false e = refl
    by_test true e =
        let same : (get_or list k d).name.now ≡ name
        = (bytes_eq-Decides (get_or list k d).name.now name).0 e in
        absurd (differ (ap (λ l. get_or l k 0) are
        ∙ get_or-map (λ (v : Version). mark_of v.name.now) list k d 0 within
        ∙ ap mark_of same ∙ sym is))

-- how many marks are left
pub places-left : (list : List Version) (marks : List ℕ) (from : ℕ)
    → marks ≡ map (λ (v : Version). mark_of v.name.now) list
    → length (take (length marks - from) (drop from marks)) ≡ length list - from
places-left list marks from are =
    ap length (take_rest marks from) ∙ length-drop from marks
    ∙ ap (λ l. length l - from) are
    ∙ ap (λ n. n - from) (length-map list (λ (v : Version). mark_of v.name.now))

-- no version before the next place of the mark has the name
pub passed-marks : (list : List Version) (marks name hay : List ℕ) (from place mark : ℕ)
    (found : Option (List ℕ × ℕ))
    → marks ≡ map (λ (v : Version). mark_of v.name.now) list → mark ≡ mark_of name
    → hay ≡ drop from marks
    → Nowhere (Passes (is_byte mark) hay) 0 place → from + place ≤ length list
    → found ≡ find (λ (e : List ℕ × ℕ). bytes_eq e.0 name) (map version_entry (drop from list))
    → found
    ≡ find (λ (e : List ℕ × ℕ). bytes_eq e.0 name) (map version_entry (drop (from + place) list))
passed-marks list marks name hay from zero mark found are is left none within so_far =
    so_far
    ∙ ap (λ k. find (λ (e : List ℕ × ℕ). bytes_eq e.0 name) (map version_entry (drop k list)))
    (omega arith)
passed-marks list marks name hay from (suc place) mark found are is left none within so_far =
    let d : Version = record { name = record { ref_ptr = (0, 0); now = [] }; number = 0 } in
    let here : from + place < length list = omega (arith, within) in
    let at : get_or hay place 0 ≡ get_or marks (from + place) 0
    = ap (λ l. get_or l place 0) left ∙ get_or-drop from marks place 0 in
    let other : get_or marks (from + place) 0 ≡ mark → ⊥
    = λ same. none place (omega arith) (omega arith)
    (ap (λ b. b == mark) (at ∙ same) ∙ nat_eq_equiv.refl mark) in
    let before : found
    ≡ find (λ (e : List ℕ × ℕ). bytes_eq e.0 name)
    (map version_entry (drop (from + place) list))
    = passed-marks list marks name hay from place mark found are is left
    (λ k l m. none k l (omega (arith, m))) (omega (arith, within)) so_far in
    passed-name list name (from + place) d found here
    (other-name list marks name (from + place) mark d are here is other) before
    ∙ ap (λ k. find (λ (e : List ℕ × ℕ). bytes_eq e.0 name) (map version_entry (drop k list)))
    (omega arith)

-- the version at the place has the name
pub named-at : (list : List Version) (name : List ℕ) (k : ℕ) (d : Version)
    → k < length list → bytes_eq (get_or list k d).name.now name ≡ true
    → find (λ (e : List ℕ × ℕ). bytes_eq e.0 name) (map version_entry list)
    ≡ find (λ (e : List ℕ × ℕ). bytes_eq e.0 name) (map version_entry (drop k list))
    → Some (get_or list k d).number ≡ stated_version (map version_entry list) name
unfolding stated_version
named-at list name k d within is so_far =
    sym (ap (option_map (λ (e : List ℕ × ℕ). e.1))
    (so_far
    ∙ ap (λ l. find (λ (e : List ℕ × ℕ). bytes_eq e.0 name) (map version_entry l))
    (drop_more list k d within)
    ∙ ap (λ b. cond b (Some (version_entry (get_or list k d)))
    (find (λ (e : List ℕ × ℕ). bytes_eq e.0 name) (map version_entry (drop (k + 1) list)))) is))

-- no version is left
pub named-nowhere : (list : List Version) (name : List ℕ)
    → find (λ (e : List ℕ × ℕ). bytes_eq e.0 name) (map version_entry list)
    ≡ find (λ (e : List ℕ × ℕ). bytes_eq e.0 name) (map version_entry (drop (length list) list))
    → None ≡ stated_version (map version_entry list) name
unfolding stated_version
named-nowhere list name so_far =
    sym (ap (option_map (λ (e : List ℕ × ℕ). e.1))
    (so_far
    ∙ ap (λ l. find (λ (e : List ℕ × ℕ). bytes_eq e.0 name) (map version_entry l))
    (drop_all (length list) list (omega arith))))
