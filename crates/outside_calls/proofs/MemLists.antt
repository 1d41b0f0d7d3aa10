-- What listing files in memory answers.
use Rattle.std.proofs.Common.{◌≡◌, ◌≢◌, ℕ, ◌≤◌, ◌<◌, ◌⊎◌, ◌&&◌, Bool, true, false, nat_lt, ◌==◌}
use Rattle.std.proofs.Common.{List, [], ◌∷◌, map, length, min, filter, filter_map, Result, Ok, Err}
use Rattle.std.proofs.Common.{refl, sym, ap, subst, ◌∙◌, arith, inl, inr, if◌then◌else◌}
use Rattle.std.specs.Global.{Vec}
use Rattle.std.specs.List.{list_any}
use Rattle.std.specs.List.Sorted.{IsStrictlySortedBy}
use Rattle.std.proofs.lemmas.Bool.{le-ltb, lt-ltb, ltb-true, ltb-false, eqb-true}
use Rattle.std.proofs.lemmas.Bool.{false_from_ne_true}
use Rattle.km_names.specs.Path.{path_below}
use Rattle.outside_calls.specs.CallsSeen.{CallsSeen, next_fails, none_listed}
use Rattle.outside_calls.specs.Contents.{by_bytes, rest_after, rests_below, listed, is_path}
use Rattle.outside_calls.specs.Counts.{count_end}
use Rattle.outside_calls.specs.Entries.{files_of}
use Rattle.outside_calls.specs.FilesSeen.{IsListOf, list_limit}
use Rattle.outside_calls.specs.Listing.{kind_of, test_of, listed_of}
use Rattle.outside_calls.specs.MemFilesSeen.{MemFilesSeen, KindsSeen, mem_files_seen}
use Rattle.outside_calls.specs.MemFilesSeen.{no_kind_listed, calls_of, kind_fails, mem_list}
use Rattle.outside_calls.specs.MemFilesSeen.{found_names}
use Rattle.outside_calls.specs.declared.files.FileAnswer.{FileAnswer}
use Rattle.outside_calls.specs.declared.files.FileAnswer.TheVariants.{Absent, Failed, TooLarge}
use Rattle.outside_calls.specs.declared.files.FileAnswer.TheVariants.{Memory}
use Rattle.outside_calls.specs.declared.listing.Listing.{Listing}
use Rattle.outside_calls.specs.declared.mem_files.CallKind.{CallKind}
use Rattle.outside_calls.specs.declared.mem_files.CallKind.TheVariants.{Read, ListConf, ListTree}
use Rattle.outside_calls.specs.declared.mem_files.CallKind.TheVariants.{Replace}
use Rattle.outside_calls.proofs.RisingLemmas.{keys-files_of, listed_of-listed, listed-rises}
use Rattle.outside_calls.proofs.RisingLemmas.{filter-passes}

-- the paths of an ordered map's entries
abbrev pub paths_of : List (Vec ℕ × List ℕ) → List (List ℕ)
paths_of es = map (λ v. v.items) (map (λ e. e.0) es)

pub listed-files_of : (fits : List ℕ → Bool) (folder prefix : List ℕ) (es : List (Vec ℕ × List ℕ))
    → IsStrictlySortedBy by_bytes (paths_of es) → prefix ≡ path_below folder []
    → listed_of fits prefix (paths_of es) ≡ listed fits folder (files_of es)
listed-files_of fits folder prefix es rising is =
    listed_of-listed fits prefix (paths_of es)
    ∙ ap (λ paths. filter fits (filter_map (rest_after prefix) paths))
    (sym (keys-files_of es rising))
    ∙ ap (λ p. filter fits
    (filter_map (rest_after p)
    (map (λ e. e.0) (Rattle.std.specs.FinMap.entries (files_of es))))) is

-- the next listing, where it doesn't fail
pub mem_list_is : (files : MemFilesSeen) (listing : Listing) (folder prefix : List ℕ)
    (es : List (Vec ℕ × List ℕ))
    → files_of es ≡ files.contents → kind_fails files (kind_of listing) ≡ false
    → prefix ≡ path_below folder [] → IsStrictlySortedBy by_bytes (paths_of es) →
    found_names (length (listed_of is_path prefix (paths_of es)))
    (listed_of (test_of listing) prefix (paths_of es))
    ≡ mem_list files (kind_of listing) (test_of listing) folder
mem_list_is files listing folder prefix es contents fails is rising =
    ap (λ below. found_names (length below) (listed_of (test_of listing) prefix (paths_of es)))
    (listed-files_of is_path folder prefix es rising is)
    ∙ ap (found_names (length (listed is_path folder (files_of es))))
    (listed-files_of (test_of listing) folder prefix es rising is)
    ∙ ap (λ told. found_names (length (listed is_path folder told))
    (listed (test_of listing) folder told)) contents
    ∙ ap (λ b. if b
    then Err Failed
    else found_names (length (listed is_path folder files.contents))
    (listed (test_of listing) folder files.contents)) (sym fails)

pub found_none : (names : List (List ℕ)) (n : ℕ) → n ≡ 0 → Err Absent ≡ found_names n names
found_none names n e = ap (λ k. found_names k names) (sym e)

pub found_many : (names : List (List ℕ)) (n : ℕ) → (n == 0) ≡ false → list_limit < length names
    → Err (TooLarge (min (length names) count_end)) ≡ found_names n names
found_many names n some many =
    ap (λ b. if b then Err (TooLarge (min (length names) count_end)) else Ok names)
    (sym (lt-ltb list_limit (length names) many))
    ∙ ap (λ b. if b
    then Err Absent
    else (if nat_lt list_limit (length names)
    then Err (TooLarge (min (length names) count_end))
    else Ok names)) (sym some)

pub found_some : (names : List (List ℕ)) (n : ℕ) → (n == 0) ≡ false → length names ≤ list_limit
    → Ok names ≡ found_names n names
found_some names n some few =
    ap (λ b. if b then Err (TooLarge (min (length names) count_end)) else Ok names)
    (sym (le-ltb list_limit (length names) few))
    ∙ ap (λ b. if b
    then Err Absent
    else (if nat_lt list_limit (length names)
    then Err (TooLarge (min (length names) count_end))
    else Ok names)) (sym some)

-- a kind of which a call is listed to fail makes the files unsure
listed_fails : (calls : CallsSeen) → next_fails calls ≡ true → none_listed calls ≡ false
listed_fails calls h =
    by_list calls.failing h
  where
    by_list : (failing : List ℕ) → list_any (λ n. n == calls.next) failing ≡ true
        → (length failing == 0) ≡ false
    by_list [] h = cc
    by_list (n ∷ failing) h
        = false_from_ne_true _
        (λ t. let none = eqb-true (length (n ∷ failing)) 0 t in omega (arith, none))

and-false-left : (a b : Bool) → a ≡ false → (a && b) ≡ false
and-false-left true b h = cc
and-false-left false b h = refl

and-false-right : (a b : Bool) → b ≡ false → (a && b) ≡ false
and-false-right true b h = h
and-false-right false b h = refl

pub unsure : (kinds : KindsSeen) (kind : CallKind) → next_fails (calls_of kinds kind) ≡ true
    → no_kind_listed kinds ≡ false
unsure kinds Read h =
    and-false-left _ _ (and-false-left _ _ (and-false-left _ _ (listed_fails kinds.reads h)))
unsure kinds ListConf h =
    and-false-left _ _ (and-false-left _ _ (and-false-right _ _ (listed_fails kinds.conf_lists h)))
unsure kinds ListTree h = and-false-left _ _ (and-false-right _ _ (listed_fails kinds.tree_lists h))
unsure kinds Replace h = and-false-right _ _ (listed_fails kinds.replaces h)

no_names : (xs : List (List ℕ)) → (length xs == 0) ≡ true → xs ≡ []
no_names [] h = refl
no_names (x ∷ xs) h = let none = eqb-true (length (x ∷ xs)) 0 h in absurd (omega (arith, none))

some_names : (xs : List (List ℕ)) → (length xs == 0) ≡ false → xs ≢ []
some_names xs h e = differ (ap (λ l. length l == 0) e) h
  where
    differ : {b : Bool} → b ≡ true → b ≡ false → ⊥
    differ e f = cc

-- what is found of known contents is a listing of them
found_list : (fits : List ℕ → Bool) (folder : List ℕ) (files : MemFilesSeen)
    → IsListOf fits folder (mem_files_seen files)
    (found_names (length (listed is_path folder files.contents))
    (listed fits folder files.contents))
found_list fits folder files =
    by_below (length below == 0) refl
  where
    below : List (List ℕ)
    below = listed is_path folder files.contents

    names : List (List ℕ)
    names = listed fits folder files.contents

    by_limit : (b : Bool) → nat_lt list_limit (length names) ≡ b → (length below == 0) ≡ false
        → IsListOf fits folder (mem_files_seen files)
        (if b then Err (TooLarge (min (length names) count_end)) else Ok names)
    by_limit true many some = (let over = ltb-true _ _ many in omega (arith, over), refl)
    by_limit false few some = (
      listed-rises fits folder files.contents,
      filter-passes fits (rests_below folder files.contents),
      ltb-false _ _ few,
      (refl, some_names below some),
    )

    by_below : (b : Bool) → (length below == 0) ≡ b
        → IsListOf fits folder (mem_files_seen files)
        (if b
        then Err Absent
        else (if nat_lt list_limit (length names)
        then Err (TooLarge (min (length names) count_end))
        else Ok names))
    by_below true none = no_names below none
    by_below false some = by_limit (nat_lt list_limit (length names)) refl some

-- What the next listing answers is a listing of the files.
pub mem_list_answers : (files : MemFilesSeen) (kind : CallKind) (fits : List ℕ → Bool)
    (folder : List ℕ) (result : Result (List (List ℕ)) FileAnswer)
    → (result ≡ mem_list files kind fits folder) ⊎ (result ≡ Err Memory)
    → IsListOf fits folder (mem_files_seen files) result
mem_list_answers files kind fits folder result (inr e) =
    subst (IsListOf fits folder (mem_files_seen files)) (sym e) tt
mem_list_answers files kind fits folder result (inl e) =
    subst (IsListOf fits folder (mem_files_seen files)) (sym e)
    (by_failing (kind_fails files kind) refl)
  where
    by_failing : (b : Bool) → kind_fails files kind ≡ b
        → IsListOf fits folder (mem_files_seen files)
        (if b
        then Err Failed
        else found_names (length (listed is_path folder files.contents))
        (listed fits folder files.contents))
    by_failing true h = unsure files.kinds kind h
    by_failing false h = found_list fits folder files
