-- Each call of the traits follows its stage.
use Rattle.std.proofs.Common.{◌≡◌, ◌≢◌, ℕ, ◌+◌, ◌≤◌, ◌<◌, List, [], ◌∷◌, ◌++◌, take, length, refl}
use Rattle.std.proofs.Common.{sym, ◌∙◌, ap, subst, arith, min, if◌then◌else◌, true, false, Bool}
use Rattle.std.proofs.Common.{cond, filter, inl, inr}
use Rattle.std.specs.Prelude.{◌==◌}
use Rattle.std.proofs.lemmas.Bool.{le-ltb, lt-ltb, eqb-true}
use Rattle.std.specs.Prelude.{Option, Some, None, Result, Ok, Err, ◌⊎◌, is_some, IfSome, IsSomeAnd}
use Rattle.std.specs.Prelude.{⊤}
use Rattle.std.specs.Option.{option_map}
use Rattle.std.specs.FinMap as map
use Rattle.km_names.specs.Limit.{file_limit}
use Rattle.outside_calls.specs.CallCounts.{CallCounts, NoneFell, refused}
use Rattle.outside_calls.specs.Contents.{Contents, listed, rests_below, is_path, is_conf_name}
use Rattle.outside_calls.specs.Counts.{count_end, one_more}
use Rattle.outside_calls.specs.FilesSeen.{FilesSeen, one_called, ReadAnswers, IsReadAt, ListAnswers}
use Rattle.outside_calls.specs.FilesSeen.{IsListOf, ReplaceAnswers, list_limit}
use Rattle.outside_calls.specs.OutSeen.{OutSeen, WriteAnswers, LacksRoom}
use Rattle.outside_calls.specs.declared.files.FileAnswer.{FileAnswer}
use Rattle.outside_calls.specs.declared.files.FileAnswer.TheVariants as answers
use Rattle.outside_calls.specs.declared.files.ReplaceAnswer.TheVariants as replaces
use Rattle.outside_calls.specs.declared.out.OutFailed.{OutFailed}
use Rattle.km_course.specs.Course.{Act, Outcome, act_with, reads_or, read_outcome, lists_or}
use Rattle.km_course.specs.Course.{list_outcome, says, warns, says_any, puts}
use Rattle.km_course.specs.Course.Act.{read, list, say, warn, put}
use Rattle.km_course.specs.Course.Outcome.{value, end}
use Rattle.km_course.specs.World.{World, world, Shown, Tells, Keeps, KeepsOut, Extends, NotFewer}
use Rattle.km_course.specs.World.{NoFault, act_done, act_begun}
use Rattle.km_course.specs.Follows.{IsCallAt, EndCounts, Follows, PassesRoom, stop_for}
use Rattle.km_course.specs.declared.end.End.{End}
use Rattle.km_course.specs.declared.end.End.TheVariants.{NoFile, TooLarge}
use Rattle.km_course.specs.declared.stop.Stop.{Stop}
use Rattle.km_course.specs.declared.stop.Stop.TheVariants.{Ended, FileFault, OutputFault}
use Rattle.km_course.specs.declared.stop.Stop.TheVariants.{WarningFault, Memory}
use Rattle.km_course.proofs.Steps.{KeepsFiles-same, KeepsOut-same, gave}

one_more-later : (n : ℕ) → n ≤ one_more n
one_more-later n = omega arith

-- one more call isn't fewer
later : (calls : Option ℕ) → NotFewer calls (option_map one_more calls)
later None = refl
later (Some n) = one_more-later n

-- a call on files changes nothing but how many there were and counts, none of which falls
keeps_called : (old : FilesSeen) (counts : CallCounts) (out err : OutSeen)
    → NoneFell old.counts counts → Keeps (world old out err) (world (one_called old counts) out err)
keeps_called old counts out err n = record {
  files = record { told = refl; calls = later old.calls; sure = refl; counts = n };
  out = KeepsOut-same out;
  err = KeepsOut-same err;
}

-- what each answer leaves of the counts
fell_ok : (counts : CallCounts) → NoneFell counts counts
fell_ok counts = record { faults = omega arith; absences = omega arith; excesses = omega arith }

fell : (counts : CallCounts) (answer : FileAnswer) → NoneFell counts (refused counts answer)
fell counts answers.Absent =
    record
    { faults = omega arith; absences = one_more-later counts.absences; excesses = omega arith }
fell counts answers.Failed =
    record { faults = one_more-later counts.faults; absences = omega arith; excesses = omega arith }
fell counts (answers.TooLarge n) =
    record
    { faults = omega arith; absences = omega arith; excesses = one_more-later counts.excesses }
fell counts answers.Memory = fell_ok counts

-- no fault is counted
no_fault : (old : FilesSeen) (counts : CallCounts) (out err : OutSeen)
    → counts.faults ≡ old.counts.faults
    → NoFault (world old out err) (world (one_called old counts) out err)
no_fault old counts out err e = record { files = e; out = refl; err = refl }

-- what is known after a call that was made, with these counts
tells_called : (old : FilesSeen) (counts : CallCounts) (out err : OutSeen) (shown : Shown)
    → Tells (world old out err) shown
    → Tells (world (one_called old counts) out err)
    (record shown { calls = option_map one_more shown.calls })
tells_called old counts out err shown h =
    record { files = h.files; calls = ap (option_map one_more) h.calls; out = h.out; err = h.err }

some_at : (P : Contents → Type 0) (contents : Option Contents) (files : Contents)
    → contents ≡ Some files → IfSome contents P → P files
some_at P contents files e h = subst (λ o. IfSome o P) e h

-- an act that is a call on files and leaves them as they were
abbrev pub IsQuiet : Act → Type 0
IsQuiet act =
    (shown : Shown) → act_done act shown ≡ record shown { calls = option_map one_more shown.calls }

-- such a call gave a value
call_gave : {T X : Type 0} (view : T → X) (act : Act) (outcome : Contents → Outcome X)
    (possible : Outcome X → Type 0) (old : FilesSeen) (counts : CallCounts) (out err : OutSeen)
    (x : T)
    → IsQuiet act → NoneFell old.counts counts → counts.faults ≡ old.counts.faults
    → possible (value (view x))
    → ((files : Contents) → old.contents ≡ Some files → outcome files ≡ value (view x))
    → Follows view (act_with act outcome possible) (world old out err)
    (world (one_called old counts) out err) (Ok x)
unfolding act_with
call_gave view act outcome possible old counts out err x quiet n faults may told = record {
  keeps = keeps_called old counts out err n;
  counts = no_fault old counts out err faults;
  comes = may;
  told
      = λ shown h. (
        told shown.files h.files,
        subst (Tells (world (one_called old counts) out err)) (sym (quiet shown))
            (tells_called old counts out err shown h),
      );
}

-- such a call came to an end
call_ended : {T X : Type 0} (view : T → X) (act : Act) (outcome : Contents → Outcome X)
    (possible : Outcome X → Type 0) (old : FilesSeen) (counts : CallCounts) (out err : OutSeen)
    (e : End)
    → IsQuiet act → NoneFell old.counts counts → counts.faults ≡ old.counts.faults
    → EndCounts (world old out err) (world (one_called old counts) out err) e → possible (end e)
    → ((files : Contents) → old.contents ≡ Some files → outcome files ≡ end e)
    → Follows view (act_with act outcome possible) (world old out err)
    (world (one_called old counts) out err) (Err (Ended e))
unfolding act_with
call_ended view act outcome possible old counts out err e quiet n faults cause may told = record {
  keeps = keeps_called old counts out err n;
  counts = (no_fault old counts out err faults, cause);
  comes = may;
  told
      = λ shown h. (
        told shown.files h.files,
        subst (Tells (world (one_called old counts) out err)) (sym (quiet shown))
            (tells_called old counts out err shown h),
      );
}

-- an act that is a call on files at this path
abbrev pub IsCall : List ℕ → Act → Type 0
IsCall path act =
    ((shown : Shown)
    → act_begun 1 act shown ≡ record shown { calls = option_map one_more shown.calls })
    × IsCallAt path act

-- a call on files failed
call_failed : {T X : Type 0} (view : T → X) (path : List ℕ) (act : Act)
    (outcome : Contents → Outcome X) (possible : Outcome X → Type 0) (old : FilesSeen)
    (out err : OutSeen)
    → IsCall path act → old.sure ≡ false
    → Follows view (act_with act outcome possible) (world old out err)
    (world (one_called old (refused old.counts answers.Failed)) out err) (Err (FileFault path))
unfolding act_with
call_failed view path act outcome possible old out err is sure =
    let counts = refused old.counts answers.Failed in
    record {
      keeps = keeps_called old counts out err (fell old.counts answers.Failed);
      counts = (omega arith, refl, refl);
      comes = tt;
      told = λ shown h. record {
        before = [];
        rest = act ∷ [];
        count = 1;
        split = refl;
        tells
            = subst (Tells (world (one_called old counts) out err)) (sym (is.0 shown))
            (tells_called old counts out err shown h);
        because = (is.1, refl, sure);
      };
    }

-- a call on files wanted memory
call_wanting : {T X : Type 0} (view : T → X) (path : List ℕ) (act : Act)
    (outcome : Contents → Outcome X) (possible : Outcome X → Type 0) (old : FilesSeen)
    (out err : OutSeen)
    → IsCall path act
    → Follows view (act_with act outcome possible) (world old out err)
    (world (one_called old old.counts) out err) (Err Memory)
unfolding act_with
call_wanting view path act outcome possible old out err is =
    let counts = old.counts in
    record {
      keeps = keeps_called old counts out err (fell_ok old.counts);
      counts = no_fault old counts out err refl;
      comes = tt;
      told = λ shown h. record {
        before = [];
        rest = act ∷ [];
        count = 1;
        split = refl;
        tells
            = subst (Tells (world (one_called old counts) out err)) (sym (is.0 shown))
            (tells_called old counts out err shown h);
        because = tt;
      };
    }

long : (n m limit : ℕ) → limit < n → n ≡ min m count_end → limit < m
long n m limit h e = omega arith

-- what is known of a read decides its outcome
read_told : (absent : Outcome (List ℕ)) (path bytes : List ℕ) (files : FilesSeen)
    → IsReadAt path files (Ok bytes) → (told : Contents) → files.contents ≡ Some told
    → read_outcome absent path (map.get told path) ≡ value bytes
read_told absent path bytes files a told h =
    ap (read_outcome absent path)
    (some_at (λ t. map.get t path ≡ Some bytes) files.contents told h a.1)
    ∙ ap (λ b. if b then end (TooLarge path) else value bytes)
    (le-ltb file_limit (length bytes) a.0)

read_long : (absent : Outcome (List ℕ)) (path : List ℕ) (n : ℕ) (found : Option (List ℕ))
    → file_limit < n → IsSomeAnd found (λ bytes. n ≡ min (length bytes) count_end)
    → read_outcome absent path found ≡ end (TooLarge path)
read_long absent path n None h is = absurd is
read_long absent path n (Some bytes) h is =
    ap (λ b. if b then end (TooLarge path) else value bytes)
    (lt-ltb file_limit (length bytes) (long n (length bytes) file_limit h is))

-- an answer of another kind is no absence
pub present : (answer : FileAnswer)
    → (answer ≡ answers.Failed)
    ⊎ ((n : ℕ) × (answer ≡ answers.TooLarge n))
    ⊎ (answer ≡ answers.Memory)
    → answer ≡ answers.Absent → ⊥
present answer (inl failed) absent = cc
present answer (inr (inl (n, large))) absent = cc
present answer (inr (inr memory)) absent = cc

pub read_ok : (absent : Outcome (List ℕ)) (path bytes : List ℕ) (old new : FilesSeen)
    (out err : OutSeen)
    → ReadAnswers path old new (Ok bytes)
    → Follows (λ (x : List ℕ). x) (reads_or absent path) (world old out err) (world new out err)
    (Ok bytes)
read_ok absent path bytes old new out err a =
    subst (λ f. Follows (λ (x : List ℕ). x) (reads_or absent path) (world old out err)
    (world f out err) (Ok bytes)) (sym a.0)
    (call_gave (λ (x : List ℕ). x) _ _ _ old old.counts out err bytes (λ shown. refl)
    (fell_ok old.counts) refl (inr (inr (bytes, a.1.0, refl)))
    (read_told absent path bytes old a.1))

-- nothing was there, which gives a value
pub read_absent : (path default : List ℕ) (old new : FilesSeen) (out err : OutSeen)
    → ReadAnswers path old new (Err answers.Absent)
    → Follows (λ (x : List ℕ). x) (reads_or (value default) path) (world old out err)
    (world new out err) (Ok default)
read_absent path default old new out err a =
    subst (λ f. Follows (λ (x : List ℕ). x) (reads_or (value default) path) (world old out err)
    (world f out err) (Ok default)) (sym a.0)
    (call_gave (λ (x : List ℕ). x) _ _ _ old (refused old.counts answers.Absent) out err default
    (λ shown. refl) (fell old.counts answers.Absent) refl (inl refl)
    (λ told h. ap (read_outcome (value default) path)
    (some_at (λ t. map.get t path ≡ None) old.contents told h a.1)))

-- whatever a refused read answers, the stop is its stage's
pub read_refused : (absent : Outcome (List ℕ)) (path : List ℕ) (answer : FileAnswer)
    (old new : FilesSeen) (out err : OutSeen)
    → (answer ≡ answers.Absent → absent ≡ end (NoFile path)) → ReadAnswers path old new (Err answer)
    → Follows (λ (x : List ℕ). x) (reads_or absent path) (world old out err) (world new out err)
    (Err (stop_for answer path))
read_refused absent path answer old new out err needed a =
    subst (λ f. Follows (λ (x : List ℕ). x) (reads_or absent path) (world old out err)
    (world f out err) (Err (stop_for answer path))) (sym a.0) (by_answer answer needed a.1)
  where
    by_answer : (answer : FileAnswer) → (answer ≡ answers.Absent → absent ≡ end (NoFile path))
        → IsReadAt path old (Err answer)
        → Follows (λ (x : List ℕ). x) (reads_or absent path) (world old out err)
        (world (one_called old (refused old.counts answer)) out err)
        (Err (stop_for answer path))
    by_answer answers.Absent needed a =
        call_ended (λ (x : List ℕ). x) _ _ _ old (refused old.counts answers.Absent) out err
        (NoFile path) (λ shown. refl) (fell old.counts answers.Absent) refl (omega arith)
        (inl (sym (needed refl)))
        (λ told h. ap (read_outcome absent path)
        (some_at (λ t. map.get t path ≡ None) old.contents told h a)
        ∙ needed refl)
    by_answer answers.Failed needed a
        = call_failed (λ (x : List ℕ). x) path (read path) _ _ old out err ((λ shown. refl), refl) a
    by_answer (answers.TooLarge n) needed a =
        call_ended (λ (x : List ℕ). x) _ _ _ old (refused old.counts (answers.TooLarge n)) out err
        (TooLarge path) (λ shown. refl) (fell old.counts (answers.TooLarge n)) refl
        (omega arith) (inr (inl refl))
        (λ told h. read_long absent path n (map.get told path) a.0
        (some_at
        (λ t. IsSomeAnd (map.get t path) (λ bytes. n ≡ min (length bytes) count_end))
        old.contents told h a.1))
    by_answer answers.Memory needed a
        = call_wanting (λ (x : List ℕ). x) path (read path) _ _ old out err ((λ shown. refl), refl)

-- where nothing is a path, nothing that is one is listed
fewer : (fits : List ℕ → Bool) (rests : List (List ℕ))
    → ((name : List ℕ) → fits name ≡ true → is_path name ≡ true) → filter is_path rests ≡ []
    → filter fits rests ≡ []
fewer fits [] paths = λ e. refl
fewer fits (rest ∷ rests) paths =
    by_tests (fits rest) (is_path rest) refl refl (fewer fits rests paths)
  where
    differ : false ≡ true → ⊥
    differ e = cc

    by_tests : (f p : Bool) → fits rest ≡ f → is_path rest ≡ p
        → (filter is_path rests ≡ [] → filter fits rests ≡ [])
        → cond p (rest ∷ filter is_path rests) (filter is_path rests) ≡ []
        → cond f (rest ∷ filter fits rests) (filter fits rests) ≡ []
    by_tests f true ef ep more e = cc
    by_tests false false ef ep more e = more e
    by_tests true false ef ep more e = absurd (differ (sym ep ∙ paths rest ef))

-- the name of a configuration file has a byte
pub conf_is_path : (name : List ℕ) → is_conf_name name ≡ true → is_path name ≡ true
conf_is_path [] e = cc
conf_is_path (byte ∷ name) e = lt-ltb 0 (length (byte ∷ name)) (omega arith)

-- what is known of a listing decides its outcome
list_few : (absent : Outcome (List (List ℕ))) (folder : List ℕ) (below names : List (List ℕ))
    → below ≢ [] → length names ≤ list_limit → list_outcome absent folder below names ≡ value names
list_few absent folder [] names some few = absurd (some refl)
list_few absent folder (x ∷ below) names some few =
    ap (λ b. if b then end (TooLarge folder) else value names)
    (le-ltb list_limit (length names) few)

list_many : (absent : Outcome (List (List ℕ))) (fits : List ℕ → Bool) (folder : List ℕ) (n : ℕ)
    (below names : List (List ℕ))
    → (below ≡ [] → names ≡ []) → list_limit < n → n ≡ min (length names) count_end
    → list_outcome absent folder below names ≡ end (TooLarge folder)
list_many absent fits folder n [] names none h e =
    let no : length names ≡ 0 = ap length (none refl) in absurd (omega (arith, no, h, e))
list_many absent fits folder n (x ∷ below) names none h e =
    ap (λ b. if b then end (TooLarge folder) else value names)
    (lt-ltb list_limit (length names) (long n (length names) list_limit h e))

list_told : (absent : Outcome (List (List ℕ))) (fits : List ℕ → Bool) (folder : List ℕ)
    (names : List (List ℕ)) (files : FilesSeen)
    → IsListOf fits folder files (Ok names) → (told : Contents) → files.contents ≡ Some told
    → list_outcome absent folder (listed is_path folder told) (listed fits folder told)
    ≡ value names
list_told absent fits folder names files a told h =
    let t
    = some_at (λ t. (names ≡ listed fits folder t) × (listed is_path folder t ≢ []))
    files.contents told h a.3 in
    ap (list_outcome absent folder (listed is_path folder told)) (sym t.0)
    ∙ list_few absent folder (listed is_path folder told) names t.1 a.2

pub list_ok : (absent : Outcome (List (List ℕ))) (fits : List ℕ → Bool) (folder : List ℕ)
    (names : List (List ℕ)) (old new : FilesSeen) (out err : OutSeen)
    → ListAnswers fits folder old new (Ok names)
    → Follows (λ (x : List (List ℕ)). x) (lists_or absent fits folder) (world old out err)
    (world new out err) (Ok names)
list_ok absent fits folder names old new out err a =
    subst (λ f. Follows (λ (x : List (List ℕ)). x) (lists_or absent fits folder) (world old out err)
    (world f out err) (Ok names)) (sym a.0)
    (call_gave (λ (x : List (List ℕ)). x) _ _ _ old old.counts out err names (λ shown. refl)
    (fell_ok old.counts) refl (inr (inr (names, a.1.0, a.1.1, a.1.2, refl)))
    (list_told absent fits folder names old a.1))

pub list_absent : (fits : List ℕ → Bool) (folder : List ℕ) (default : List (List ℕ))
    (old new : FilesSeen) (out err : OutSeen)
    → ListAnswers fits folder old new (Err answers.Absent)
    → Follows (λ (x : List (List ℕ)). x) (lists_or (value default) fits folder) (world old out err)
    (world new out err) (Ok default)
list_absent fits folder default old new out err a =
    subst (λ f. Follows (λ (x : List (List ℕ)). x) (lists_or (value default) fits folder)
    (world old out err) (world f out err) (Ok default)) (sym a.0)
    (call_gave (λ (x : List (List ℕ)). x) _ _ _ old (refused old.counts answers.Absent) out err
    default (λ shown. refl) (fell old.counts answers.Absent) refl (inl refl)
    (λ told h. ap (λ below. list_outcome (value default) folder below (listed fits folder told))
    (some_at (λ t. listed is_path folder t ≡ []) old.contents told h a.1)))

-- whatever a refused listing answers, the stop is its stage's
pub list_refused : (absent : Outcome (List (List ℕ))) (fits : List ℕ → Bool) (folder : List ℕ)
    (answer : FileAnswer) (old new : FilesSeen) (out err : OutSeen)
    → ((name : List ℕ) → fits name ≡ true → is_path name ≡ true)
    → (answer ≡ answers.Absent → absent ≡ end (NoFile folder))
    → ListAnswers fits folder old new (Err answer)
    → Follows (λ (x : List (List ℕ)). x) (lists_or absent fits folder) (world old out err)
    (world new out err) (Err (stop_for answer folder))
list_refused absent fits folder answer old new out err paths needed a =
    subst (λ f. Follows (λ (x : List (List ℕ)). x) (lists_or absent fits folder) (world old out err)
    (world f out err) (Err (stop_for answer folder))) (sym a.0) (by_answer answer needed a.1)
  where
    by_answer : (answer : FileAnswer) → (answer ≡ answers.Absent → absent ≡ end (NoFile folder))
        → IsListOf fits folder old (Err answer)
        → Follows (λ (x : List (List ℕ)). x) (lists_or absent fits folder) (world old out err)
        (world (one_called old (refused old.counts answer)) out err)
        (Err (stop_for answer folder))
    by_answer answers.Absent needed a =
        call_ended (λ (x : List (List ℕ)). x) _ _ _ old (refused old.counts answers.Absent) out err
        (NoFile folder) (λ shown. refl) (fell old.counts answers.Absent) refl (omega arith)
        (inl (sym (needed refl)))
        (λ told h. ap (λ below. list_outcome absent folder below (listed fits folder told))
        (some_at (λ t. listed is_path folder t ≡ []) old.contents told h a)
        ∙ needed refl)
    by_answer answers.Failed needed a
        = call_failed (λ (x : List (List ℕ)). x) folder (list folder) _ _ old out err
        ((λ shown. refl), refl) a
    by_answer (answers.TooLarge n) needed a =
        call_ended (λ (x : List (List ℕ)). x) _ _ _ old (refused old.counts (answers.TooLarge n))
        out err (TooLarge folder) (λ shown. refl) (fell old.counts (answers.TooLarge n)) refl
        (omega arith) (inr (inl refl))
        (λ told h. list_many absent fits folder n (listed is_path folder told)
        (listed fits folder told) (fewer fits (rests_below folder told) paths) a.0
        (some_at (λ t. n ≡ min (length (listed fits folder t)) count_end) old.contents told
        h a.1))
    by_answer answers.Memory needed a
        = call_wanting (λ (x : List (List ℕ)). x) folder (list folder) _ _ old out err
        ((λ shown. refl), refl)

-- a file was put
put_follows : (path bytes : List ℕ) (old new : FilesSeen) (out err : OutSeen)
    → ReplaceAnswers path bytes old new (Ok tt)
    → Follows (λ (x : ⊤). x) (puts path bytes) (world old out err) (world new out err) (Ok tt)
unfolding act_with
put_follows path bytes old new out err a =
    subst (λ f. Follows (λ (x : ⊤). x) (puts path bytes) (world old out err) (world f out err)
    (Ok tt)) (sym a)
    (record {
      keeps = record {
        files
            = record {
              told = kept old.contents;
              calls = later old.calls;
              sure = refl;
              counts = fell_ok old.counts;
            };
        out = KeepsOut-same out;
        err = KeepsOut-same err;
      };
      counts = record { files = refl; out = refl; err = refl };
      comes = refl;
      told = λ shown h. (
        refl,
        record {
          files = ap (option_map (λ told. map.insert told path bytes)) h.files;
          calls = ap (option_map one_more) h.calls;
          out = h.out;
          err = h.err;
        },
      );
    })
  where
    kept : (o : Option Contents)
        → is_some (option_map (λ told. map.insert told path bytes) o) ≡ is_some o
    kept None = refl
    kept (Some told) = refl

pub put_ok : (path bytes : List ℕ) (old new : FilesSeen) (out err : OutSeen)
    → ReplaceAnswers path bytes old new (Ok tt)
    → Follows (λ (x : ⊤). x) (puts path bytes) (world old out err) (world new out err) (Ok tt)
put_ok path bytes old new out err a = put_follows path bytes old new out err a

pub put_failed : (path bytes : List ℕ) (old new : FilesSeen) (out err : OutSeen)
    → ReplaceAnswers path bytes old new (Err replaces.Failed)
    → Follows (λ (x : ⊤). x) (puts path bytes) (world old out err) (world new out err)
    (Err (FileFault path))
put_failed path bytes old new out err a =
    subst (λ f. Follows (λ (x : ⊤). x) (puts path bytes) (world old out err) (world f out err)
    (Err (FileFault path))) (sym a.0)
    (call_failed (λ (x : ⊤). x) path (put path bytes) _ _ old out err ((λ shown. refl), refl) a.1)

pub put_wanting : (path bytes : List ℕ) (old new : FilesSeen) (out err : OutSeen)
    → ReplaceAnswers path bytes old new (Err replaces.Memory)
    → Follows (λ (x : ⊤). x) (puts path bytes) (world old out err) (world new out err) (Err Memory)
put_wanting path bytes old new out err a =
    subst (λ f. Follows (λ (x : ⊤). x) (puts path bytes) (world old out err) (world f out err)
    (Err Memory)) (sym a)
    (call_wanting (λ (x : ⊤). x) path (put path bytes) _ _ old out err ((λ shown. refl), refl))

extended : (old : Option (List ℕ)) (piece : List ℕ)
    → Extends old (option_map (λ bytes. bytes ++ piece) old)
extended None piece = refl
extended (Some bytes) piece = (piece, refl)

-- what a write keeps of its output
pub keeps_written : (old new : OutSeen) (piece : List ℕ)
    → new.told ≡ option_map (λ bytes. bytes ++ piece) old.told → new.room ≡ old.room
    → old.faults ≤ new.faults → KeepsOut old new
keeps_written old new piece t r f =
    record
    { told = subst (Extends old.told) (sym t) (extended old.told piece); room = r; faults = f }

pub told_more : (o : Option (List ℕ)) (written piece : List ℕ) → o ≡ Some written
    → option_map (λ bytes. bytes ++ piece) o ≡ Some (written ++ piece)
told_more o written piece e = ap (option_map (λ bytes. bytes ++ piece)) e

pub passes : (out : OutSeen) (room : Option ℕ) (written piece : List ℕ) → room ≡ out.room
    → out.told ≡ Some written → LacksRoom out piece → PassesRoom room written piece
passes out room written piece same told lacks =
    subst (λ r. PassesRoom r written piece) (sym same)
    (subst (λ t. IfSome t (λ bytes. IfSome out.room (λ n. n < length bytes + length piece)))
    told lacks)

pub rose_by_one : (n : ℕ) → one_more n ≤ one_more n
rose_by_one n = omega arith

pub say_ok : (piece : List ℕ) (files : FilesSeen) (old new err : OutSeen)
    → WriteAnswers piece old new (Ok tt)
    → Follows (λ (x : ⊤). x) (says piece) (world files old err) (world files new err) (Ok tt)
unfolding act_with
say_ok piece files old new err a =
    let told = ap (λ o. o.told) a.0 in
    let room = ap (λ o. o.room) a.0 in
    let faults = ap (λ o. o.faults) a.0 in
    record {
      keeps
          = record {
            files = KeepsFiles-same files;
            out = keeps_written old new piece told room (omega arith);
            err = KeepsOut-same err;
          };
      counts = record { files = refl; out = faults; err = refl };
      comes = refl;
      told
          = λ shown h. (
            refl,
            record {
              files = h.files;
              calls = h.calls;
              out = told ∙ told_more old.told shown.out piece h.out;
              err = h.err;
            },
          );
    }

pub say_failed : (piece : List ℕ) (e : OutFailed) (files : FilesSeen) (old new err : OutSeen)
    → WriteAnswers piece old new (Err e)
    → Follows (λ (x : ⊤). x) (says piece) (world files old err) (world files new err)
    (Err OutputFault)
unfolding act_with
say_failed piece e files old new err a =
    let part = take a.0.0 piece in
    let told = ap (λ o. o.told) a.0.2 in
    let room = ap (λ o. o.room) a.0.2 in
    let faults = ap (λ o. o.faults) a.0.2 in
    record {
      keeps
          = record {
            files = KeepsFiles-same files;
            out = keeps_written old new part told room (omega (arith, faults));
            err = KeepsOut-same err;
          };
      counts = (omega (arith, faults), refl, refl);
      comes = tt;
      told = λ shown h. record {
        before = [];
        rest = say piece ∷ [];
        count = a.0.0;
        split = refl;
        tells
            = record {
              files = h.files;
              calls = h.calls;
              out = told ∙ told_more old.told shown.out part h.out;
              err = h.err;
            };
        because = passes old new.room shown.out piece room h.out a.2;
      };
    }

pub warn_ok : (piece : List ℕ) (files : FilesSeen) (out old new : OutSeen)
    → WriteAnswers piece old new (Ok tt)
    → Follows (λ (x : ⊤). x) (warns piece) (world files out old) (world files out new) (Ok tt)
unfolding act_with
warn_ok piece files out old new a =
    let told = ap (λ o. o.told) a.0 in
    let room = ap (λ o. o.room) a.0 in
    let faults = ap (λ o. o.faults) a.0 in
    record {
      keeps
          = record {
            files = KeepsFiles-same files;
            out = KeepsOut-same out;
            err = keeps_written old new piece told room (omega arith);
          };
      counts = record { files = refl; out = refl; err = faults };
      comes = refl;
      told
          = λ shown h. (
            refl,
            record {
              files = h.files;
              calls = h.calls;
              out = h.out;
              err = told ∙ told_more old.told shown.err piece h.err;
            },
          );
    }

pub warn_failed : (piece : List ℕ) (e : OutFailed) (files : FilesSeen) (out old new : OutSeen)
    → WriteAnswers piece old new (Err e)
    → Follows (λ (x : ⊤). x) (warns piece) (world files out old) (world files out new)
    (Err WarningFault)
unfolding act_with
warn_failed piece e files out old new a =
    let part = take a.0.0 piece in
    let told = ap (λ o. o.told) a.0.2 in
    let room = ap (λ o. o.room) a.0.2 in
    let faults = ap (λ o. o.faults) a.0.2 in
    record {
      keeps
          = record {
            files = KeepsFiles-same files;
            out = KeepsOut-same out;
            err = keeps_written old new part told room (omega (arith, faults));
          };
      counts = (omega (arith, faults), refl, refl);
      comes = tt;
      told = λ shown h. record {
        before = [];
        rest = warn piece ∷ [];
        count = a.0.0;
        split = refl;
        tells
            = record {
              files = h.files;
              calls = h.calls;
              out = h.out;
              err = told ∙ told_more old.told shown.err part h.err;
            };
        because = passes old new.room shown.err piece room h.err a.2;
      };
    }

-- no bytes are no act
pub say_none : (bytes : List ℕ) (w : World) → true ≡ (length bytes == 0)
    → Follows (λ (x : ⊤). x) (says_any bytes) w w (Ok tt)
say_none [] w h = gave (λ (x : ⊤). x) w tt
say_none (byte ∷ bytes) w h =
    let none : length (byte ∷ bytes) ≡ 0
    = eqb-true (length (byte ∷ bytes)) 0 (sym h) in absurd (omega arith)

-- and some are one
pub say_some : (bytes : List ℕ) (old new : World) (r : Result ⊤ Stop) → false ≡ (length bytes == 0)
    → Follows (λ (x : ⊤). x) (says bytes) old new r
    → Follows (λ (x : ⊤). x) (says_any bytes) old new r
say_some [] old new r h f = cc
say_some (byte ∷ bytes) old new r h f = f
