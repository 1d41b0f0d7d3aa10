-- What the program is to do: acts on the files and outputs, in order, and how they end.
use Rattle.std.specs.Prelude.{◌≡◌, ◌⊎◌, ℕ, ◌≤◌, nat_lt, Bool, true, false, All, if◌then◌else◌, List}
use Rattle.std.specs.Prelude.{[], ◌∷◌, ◌++◌, length, Option, Some, None, ⊤}
use Rattle.std.specs.List.Sorted.{IsStrictlySortedBy}
use Rattle.std.specs.FinMap as map
use Rattle.outside_calls.specs.Contents.{Contents, by_bytes, listed, is_path, is_conf_name}
use Rattle.km_names.specs.Limit.{file_limit}
use Rattle.outside_calls.specs.FilesSeen.{list_limit}
use Rattle.km_course.specs.declared.end.End.{End}
use Rattle.km_course.specs.declared.end.End.TheVariants.{NoFile, NotUnderstood, Refused, TooLarge}
use Rattle.km_course.specs.declared.refusal.Refusal.{Refusal}

-- One act: reading a file, listing a folder, writing bytes to the output, writing bytes to err, or
-- putting a file of these bytes at a path.
pub data Act : Type 0 where
  read : List ℕ → Act
  list : List ℕ → Act
  say : List ℕ → Act
  warn : List ℕ → Act
  put : List ℕ → List ℕ → Act

-- The outcome of acts: a value for what comes next, or an end.
pub data Outcome (X : Type 0) : Type 0 where
  value : X → Outcome X
  end : End → Outcome X

-- Acts, and their outcome.
pub record Run (X : Type 0) : Type 0 where
  pub acts : List Act
  pub outcome : Outcome X

-- A part of a command, or all of it. Over known files it says which acts are done, in order, and
-- how they end. Over others, which may change from call to call, it says how the acts may end,
-- whatever the calls answer.
pub record Stage (X : Type 0) : Type 1 where
  pub run : Contents → Run X
  pub possible : Outcome X → Type 0

-- The files after the act: a file that is put is at its path.
abbrev pub file_done : Act → Contents → Contents
file_done (put path bytes) files = map.insert files path bytes
file_done _ files = files

-- The files after the acts.
abbrev pub after : List Act → Contents → Contents
after [] files = files
after (act ∷ acts) files = after acts (file_done act files)

-- The acts, and after a value also the acts of the stage that it makes, over the files that the
-- first acts leave.
unfoldable pub continued : {X Y : Type 0} → List Act → Outcome X → (X → Stage Y) → Contents → Run Y
continued acts (value x) next files =
    record {
      acts = acts ++ ((next x).run (after acts files)).acts;
      outcome = ((next x).run (after acts files)).outcome;
    }
continued acts (end e) next files = record { acts = acts; outcome = end e }

-- The outcomes possible after these: an outcome of the stage that a value makes, or the end that
-- came first.
unfoldable pub possible_after : {X Y : Type 0} → (Outcome X → Type 0) → (X → Stage Y) → Outcome Y
    → Type 0
possible_after {X} possible next outcome =
    ((x : X) × possible (value x) × (next x).possible outcome)
    ⊎ ((e : End) × possible (end e) × (outcome ≡ end e))

infixl 10 ◌>>=◌
-- A stage, and then the one that is made of its value.
unfoldable pub ◌>>=◌ : {X Y : Type 0} → Stage X → (X → Stage Y) → Stage Y
stage >>= next = record {
  run = λ files. continued (stage.run files).acts (stage.run files).outcome next files;
  possible = possible_after stage.possible next;
}

-- No act, and this outcome.
unfoldable pub given : {X : Type 0} → Outcome X → Stage X
given outcome = record {
  run = λ files. record { acts = []; outcome = outcome };
  possible = λ other. other ≡ outcome;
}

-- This act, and the outcome that the files give it, which is one of the possible ones.
unfoldable pub act_with : {X : Type 0} → Act → (Contents → Outcome X) → (Outcome X → Type 0)
    → Stage X
act_with act outcome possible = record {
  run = λ files. record { acts = act ∷ []; outcome = outcome files };
  possible = possible;
}

-- This act, without a value.
abbrev pub acts_alone : Act → Stage ⊤
acts_alone act = act_with act (λ files. value tt) (λ outcome. outcome ≡ value tt)

-- No act, and this value.
abbrev pub gives : {X : Type 0} → X → Stage X
gives x = given (value x)

-- No act, and this end.
abbrev pub ends : {X : Type 0} → End → Stage X
ends e = given (end e)

-- The value, unless something is wrong, which refuses it like this.
abbrev pub value_unless : {F X : Type 0} → (F → Refusal) → Option F → X → Outcome X
value_unless refusal None x = value x
value_unless refusal (Some fault) x = end (Refused (refusal fault))

-- The course of what words ask for, if they are understood.
abbrev pub if_understood : {A : Type 0} → (A → Stage ⊤) → Option A → Stage ⊤
if_understood course None = ends NotUnderstood
if_understood course (Some asked) = course asked

infix 1 when◌then◌else◌
-- The first stage if the test holds, and otherwise the second.
abbrev pub when◌then◌else◌ : {X : Type 0} → Bool → Stage X → Stage X → Stage X
when◌then◌else◌ true first second = first
when◌then◌else◌ false first second = second

-- The outcome of reading the path if these bytes, or nothing, are there. `absent` is the outcome if
-- nothing is.
abbrev pub read_outcome : Outcome (List ℕ) → List ℕ → Option (List ℕ) → Outcome (List ℕ)
read_outcome absent path None = absent
read_outcome absent path (Some bytes) =
    if nat_lt file_limit (length bytes) then end (TooLarge path) else value bytes

-- The bytes of the file at the path, and this outcome if nothing is there.
abbrev pub reads_or : Outcome (List ℕ) → List ℕ → Stage (List ℕ)
reads_or absent path =
    act_with (read path) (λ files. read_outcome absent path (map.get files path))
    (λ outcome. (outcome ≡ absent) ⊎ (outcome ≡ end (TooLarge path))
    ⊎ ((bytes : List ℕ) × (length bytes ≤ file_limit) × (outcome ≡ value bytes)))

-- The bytes of the file at the path, which is needed.
abbrev pub reads : List ℕ → Stage (List ℕ)
reads path = reads_or (end (NoFile path)) path

-- The bytes of the file at the path, and none if nothing is there.
abbrev pub reads_any : List ℕ → Stage (List ℕ)
reads_any path = reads_or (value []) path

-- The outcome of listing the folder if these paths lie below it and these names are listed.
-- `absent` is the outcome if nothing lies below it.
abbrev pub list_outcome : Outcome (List (List ℕ)) → List ℕ → List (List ℕ) → List (List ℕ)
    → Outcome (List (List ℕ))
list_outcome absent folder [] names = absent
list_outcome absent folder (_ ∷ _) names =
    if nat_lt list_limit (length names) then end (TooLarge folder) else value names

-- The names below the folder that pass the test, and this outcome if nothing lies below it.
abbrev pub lists_or : Outcome (List (List ℕ)) → (List ℕ → Bool) → List ℕ → Stage (List (List ℕ))
lists_or absent fits folder =
    act_with (list folder)
    (λ files. list_outcome absent folder (listed is_path folder files)
    (listed fits folder files))
    (λ outcome. (outcome ≡ absent) ⊎ (outcome ≡ end (TooLarge folder))
    ⊎ ((names : List (List ℕ)) × IsStrictlySortedBy by_bytes names
    × All (λ name. fits name ≡ true) names
    × (length names ≤ list_limit) × (outcome ≡ value names)))

-- The names of the configuration files in the folder, which is needed.
abbrev pub lists_conf : List ℕ → Stage (List (List ℕ))
lists_conf folder = lists_or (end (NoFile folder)) is_conf_name folder

-- The names of the configuration files in the folder, and none if nothing is there.
abbrev pub lists_any_conf : List ℕ → Stage (List (List ℕ))
lists_any_conf folder = lists_or (value []) is_conf_name folder

-- The paths of all files below the folder, relative to it, which is needed.
abbrev pub lists_tree : List ℕ → Stage (List (List ℕ))
lists_tree folder = lists_or (end (NoFile folder)) is_path folder

-- These bytes to the output.
abbrev pub says : List ℕ → Stage ⊤
says bytes = acts_alone (say bytes)

-- These bytes to err.
abbrev pub warns : List ℕ → Stage ⊤
warns bytes = acts_alone (warn bytes)

-- A file of these bytes at the path.
abbrev pub puts : List ℕ → List ℕ → Stage ⊤
puts path bytes = acts_alone (put path bytes)

-- These bytes to the output, if there are any.
abbrev pub says_any : List ℕ → Stage ⊤
says_any [] = gives tt
says_any (byte ∷ bytes) = says (byte ∷ bytes)

-- The stage of each item in turn, which takes the value of the one before it. The value is the last
-- one's.
abbrev pub each_from : {A S : Type 0} → (S → A → Stage S) → S → List A → Stage S
each_from step state [] = gives state
each_from step state (item ∷ items) = step state item >>= λ next. each_from step next items
