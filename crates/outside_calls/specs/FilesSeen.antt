-- What a contract sees of the files that a program gets, and what each call may answer and leave.
use Rattle.std.specs.Prelude.{◌≡◌, ◌≢◌, ℕ, ◌≤◌, ◌<◌, min, Bool, true, false, List, [], length}
use Rattle.std.specs.Prelude.{Option, Some, None, Result, Ok, Err, IfSome, IsSomeAnd, All, ⊤}
use Rattle.std.specs.Option.{option_map}
use Rattle.std.specs.List.Sorted.{IsStrictlySortedBy}
use Rattle.std.specs.FinMap as map
use Rattle.km_names.specs.Limit.{file_limit}
use Rattle.outside_calls.specs.CallCounts.{CallCounts, answered, replied}
use Rattle.outside_calls.specs.Contents.{Contents, by_bytes, listed, is_path}
use Rattle.outside_calls.specs.Counts.{count_end, one_more}
use Rattle.outside_calls.specs.declared.files.FileAnswer.{FileAnswer}
use Rattle.outside_calls.specs.declared.files.FileAnswer.TheVariants.{Absent, Failed, TooLarge}
use Rattle.outside_calls.specs.declared.files.FileAnswer.TheVariants.{Memory}
use Rattle.outside_calls.specs.declared.files.ReplaceAnswer.{ReplaceAnswer}
use Rattle.outside_calls.specs.declared.files.ReplaceAnswer.TheVariants as replaces

-- The greatest number of names that a folder may have to be listed.
abbrev pub list_limit : ℕ
list_limit = 1000000

-- What is seen of files: the counts of refusals, how many calls were made if the files tell it, the
-- contents if they are known, and whether the files are sure. Sure means that no call fails.
pub record FilesSeen : Type 0 where
  pub counts : CallCounts
  pub calls : Option ℕ
  pub contents : Option Contents
  pub sure : Bool

-- The files after one more call, which left these counts and nothing else changed.
abbrev pub one_called : FilesSeen → CallCounts → FilesSeen
one_called files counts = record files { counts = counts; calls = option_map one_more files.calls }

-- What a read of the path may answer: bytes within the limit, that nothing is there, or the length
-- of a file past the limit. Over known contents these are the file's own. It may also answer that
-- the call failed, if the files aren't sure, or out of memory.
abbrev pub IsReadAt : List ℕ → FilesSeen → Result (List ℕ) FileAnswer → Type 0
IsReadAt path files (Ok bytes) =
    (length bytes ≤ file_limit) × IfSome files.contents (λ told. map.get told path ≡ Some bytes)
IsReadAt path files (Err Absent) = IfSome files.contents (λ told. map.get told path ≡ None)
IsReadAt path files (Err Failed) = files.sure ≡ false
IsReadAt path files (Err (TooLarge n)) =
    (file_limit < n)
    × IfSome files.contents
    (λ told. IsSomeAnd (map.get told path) (λ bytes. n ≡ min (length bytes) count_end))
IsReadAt path files (Err Memory) = ⊤

-- What a listing of the folder for the names that pass the test may answer: names within the limit,
-- that nothing lies below it, or their number past the limit. Names are each once and rising by
-- bytes. Over known contents the answer is the folder's own. It may also answer that the call
-- failed, if the files aren't sure, or out of memory.
abbrev pub IsListOf : (List ℕ → Bool) → List ℕ → FilesSeen → Result (List (List ℕ)) FileAnswer
    → Type 0
IsListOf fits folder files (Ok names) =
    IsStrictlySortedBy by_bytes names × All (λ name. fits name ≡ true) names
    × (length names ≤ list_limit)
    × IfSome files.contents
    (λ told. (names ≡ listed fits folder told) × (listed is_path folder told ≢ []))
IsListOf fits folder files (Err Absent) =
    IfSome files.contents (λ told. listed is_path folder told ≡ [])
IsListOf fits folder files (Err Failed) = files.sure ≡ false
IsListOf fits folder files (Err (TooLarge n)) =
    (list_limit < n)
    × IfSome files.contents (λ told. n ≡ min (length (listed fits folder told)) count_end)
IsListOf fits folder files (Err Memory) = ⊤

-- What a read answers and leaves: one more call was made, whose cause is counted if it is refused,
-- and nothing else changes.
abbrev pub ReadAnswers : List ℕ → FilesSeen → FilesSeen → Result (List ℕ) FileAnswer → Type 0
ReadAnswers path old new result =
    (new ≡ one_called old (answered old.counts result)) × IsReadAt path old result

-- The answer of a read into a buffer that holds these bytes after it.
abbrev pub buffered : List ℕ → Result ⊤ FileAnswer → Result (List ℕ) FileAnswer
buffered bytes (Ok done) = Ok bytes
buffered bytes (Err refusal) = Err refusal

-- What a listing answers and leaves: one more call was made, whose cause is counted if it is
-- refused, and nothing else changes.
abbrev pub ListAnswers : (List ℕ → Bool) → List ℕ → FilesSeen → FilesSeen
    → Result (List (List ℕ)) FileAnswer → Type 0
ListAnswers fits folder old new result =
    (new ≡ one_called old (answered old.counts result)) × IsListOf fits folder old result

-- The files with these bytes at the path, if the contents are known.
abbrev pub with_file_at : List ℕ → List ℕ → FilesSeen → FilesSeen
with_file_at path bytes files =
    record files { contents = option_map (λ told. map.insert told path bytes) files.contents }

-- What a replacement of the file at the path answers and leaves: the bytes are there and nothing
-- else changes, or all contents are as before.
abbrev pub ReplaceAnswers : List ℕ → List ℕ → FilesSeen → FilesSeen → Result ⊤ ReplaceAnswer
    → Type 0
ReplaceAnswers path bytes old new (Ok done) =
    new ≡ with_file_at path bytes (one_called old (replied old.counts (Ok done)))
ReplaceAnswers path bytes old new (Err replaces.Failed) =
    (new ≡ one_called old (replied {T = ⊤} old.counts (Err replaces.Failed))) × (old.sure ≡ false)
ReplaceAnswers path bytes old new (Err replaces.Memory) =
    new ≡ one_called old (replied {T = ⊤} old.counts (Err replaces.Memory))
