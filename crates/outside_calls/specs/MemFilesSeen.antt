-- What a contract sees of files that are kept in memory.
use Rattle.std.specs.Prelude.{ℕ, nat_lt, ◌==◌, ◌&&◌, Bool, List, length, min, Option, Some, None}
use Rattle.std.specs.Prelude.{Result, Ok, Err, ⊤, if◌then◌else◌}
use Rattle.std.specs.FinMap as map
use Rattle.km_names.specs.Limit.{file_limit}
use Rattle.outside_calls.specs.CallCounts.{CallCounts, no_counts, answered, replied}
use Rattle.outside_calls.specs.Contents.{Contents, listed, is_path}
use Rattle.outside_calls.specs.Counts.{count_end, one_more}
use Rattle.outside_calls.specs.CallsSeen.{CallsSeen, no_calls, next_fails, called, with_failing}
use Rattle.outside_calls.specs.CallsSeen.{none_listed}
use Rattle.outside_calls.specs.FilesSeen.{FilesSeen, list_limit}
use Rattle.outside_calls.specs.declared.files.FileAnswer.{FileAnswer}
use Rattle.outside_calls.specs.declared.files.FileAnswer.TheVariants.{Absent, Failed, TooLarge}
use Rattle.outside_calls.specs.declared.files.ReplaceAnswer.{ReplaceAnswer}
use Rattle.outside_calls.specs.declared.mem_files.CallKind.{CallKind}
use Rattle.outside_calls.specs.declared.mem_files.CallKind.TheVariants.{Read, ListConf, ListTree}
use Rattle.outside_calls.specs.declared.mem_files.CallKind.TheVariants.{Replace}

-- The calls of each kind, by number.
pub record KindsSeen : Type 0 where
  pub reads : CallsSeen
  pub conf_lists : CallsSeen
  pub tree_lists : CallsSeen
  pub replaces : CallsSeen

-- The files, the calls by kind and number, how many calls were made, and the counts of refusals.
pub record MemFilesSeen : Type 0 where
  pub contents : Contents
  pub kinds : KindsSeen
  pub calls : ℕ
  pub counts : CallCounts

-- Whether no call is listed to fail.
abbrev pub no_kind_listed : KindsSeen → Bool
no_kind_listed kinds =
    none_listed kinds.reads
    && none_listed kinds.conf_lists
    && none_listed kinds.tree_lists
    && none_listed kinds.replaces

-- What is seen of them as files. Their contents are known, and they are sure if no call is listed
-- to fail.
abbrev pub mem_files_seen : MemFilesSeen → FilesSeen
mem_files_seen files = record {
  counts = files.counts;
  calls = Some files.calls;
  contents = Some files.contents;
  sure = no_kind_listed files.kinds;
}

-- The state of no calls and none listed to fail.
abbrev pub no_kinds : KindsSeen
no_kinds =
    record { reads = no_calls; conf_lists = no_calls; tree_lists = no_calls; replaces = no_calls }

-- No files, no calls, and none listed to fail.
abbrev pub no_files : MemFilesSeen
no_files = record { contents = map.empty; kinds = no_kinds; calls = 0; counts = no_counts }

-- The files with these bytes at the path, in place of what was there.
abbrev pub with_file : MemFilesSeen → List ℕ → List ℕ → MemFilesSeen
with_file files path bytes = record files { contents = map.insert files.contents path bytes }

-- The calls of this kind.
abbrev pub calls_of : KindsSeen → CallKind → CallsSeen
calls_of kinds Read = kinds.reads
calls_of kinds ListConf = kinds.conf_lists
calls_of kinds ListTree = kinds.tree_lists
calls_of kinds Replace = kinds.replaces

-- The calls with these for this kind; the other kinds are as before.
abbrev pub with_calls : KindsSeen → CallKind → CallsSeen → KindsSeen
with_calls kinds Read calls = record kinds { reads = calls }
with_calls kinds ListConf calls = record kinds { conf_lists = calls }
with_calls kinds ListTree calls = record kinds { tree_lists = calls }
with_calls kinds Replace calls = record kinds { replaces = calls }

-- The files with the call of this kind and number listed to fail.
abbrev pub with_failing_call : MemFilesSeen → CallKind → ℕ → MemFilesSeen
with_failing_call files kind n =
    record files
    { kinds = with_calls files.kinds kind (with_failing (calls_of files.kinds kind) n) }

-- Whether the next call of this kind fails.
abbrev pub kind_fails : MemFilesSeen → CallKind → Bool
kind_fails files kind = next_fails (calls_of files.kinds kind)

-- The calls after one more of this kind.
abbrev pub kind_called : KindsSeen → CallKind → KindsSeen
kind_called kinds kind = with_calls kinds kind (called (calls_of kinds kind))

-- The answer to a read if these bytes, or nothing, are at the path.
abbrev pub found : Option (List ℕ) → Result (List ℕ) FileAnswer
found None = Err Absent
found (Some bytes) =
    if nat_lt file_limit (length bytes)
    then Err (TooLarge (min (length bytes) count_end))
    else Ok bytes

-- The answer to the next read of the path if there is enough memory.
abbrev pub mem_read : MemFilesSeen → List ℕ → Result (List ℕ) FileAnswer
mem_read files path =
    if kind_fails files Read then Err Failed else found (map.get files.contents path)

-- The answer to a listing if this many paths lie below the folder and these names are listed.
abbrev pub found_names : ℕ → List (List ℕ) → Result (List (List ℕ)) FileAnswer
found_names below names =
    if below == 0 then Err Absent
    else if nat_lt list_limit (length names)
    then Err (TooLarge (min (length names) count_end))
    else Ok names

-- The answer to the next listing of this kind if there is enough memory.
abbrev pub mem_list : MemFilesSeen → CallKind → (List ℕ → Bool) → List ℕ
    → Result (List (List ℕ)) FileAnswer
mem_list files kind fits folder =
    if kind_fails files kind then Err Failed
    else found_names (length (listed is_path folder files.contents))
    (listed fits folder files.contents)

-- The files after the next call of this kind, which read or listed with this answer.
abbrev pub after_call : {T : Type 0} → MemFilesSeen → CallKind → Result T FileAnswer → MemFilesSeen
after_call files kind answer = record files {
  kinds = kind_called files.kinds kind;
  calls = one_more files.calls;
  counts = answered files.counts answer;
}

-- The files after the next replacement, which had this answer.
abbrev pub after_replace : MemFilesSeen → List ℕ → List ℕ → Result ⊤ ReplaceAnswer → MemFilesSeen
after_replace files path bytes (Ok done) = record (with_file files path bytes) {
  kinds = kind_called files.kinds Replace;
  calls = one_more files.calls;
  counts = replied files.counts (Ok done);
}
after_replace files path bytes (Err refusal) = record files {
  kinds = kind_called files.kinds Replace;
  calls = one_more files.calls;
  counts = replied {T = ⊤} files.counts (Err refusal);
}
