-- What a contract sees of the files of the machine that the program runs on: only counts.
use Rattle.std.specs.Prelude.{ℕ, ◌<◌, false, Some, None, ⊤}
use Rattle.std.specs.declared.io.ErrorKind.{ErrorKind}
use Rattle.std.specs.declared.io.ErrorKind.TheVariants.{NotFound, NotADirectory, IsADirectory}
use Rattle.std.specs.declared.io.ErrorKind.TheVariants.{OutOfMemory}
use Rattle.outside_calls.specs.Counted.{Counted}
use Rattle.outside_calls.specs.FilesSeen.{FilesSeen}
use Rattle.outside_calls.specs.declared.files.FileAnswer.{FileAnswer}
use Rattle.outside_calls.specs.declared.files.FileAnswer.TheVariants.{Absent, Failed, TooLarge}
use Rattle.outside_calls.specs.declared.files.FileAnswer.TheVariants.{Memory}

-- What is seen of them as files: their contents aren't known, and calls may fail.
abbrev pub disk_seen : Counted → FilesSeen
disk_seen counted =
    record { counts = counted.counts; calls = Some counted.calls; contents = None; sure = false }

-- The answer to an error of the system. It is Absent if nothing is there, if a part of the path is
-- no folder, and if a folder is there.
abbrev pub answer_of : ErrorKind → FileAnswer
answer_of NotFound = Absent
answer_of NotADirectory = Absent
answer_of IsADirectory = Absent
answer_of OutOfMemory = Memory
answer_of _ = Failed

-- A refusal for exceeding a limit has a number past this limit.
abbrev pub IsPast : ℕ → FileAnswer → Type 0
IsPast limit (TooLarge n) = limit < n
IsPast limit _ = ⊤
