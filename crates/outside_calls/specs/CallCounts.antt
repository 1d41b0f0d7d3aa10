-- The number of refused calls of files, by their cause.
use Rattle.std.specs.Prelude.{ℕ, ◌≤◌, Result, Ok, Err}
use Rattle.outside_calls.specs.Counts.{one_more}
use Rattle.outside_calls.specs.declared.files.FileAnswer.{FileAnswer}
use Rattle.outside_calls.specs.declared.files.FileAnswer.TheVariants.{Absent, Failed, TooLarge}
use Rattle.outside_calls.specs.declared.files.FileAnswer.TheVariants.{Memory}
use Rattle.outside_calls.specs.declared.files.ReplaceAnswer.{ReplaceAnswer}
use Rattle.outside_calls.specs.declared.files.ReplaceAnswer.TheVariants as replaces

-- How many calls failed, found nothing or exceeded a limit.
pub record CallCounts : Type 0 where
  pub faults : ℕ
  pub absences : ℕ
  pub excesses : ℕ

-- Counts of zero.
abbrev pub no_counts : CallCounts
no_counts = record { faults = 0; absences = 0; excesses = 0 }

-- The counts after a refusal: the count of its cause is one higher. Out of memory isn't counted.
abbrev pub refused : CallCounts → FileAnswer → CallCounts
refused counts Absent = record counts { absences = one_more counts.absences }
refused counts Failed = record counts { faults = one_more counts.faults }
refused counts (TooLarge _) = record counts { excesses = one_more counts.excesses }
refused counts Memory = counts

-- The counts after a call that reads a file or lists a folder, with this answer.
abbrev pub answered : {T : Type 0} → CallCounts → Result T FileAnswer → CallCounts
answered counts (Ok _) = counts
answered counts (Err refusal) = refused counts refusal

-- The counts after a call that replaces a file, with this answer.
abbrev pub replied : {T : Type 0} → CallCounts → Result T ReplaceAnswer → CallCounts
replied counts (Ok _) = counts
replied counts (Err replaces.Failed) = refused counts Failed
replied counts (Err replaces.Memory) = counts

-- No count fell.
pub record NoneFell (before now : CallCounts) : Type 0 where
  pub faults : before.faults ≤ now.faults
  pub absences : before.absences ≤ now.absences
  pub excesses : before.excesses ≤ now.excesses
