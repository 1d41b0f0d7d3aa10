-- A course inside another: over files that were made for it, with outputs of its own whose
-- capacities are known.
use Rattle.std.specs.Prelude.{ℕ, nat_lt, Bool, ◌||◌, if◌then◌else◌, List, [], length, Some, ⊤}
use Rattle.outside_calls.specs.Contents.{Contents}
use Rattle.km_course.specs.Lines.{end_line}
use Rattle.km_course.specs.Course.{Outcome, Run, Stage, given}
use Rattle.km_course.specs.Course.Outcome.{value, end}
use Rattle.km_course.specs.World.{Shown, done}
use Rattle.km_course.specs.Carries.{whole_acts}
use Rattle.km_course.specs.declared.end.End.{End}
use Rattle.km_course.specs.declared.end.End.TheVariants as ends
use Rattle.km_course.specs.declared.refusal.Refusal.TheVariants.{InnerOutputFull}

-- What an inner course left: the files, and the bytes of its output.
pub record Left : Type 0 where
  pub files : Contents
  pub out : List ℕ

-- What is seen as an inner course begins: the files that were made, no call, and no byte written.
abbrev pub bare : Contents → Shown
bare files = record { files = files; calls = Some 0; out = []; err = [] }

-- What is seen after all acts of the inner course and the line of its end.
abbrev pub inner_told : Run ⊤ → Contents → Shown
inner_told run files = done (whole_acts run) (bare files)

-- Whether the capacity of an output is too small for all of the inner course.
abbrev pub overfull : ℕ → Shown → Bool
overfull room told = nat_lt room (length told.out) || nat_lt room (length told.err)

-- The end of an inner course as an end of the outer one: its line is kept unchanged. No call on the
-- objects outside is its cause.
abbrev pub inner_end : End → End
inner_end ends.NotUnderstood = ends.NotUnderstood
inner_end e = ends.Inner (end_line e)

-- The outcome of an inner course whose bytes all fit its outputs.
abbrev pub inner_fitting : Outcome ⊤ → Shown → Outcome Left
inner_fitting (value _) told = value (record { files = told.files; out = told.out })
inner_fitting (end e) told = end (inner_end e)

-- The outcome of an inner course: an output that would be full refuses it, and otherwise the
-- outcome is its own.
abbrev pub inner_outcome : ℕ → Run ⊤ → Contents → Outcome Left
inner_outcome room run files =
    if overfull room (inner_told run files) then end (ends.Refused InnerOutputFull)
    else inner_fitting run.outcome (inner_told run files)

-- The stage of an inner course, which does nothing to the objects outside.
abbrev pub inner : ℕ → Stage ⊤ → Contents → Stage Left
inner room course files = given (inner_outcome room (course.run files) files)
