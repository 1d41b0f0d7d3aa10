-- Words for the contracts of functions above the traits: a call followed its stage on some of the
-- three objects, whatever the others are, and left these as they were. `seen` reads what a contract
-- sees of an object, which was old and is new.
use Rattle.std.specs.Prelude.{Result}
use Rattle.outside_calls.specs.FilesSeen.{FilesSeen}
use Rattle.outside_calls.specs.OutSeen.{OutSeen}
use Rattle.km_course.specs.Course.{Outcome, Stage}
use Rattle.km_course.specs.World.{world}
use Rattle.km_course.specs.Follows.{Answers, Follows}
use Rattle.km_course.specs.declared.stop.Stop.{Stop}

-- The call followed the stage on the files alone. Its result's value is read by `view`.
abbrev pub FollowsOnFilesAs : {F T X : Type 0} → (T → X) → Stage X → (F → FilesSeen) → F → F
    → Result T Stop → Type 0
FollowsOnFilesAs view stage seen old new result =
    (out err : OutSeen)
    → Follows view stage (world (seen old) out err) (world (seen new) out err) result

-- The call followed the stage on the files alone.
abbrev pub FollowsOnFiles : {F X : Type 0} → Stage X → (F → FilesSeen) → F → F → Result X Stop
    → Type 0
FollowsOnFiles stage seen old new result = FollowsOnFilesAs (λ x. x) stage seen old new result

-- The call followed the stage on the output alone. Its result's value is read by `view`.
abbrev pub FollowsOnOutAs : {O T X : Type 0} → (T → X) → Stage X → (O → OutSeen) → O → O
    → Result T Stop → Type 0
FollowsOnOutAs view stage seen old new result =
    (files : FilesSeen) (err : OutSeen)
    → Follows view stage (world files (seen old) err) (world files (seen new) err) result

-- The call followed the stage on the output alone.
abbrev pub FollowsOnOut : {O X : Type 0} → Stage X → (O → OutSeen) → O → O → Result X Stop → Type 0
FollowsOnOut stage seen old new result = FollowsOnOutAs (λ x. x) stage seen old new result

-- The call followed the stage on err alone.
abbrev pub FollowsOnErr : {E X : Type 0} → Stage X → (E → OutSeen) → E → E → Result X Stop → Type 0
FollowsOnErr stage seen old new result =
    (files : FilesSeen) (out : OutSeen)
    → Follows (λ x. x) stage (world files out (seen old)) (world files out (seen new)) result

-- The call followed the stage on the files and the output.
abbrev pub FollowsOnFilesAndOut : {F O X : Type 0} → Stage X → (F → FilesSeen) → F → F
    → (O → OutSeen) → O → O → Result X Stop → Type 0
FollowsOnFilesAndOut stage files_seen files new_files out_seen out new_out result =
    (err : OutSeen)
    → Follows (λ x. x) stage (world (files_seen files) (out_seen out) err)
    (world (files_seen new_files) (out_seen new_out) err) result

-- The call answers this outcome, or out of memory. It uses none of the three objects.
abbrev pub Returns : {X : Type 0} → Outcome X → Result X Stop → Type 0
Returns outcome result = Answers (λ x. x) outcome result
