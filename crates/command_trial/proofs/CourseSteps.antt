-- The stages of a trial, one after the other.
use Rattle.std.proofs.Common.{◌≡◌, subst}
use Rattle.std.specs.Prelude.{Result, ⊤}
use Rattle.outside_calls.specs.MemFilesSeen.{MemFilesSeen}
use Rattle.km_course.specs.Course.{Stage, ◌>>=◌, says}
use Rattle.km_course.specs.Follows.{Answers, Follows}
use Rattle.km_course.specs.Inner.{Left, inner_outcome}
use Rattle.km_course.specs.World.{World}
use Rattle.km_course.specs.declared.stop.Stop.{Stop}
use Rattle.km_course.proofs.Steps.{answered}
use Rattle.kmod_words.specs.declared.trial.TrialWords.{TrialWords}
use Rattle.tree_gen.specs.Trial.{trial_contents, trial_files}
use Rattle.command_depmod.specs.Depmod.{depmod_course}
use Rattle.command_modprobe.specs.Modprobe.{modprobe_course}
use Rattle.command_trial.specs.Summary.{dependencies_left, summary}
use Rattle.command_trial.specs.Trial.{inner_room, indexes_made, loads_made}
use Rattle.command_trial.specs.Words.{depmod_words, modprobe_words}

-- the stage after the modules were loaded
abbrev pub says_after : TrialWords → Left → Left → Stage ⊤
says_after asked indexed left = says (summary asked.count (dependencies_left indexed.files) left)

-- the stage after the tree was indexed
abbrev pub loads_after : TrialWords → Left → Stage ⊤
loads_after asked indexed = loads_made asked.count indexed.files >>= says_after asked indexed

-- the made tree was indexed
pub indexed : {T : Type 0} (view : T → Left) (asked : TrialWords) (files : MemFilesSeen) (w : World)
    (r : Result T Stop)
    → files ≡ trial_files asked.seed asked.count
    → Answers view
    (inner_outcome inner_room ((depmod_course depmod_words).run files.contents) files.contents)
    r
    → Follows view (indexes_made (trial_contents asked.seed asked.count)) w w r
indexed view asked files w r made a =
    subst (λ (fs : MemFilesSeen). Follows view (indexes_made fs.contents) w w r) made
    (answered view (inner_outcome inner_room ((depmod_course depmod_words).run files.contents)
    files.contents) w r a)

-- its modules were loaded
pub loaded : {T : Type 0} (view : T → Left) (asked : TrialWords) (left : Left) (w : World)
    (r : Result T Stop)
    → Answers view
    (inner_outcome inner_room ((modprobe_course (modprobe_words asked.count)).run left.files)
    left.files) r
    → Follows view (loads_made asked.count left.files) w w r
loaded view asked left w r a =
    answered view
    (inner_outcome inner_room ((modprobe_course (modprobe_words asked.count)).run left.files)
    left.files) w r a
