-- The course of `trial`: a tree is made, indexed and loaded, and a summary is printed. The command
-- is this project's own.
use Rattle.std.specs.Prelude.{ℕ, List, ⊤}
use Rattle.outside_calls.specs.Contents.{Contents}
use Rattle.km_course.specs.Course.{Stage, ◌>>=◌, says, if_understood}
use Rattle.km_course.specs.Inner.{Left, inner}
use Rattle.kmod_words.specs.declared.trial.TrialWords.{TrialWords}
use Rattle.kmod_words.specs.Trial.{trial_request}
use Rattle.tree_gen.specs.Trial.{trial_contents}
use Rattle.command_depmod.specs.Depmod.{depmod_course}
use Rattle.command_modprobe.specs.Modprobe.{modprobe_course}
use Rattle.command_trial.specs.Words.{depmod_words, modprobe_words}
use Rattle.command_trial.specs.Summary.{dependencies_left, summary}

-- Each output of a command inside a trial has room for this many bytes.
abbrev pub inner_room : ℕ
inner_room = 4194304

-- The made tree is indexed, by a depmod inside. depmod(8).
abbrev pub indexes_made : Contents → Stage Left
indexes_made files = inner inner_room (depmod_course depmod_words) files

-- Its modules are loaded, by a modprobe inside. modprobe(8).
abbrev pub loads_made : ℕ → Contents → Stage Left
loads_made count files = inner inner_room (modprobe_course (modprobe_words count)) files

-- The course of a request: the tree is made and indexed, its modules are loaded, and the summary is
-- printed.
abbrev pub tries : TrialWords → Stage ⊤
tries asked = do
  indexed ← indexes_made (trial_contents asked.seed asked.count)
  left ← loads_made asked.count indexed.files
  says (summary asked.count (dependencies_left indexed.files) left)

-- The course of `trial` with these words after it. No act but the summary is done on the objects
-- outside.
abbrev pub trial_course : List (List ℕ) → Stage ⊤
trial_course words = if_understood tries (trial_request words)
