-- The course of the words of a command line: the first names a command, whose course the others
-- decide.
use Rattle.std.specs.Prelude.{ℕ, List, [], ◌∷◌, codes, Option, Some, None, if◌then◌else◌, ⊤}
use Rattle.std.specs.Str.{bytes_eq}
use Rattle.km_course.specs.Course.{Stage, ends}
use Rattle.km_course.specs.declared.end.End.TheVariants.{NotUnderstood}
use Rattle.kmod_cli.specs.declared.command.Command.{Command}
use Rattle.kmod_cli.specs.declared.command.Command.TheVariants.{Depmod, Modinfo, Modprobe, Trial}
use Rattle.kmod_cli.specs.declared.command.Command.TheVariants.{StaticNodes, BuiltinAlias}
use Rattle.command_builtin_alias.specs.BuiltinAlias.{builtin_alias_course}
use Rattle.command_depmod.specs.Depmod.{depmod_course}
use Rattle.command_modinfo.specs.Modinfo.{modinfo_course}
use Rattle.command_modprobe.specs.Modprobe.{modprobe_course}
use Rattle.command_static_nodes.specs.StaticNodes.{static_nodes_course}
use Rattle.command_trial.specs.Trial.{trial_course}

-- The command of this name, if there is one.
unfoldable pub command_named : List ℕ → Option Command
command_named word =
    if bytes_eq word (codes "depmod") then Some Depmod
    else if bytes_eq word (codes "modinfo") then Some Modinfo
    else if bytes_eq word (codes "modprobe") then Some Modprobe
    else if bytes_eq word (codes "trial") then Some Trial
    else if bytes_eq word (codes "static-nodes") then Some StaticNodes
    else if bytes_eq word (codes "builtin-alias") then Some BuiltinAlias
    else None

-- The course of a command with these words after its name.
abbrev pub course_named : Option Command → List (List ℕ) → Stage ⊤
course_named None words = ends NotUnderstood
course_named (Some Depmod) words = depmod_course words
course_named (Some Modinfo) words = modinfo_course words
course_named (Some Modprobe) words = modprobe_course words
course_named (Some Trial) words = trial_course words
course_named (Some StaticNodes) words = static_nodes_course words
course_named (Some BuiltinAlias) words = builtin_alias_course words

-- The course of the words.
abbrev pub course : List (List ℕ) → Stage ⊤
course [] = ends NotUnderstood
course (name ∷ words) = course_named (command_named name) words
