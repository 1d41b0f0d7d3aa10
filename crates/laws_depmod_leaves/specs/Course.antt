-- What the course of a depmod is, by how far it gets. depmod(8).
use Rattle.std.specs.Prelude.{◌≡◌, ℕ, Bool, true, List, [], ◌∷◌, ◌++◌, map, flat_map, Option, Some}
use Rattle.std.specs.Prelude.{None, is_some, if◌then◌else◌, ⊤}
use Rattle.std.specs.List.{list_all}
use Rattle.km_names.specs.Path.{path_below}
use Rattle.outside_calls.specs.Contents.{Contents}
use Rattle.km_course.specs.Course.{Act, Outcome, Run}
use Rattle.km_course.specs.Course.Act.{warn, put}
use Rattle.km_course.specs.Course.Outcome.{value, end}
use Rattle.kmod_words.specs.declared.depmod.DepmodWords.{DepmodWords}
use Rattle.symbol_binding.specs.Unmet.{unmet}
use Rattle.symbol_binding.specs.declared.unbound.Unbound.{Unbound}
use Rattle.provider_rel.specs.Faces.{modules_of}
use Rattle.stages_files.specs.KernelTable.{seen_kernel}
use Rattle.command_depmod.specs.declared.files.DepmodFile.{DepmodFile}
use Rattle.command_depmod.specs.declared.files.DepmodFiles.{DepmodFiles}
use Rattle.command_depmod.specs.Depmod.{indexes, target_of_request}
use Rattle.command_depmod.specs.Files.{all_files, content, file_name, text_files}
use Rattle.command_depmod.specs.Warnings.{warning_line}
use Rattle.laws_planned_loads.specs.Acts.{is_reading, said}
use Rattle.laws_depmod_leaves.specs.Comes.{ComesTo, IndexedTree, made_of}

-- A line is written to err, if there is one.
abbrev pub warned : Option (List ℕ) → List Act
warned None = []
warned (Some text) = warn text ∷ []

-- The warnings of some obstacles, each one writing.
abbrev pub warn_acts : Bool → List Unbound → List Act
warn_acts versions obstacles =
    flat_map (λ obstacle. warned (warning_line versions obstacle)) obstacles

-- Some files are put into a folder, one after the other.
abbrev pub put_acts : List ℕ → DepmodFiles → List DepmodFile → List Act
put_acts folder made names =
    map (λ name. put (path_below folder (file_name name)) (content made name)) names

-- Some files are written to the output, one after the other.
abbrev pub say_acts : DepmodFiles → List DepmodFile → List Act
say_acts made names = flat_map (λ name. said (content made name)) names

-- What is written of an index: the warnings, if they are asked for, and then the files.
abbrev pub index_acts : DepmodWords → IndexedTree → List Act
index_acts asked i =
    (if asked.errsyms
    then warn_acts (is_some asked.symvers) (unmet (modules_of i.tree) (seen_kernel i.table))
    else [])
    ++ (if asked.dry_run
    then say_acts (made_of i) (text_files asked.extra)
    else put_acts (target_of_request asked) (made_of i) (all_files asked.extra))

-- What is written, and the end of the course.
abbrev pub writes : DepmodWords → Outcome IndexedTree → List Act
writes asked (value i) = index_acts asked i
writes asked (end e) = []

abbrev pub closes : Outcome IndexedTree → Outcome ⊤
closes (value i) = value tt
closes (end e) = end e

-- A course reads, results in this, and then writes of it, and nothing more.
pub record IsIndexingCourse (held : Contents) (asked : DepmodWords) (run : Run ⊤) : Type 0 where
  pub outcome : Outcome IndexedTree
  pub comes : ComesTo held asked outcome
  pub before : List Act
  pub reads : list_all is_reading before ≡ true
  pub acts : run.acts ≡ before ++ writes asked outcome
  pub ends : run.outcome ≡ closes outcome

-- The course of each depmod is such a course, over any files.
abbrev pub CoursesIndex : Type 0
CoursesIndex =
    (held : Contents) (asked : DepmodWords) → IsIndexingCourse held asked ((indexes asked).run held)
