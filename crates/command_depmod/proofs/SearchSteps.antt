-- The stages of the search list.
use Rattle.std.proofs.Common.{ℕ, List}
use Rattle.km_names.specs.declared.conf.ConfFile.{ConfFile}
use Rattle.mod_tree.specs.Search.{search_of}
use Rattle.km_course.specs.Course.{Stage, given}
use Rattle.stages_files.specs.Configuration.{stated_outcome}

-- the stage after the configuration was read
abbrev pub understood : List ConfFile → Stage (List (List ℕ))
understood files = given (stated_outcome (search_of files))
