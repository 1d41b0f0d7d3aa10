-- depmod's half of the headline. The files that it leaves are exactly the files of the tree in the
-- folder, over the kernel's table that is named, and they decode. Or it names the first bad module
-- or the cycle, and leaves files as they were. depmod(8), modules.dep(5).
use Rattle.std.specs.Prelude.{◌≡◌, ℕ, List, [], ◌++◌, take, flat_map, Some, None, is_some}
use Rattle.std.specs.Prelude.{if◌then◌else◌, unwrap_or}
use Rattle.km_course.specs.Carries.{outcome_status}
use Rattle.km_course.specs.Course.{Outcome}
use Rattle.km_course.specs.Course.Outcome.{value, end}
use Rattle.km_course.specs.Lines.{end_line, usage}
use Rattle.km_course.specs.World.{World, Shown, Tells}
use Rattle.kmod_words.specs.declared.depmod.DepmodWords.{DepmodWords}
use Rattle.kmod_words.specs.Depmod.{depmod_request}
use Rattle.symbol_binding.specs.Unmet.{unmet}
use Rattle.provider_rel.specs.Faces.{modules_of}
use Rattle.stages_files.specs.KernelTable.{seen_kernel}
use Rattle.command_depmod.specs.declared.files.DepmodFile.{DepmodFile}
use Rattle.command_depmod.specs.Depmod.{target_of_request}
use Rattle.command_depmod.specs.Files.{all_files, content, text_files}
use Rattle.command_depmod.specs.Warnings.{warning_line}
use Rattle.laws_depmod_leaves.specs.Comes.{ComesTo, IndexedTree, made_of}
use Rattle.laws_depmod_leaves.specs.Left.{with_files}
use Rattle.kmod_cli.specs.CameTo.{CameTo}
use Rattle.kmod_cli.specs.Plans.{IsPrintedPart}

-- ---- what is replaced and printed

-- The files that are replaced, in their order: all, which are nine, or eleven with `--extra`; or
-- none with `-n`.
abbrev pub files_replaced : DepmodWords → List DepmodFile
files_replaced asked = if asked.dry_run then [] else all_files asked.extra

-- The files that are printed: with `-n` all that are text.
abbrev pub files_printed : DepmodWords → List DepmodFile
files_printed asked = if asked.dry_run then text_files asked.extra else []

-- Their bytes, one after the other.
abbrev pub printed : DepmodWords → IndexedTree → List ℕ
printed asked i = flat_map (content (made_of i)) (files_printed asked)

-- The warnings, which are written with `-e`: a line for each obstacle that is warned of.
abbrev pub warnings : DepmodWords → IndexedTree → List ℕ
warnings asked i =
    if asked.errsyms
    then flat_map (λ obstacle. unwrap_or (warning_line (is_some asked.symvers) obstacle) [])
    (unmet (modules_of i.tree) (seen_kernel i.table))
    else []

-- ---- what the call results in

-- What files and outputs then have, however many calls on files were made. The target folder has
-- the files of the index, each whole, or their texts are printed; or the line of the end is on err.
-- All else is as it was.
abbrev pub told_of : DepmodWords → Outcome IndexedTree → Shown → Shown
told_of asked (value i) shown = record {
  files = with_files (target_of_request asked) (made_of i) (files_replaced asked) shown.files;
  calls = shown.calls;
  out = shown.out ++ printed asked i;
  err = shown.err ++ warnings asked i;
}
told_of asked (end e) shown = record shown { err = shown.err ++ end_line e }

-- This many of the files of an index were replaced, the first ones, each whole, and this many bytes
-- were printed.
pub record IsReplacedPart (asked : DepmodWords) (i : IndexedTree) (shown : Shown) (new : World) :
    Type 0 where
  pub count : ℕ
  pub bytes : ℕ
  pub files : new.files.contents
      ≡ Some (with_files (target_of_request asked) (made_of i) (take count (files_replaced asked))
      shown.files)
  pub out : new.out.told ≡ Some (shown.out ++ take bytes (printed asked i))

-- A first part of this was done. If there is no index, no file is replaced and nothing is printed.
abbrev pub IsPartOf : DepmodWords → Outcome IndexedTree → Shown → World → Type 0
IsPartOf asked (value i) shown new = IsReplacedPart asked i shown new
IsPartOf asked (end e) shown new = IsPrintedPart [] shown new

-- What depmod did over files and outputs with these known contents: it left new and answered this
-- status.
pub record IsIndexing (asked : DepmodWords) (shown : Shown) (old new : World) (status : ℕ) : Type 0
  where
    -- by the files that it found it results in the index of the tree in the folder, whose modules
    -- are all valid and whose files stand for it. Or it results in the first thing that is in the
    -- way: a bad module after valid ones, the cycle of the tree, or another
    pub outcome : Outcome IndexedTree
    pub comes : ComesTo shown.files asked outcome
    -- the status is the one of this outcome: then all of the index was written, or the line of the
    -- end and nothing else. Or it is 3 or 4, and a first part of this was done, because a call on
    -- files or outputs failed, or memory ran out
    pub call : CameTo (outcome_status outcome) (told_of asked outcome shown)
        (IsPartOf asked outcome shown)
        old new status

-- depmod with these words after its name, over files and outputs with known contents.
pub record Indexes (words : List (List ℕ)) (old new : World) (status : ℕ) : Type 0 where
  pub understood : (shown : Shown) → Tells old shown → (asked : DepmodWords)
      → depmod_request words ≡ Some asked → IsIndexing asked shown old new status
  -- words that aren't understood: their line is on err, and nothing else is done
  pub not_understood : (shown : Shown) → Tells old shown → depmod_request words ≡ None
      → CameTo 2 (record shown { err = shown.err ++ usage }) (IsPrintedPart [] shown) old new status
