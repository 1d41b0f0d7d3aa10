-- What `builtin-alias` and `static-nodes` answer over the files that a depmod with `--extra` left.
-- modprobe.d(5), "alias"; kmod(8), "static-nodes".
use Rattle.std.specs.Prelude.{◌≡◌, ℕ, true, false, List, [], ◌∷◌, ◌++◌, Option, Some, None, codes}
use Rattle.km_names.specs.AliasForm.{normal_alias, normal_or_itself}
use Rattle.km_course.specs.Carries.{Carries}
use Rattle.km_course.specs.Course.{Outcome}
use Rattle.km_course.specs.Course.Outcome.{value, end}
use Rattle.km_course.specs.Lines.{end_line, end_status}
use Rattle.km_course.specs.World.{World, Shown, Tells}
use Rattle.kmod_words.specs.declared.builtin_alias.BuiltinAliasWords.{BuiltinAliasWords}
use Rattle.kmod_words.specs.declared.depmod.DepmodWords.{DepmodWords}
use Rattle.kmod_words.specs.declared.static_nodes.StaticNodesWords.{StaticNodesWords}
use Rattle.kmod_words.specs.BuiltinAlias.{builtin_alias_request}
use Rattle.kmod_words.specs.Depmod.{depmod_request}
use Rattle.kmod_words.specs.StaticNodes.{static_nodes_request}
use Rattle.devname_nodes.specs.File.{node_lines}
use Rattle.devname_nodes.specs.Nodes.{nodes_of}
use Rattle.stages_files.specs.KernelModules.{modules_folder}
use Rattle.command_builtin_alias.specs.BuiltinAlias.{unless_none}
use Rattle.command_depmod.specs.Depmod.{target_of_request}
use Rattle.laws_builtin_aliases.specs.Found.{modules_matching}
use Rattle.kmod_cli.specs.CameTo.{CameTo}
use Rattle.kmod_cli.specs.Extra.{Extra, LeavesExtra}
use Rattle.kmod_cli.specs.Plans.{IsPrintedPart}
use Rattle.kmod_cli.specs.Program.{course}

-- A call that prints a text, or says why it doesn't, and writes nothing else.
abbrev pub PrintsOutcome : Outcome (List ℕ) → Shown → World → World → ℕ → Type 0
PrintsOutcome (value text) shown old new status =
    CameTo 0 (record shown { out = shown.out ++ text }) (IsPrintedPart text shown) old new status
PrintsOutcome (end e) shown old new status =
    CameTo (end_status e) (record shown { err = shown.err ++ end_line e }) (IsPrintedPart [] shown)
    old new status

-- The built-in modules that state an alias which matches a name, by a modules.builtin.modinfo: each
-- once, in the order in which modules are first seen there. A name without a normal form has none.
abbrev pub built_in_matching : List ℕ → Option (List ℕ) → List (List ℕ)
built_in_matching info None = []
built_in_matching info (Some normal) = modules_matching info normal

-- A depmod over files and outputs with these known contents was asked for both files, replaced its
-- files, and answered status 0.
pub record IsExtraDone (words : List (List ℕ)) (asked : DepmodWords) (shown : Shown)
    (old new : World) : Type 0 where
  pub tells : Tells old shown
  pub words_ask : depmod_request words ≡ Some asked
  pub extra : asked.extra ≡ true
  pub replaces : asked.dry_run ≡ false
  pub call : Extra words old new 0

-- What a call with these words does over the files that it left.
pub record AnswersLookups (asked : DepmodWords) (words : List (List ℕ)) (held told : Shown)
    (old new : World) (status : ℕ) : Type 0 where
  pub left : LeavesExtra asked held.files told.files
  -- `builtin-alias` of that folder prints a line for each built-in module with a matching alias;
  -- exactly if there is none, the name is reported as not found
  pub aliases : (rest : List (List ℕ)) (wanted : BuiltinAliasWords)
      → words ≡ codes "builtin-alias" ∷ rest → builtin_alias_request rest ≡ Some wanted
      → modules_folder wanted.dirname wanted.version ≡ target_of_request asked
      → PrintsOutcome
      (unless_none (normal_or_itself wanted.name)
      (built_in_matching left.info (normal_alias wanted.name))) told old new status
  -- `static-nodes` of that folder prints the lines of the nodes of the tree's modules
  pub nodes : (rest : List (List ℕ)) (wanted : StaticNodesWords)
      → words ≡ codes "static-nodes" ∷ rest → static_nodes_request rest ≡ Some wanted
      → modules_folder wanted.dirname wanted.version ≡ target_of_request asked
      → PrintsOutcome (value (node_lines (nodes_of left.tree))) told old new status

-- Where the files of the second call are those that the first one left, so it answers.
abbrev pub LookupsMeet : Type 0
LookupsMeet =
    (first second : List (List ℕ)) (asked : DepmodWords) (shown told : Shown)
    (old new later last : World) (status : ℕ)
    → IsExtraDone first asked shown old new
    → new.files.contents ≡ Some told.files
    → Tells later told
    → Carries (course second) later last status
    → AnswersLookups asked second shown told later last status
