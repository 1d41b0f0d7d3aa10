-- The stages of a kernel's device nodes, joined.
use Rattle.std.proofs.Common.{◌≡◌, ℕ, List, subst}
use Rattle.std.specs.Prelude.{Result, ⊤, codes}
use Rattle.km_names.specs.Path.{path_below}
use Rattle.kmod_words.specs.declared.static_nodes.StaticNodesWords.{StaticNodesWords}
use Rattle.devname_nodes.specs.declared.node.Node.{Node}
use Rattle.devname_nodes.specs.File.{node_lines, read_of}
use Rattle.km_course.specs.Course.{Stage, ◌>>=◌, given, says_any}
use Rattle.km_course.specs.World.{World}
use Rattle.km_course.specs.Follows.{Follows}
use Rattle.km_course.specs.declared.stop.Stop.{Stop}
use Rattle.stages_files.specs.Configuration.{stated_outcome}
use Rattle.stages_files.specs.KernelModules.{modules_folder}
use Rattle.command_static_nodes.specs.StaticNodes.{reads_nodes, shows_nodes}

-- the stage after the bytes of a file were read
abbrev pub nodes_stated : List ℕ → List ℕ → Stage (List Node)
nodes_stated file bytes = given (stated_outcome (read_of file bytes))

-- the stage after the nodes were read
abbrev pub said : List Node → Stage ⊤
said nodes = says_any (node_lines nodes)

-- what is asked for, where its folder and its file are these
pub at-asked : (asked : StaticNodesWords) (folder file : List ℕ) (old new : World)
    (r : Result ⊤ Stop)
    → folder ≡ modules_folder asked.dirname asked.version
    → file ≡ path_below folder (codes "modules.devname")
    → Follows (λ x. x) (reads_nodes file >>= said) old new r
    → Follows (λ x. x) (shows_nodes asked) old new r
at-asked asked folder file old new r place is f =
    subst (λ p. Follows (λ (x : ⊤). x)
    (reads_nodes (path_below p (codes "modules.devname")) >>= said) old new r) place
    (subst (λ p. Follows (λ (x : ⊤). x) (reads_nodes p >>= said) old new r) is f)
