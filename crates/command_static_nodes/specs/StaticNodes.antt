-- The course of `static-nodes`. kmod(8), "static-nodes".
use Rattle.std.specs.Prelude.{ℕ, List, ⊤, codes}
use Rattle.km_names.specs.Path.{path_below}
use Rattle.kmod_words.specs.declared.static_nodes.StaticNodesWords.{StaticNodesWords}
use Rattle.kmod_words.specs.StaticNodes.{static_nodes_request}
use Rattle.devname_nodes.specs.declared.node.Node.{Node}
use Rattle.devname_nodes.specs.File.{node_lines, read_of}
use Rattle.km_course.specs.Course.{Stage, ◌>>=◌, given, reads, says_any, if_understood}
use Rattle.stages_files.specs.Configuration.{stated_outcome}
use Rattle.stages_files.specs.KernelModules.{modules_folder}

-- The nodes of the modules.devname at a path, which is needed. The first refused line is reported.
abbrev pub reads_nodes : List ℕ → Stage (List Node)
reads_nodes file = do
  bytes ← reads file
  given (stated_outcome (read_of file bytes))

-- The course of a request: the lines of the nodes of a kernel's modules.devname are one writing.
abbrev pub shows_nodes : StaticNodesWords → Stage ⊤
shows_nodes asked = do
  nodes ← reads_nodes
      (path_below (modules_folder asked.dirname asked.version) (codes "modules.devname"))
  says_any (node_lines nodes)

-- The course of `static-nodes` with these words after it.
abbrev pub static_nodes_course : List (List ℕ) → Stage ⊤
static_nodes_course words = if_understood shows_nodes (static_nodes_request words)
