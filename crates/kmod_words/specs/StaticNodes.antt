-- What the words of `static-nodes` ask for. kmod(8), "static-nodes"; `-d` and `-S` are this
-- project's own.
use Rattle.std.specs.Prelude.{◌&&◌, List, [], ◌∷◌, Option, Some, None, if◌then◌else◌}
use Rattle.std.specs.Prelude.{option_and_then, unwrap_or, codes}
use Rattle.std.specs.Str.{bytes_eq}
use Rattle.clap.specs.Words.{App, Row, Text}
use Rattle.kmod_words.specs.Arguments.{command, lettered, required, valued}
use Rattle.kmod_words.specs.Understood.{understood, value_of, is_version}
use Rattle.kmod_words.specs.declared.static_nodes.StaticNodesWords.{StaticNodesWords}

-- The options of `static-nodes`.
unfoldable pub static_nodes_command : App
static_nodes_command = command (codes "static-nodes") (
    lettered (codes "d") (codes "dirname")
    ∷ required (lettered (codes "S") (codes "set-version"))
    ∷ required (valued (codes "f") (codes "format"))
    ∷ []
    )

-- What the matches ask for: a version without `/`, and the format `devname`.
unfoldable pub static_nodes_asked : List Row → Option StaticNodesWords
static_nodes_asked rows = option_and_then (λ version. option_and_then (λ format.
    if is_version version && bytes_eq format (codes "devname")
    then Some (record {
      dirname = unwrap_or (value_of (codes "dirname") rows) (codes "/");
      version = version;
    })
    else None)
    (value_of (codes "format") rows))
    (value_of (codes "set-version") rows)

-- What the words ask `static-nodes` for, or nothing if they aren't understood.
abbrev pub static_nodes_request : List Text → Option StaticNodesWords
static_nodes_request words =
    option_and_then static_nodes_asked (understood static_nodes_command words)
