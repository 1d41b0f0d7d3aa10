-- What the words of `depmod` ask for. depmod(8).
use Rattle.std.specs.Prelude.{◌&&◌, not, Bool, List, [], ◌∷◌, Option, Some, None, is_some}
use Rattle.std.specs.Prelude.{if◌then◌else◌, option_and_then, unwrap_or, codes}
use Rattle.clap.specs.Words.{App, Row, Text}
use Rattle.kmod_words.specs.Arguments.{command, flag, valued, word}
use Rattle.kmod_words.specs.Understood.{understood, is_given, value_of, is_version}
use Rattle.kmod_words.specs.declared.depmod.DepmodWords.{DepmodWords}

-- The options and the word of `depmod`.
unfoldable pub depmod_command : App
depmod_command = command (codes "depmod") (
    flag (codes "a") (codes "all")
    ∷ flag (codes "n") (codes "dry-run")
    ∷ flag (codes "e") (codes "errsyms")
    ∷ valued (codes "b") (codes "basedir")
    ∷ valued (codes "o") (codes "outdir")
    ∷ valued (codes "C") (codes "config")
    ∷ valued (codes "F") (codes "filesyms")
    ∷ valued (codes "E") (codes "symvers")
    ∷ flag (codes "") (codes "extra")
    ∷ word (codes "version")
    ∷ []
    )

-- what is asked for of this version
abbrev pub depmod_of : List Row → Text → DepmodWords
depmod_of rows version =
    let basedir = unwrap_or (value_of (codes "basedir") rows) (codes "/") in
    record {
      dry_run = is_given (codes "dry-run") rows;
      errsyms = is_given (codes "errsyms") rows;
      extra = is_given (codes "extra") rows;
      basedir = basedir;
      outdir = unwrap_or (value_of (codes "outdir") rows) basedir;
      config = value_of (codes "config") rows;
      filesyms = value_of (codes "filesyms") rows;
      symvers = value_of (codes "symvers") rows;
      version = version;
    }

-- Whether both files of the kernel are given, a System.map and a Module.symvers.
abbrev pub has_two_kernels : List Row → Bool
has_two_kernels rows =
    is_some (value_of (codes "filesyms") rows) && is_some (value_of (codes "symvers") rows)

-- What the matches ask for: not a System.map and a Module.symvers both, and a version without `/`.
unfoldable pub depmod_asked : List Row → Option DepmodWords
depmod_asked rows = option_and_then (λ version.
    if not (has_two_kernels rows) && is_version version
    then Some (depmod_of rows version) else None)
    (value_of (codes "version") rows)

-- What the words ask `depmod` for, or nothing if they aren't understood.
abbrev pub depmod_request : List Text → Option DepmodWords
depmod_request words = option_and_then depmod_asked (understood depmod_command words)
