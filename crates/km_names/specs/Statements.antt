-- What configuration files state, or the first line that isn't understood. modprobe.d(5),
-- depmod.d(5).
use Rattle.std.specs.Prelude.{ℕ, List, Option, Some, None, Result, Ok, Err, map}
use Rattle.std.specs.List.{filter_map, flat_map}
use Rattle.km_names.specs.First.{first}
use Rattle.km_names.specs.Lines.{conf_lines}
use Rattle.km_names.specs.declared.conf.ConfFile.{ConfFile}
use Rattle.km_names.specs.declared.conf.Line.{Line}
use Rattle.km_names.specs.declared.conf.ConfFault.{ConfFault}
use Rattle.km_names.specs.declared.conf.ConfFault.TheVariants.{BadLine}

-- The place of a line: the path of its file, and its number there, from 1.
pub record LinePlace : Type 0 where
  pub file : List ℕ
  pub number : ℕ

-- The fault of files whose first line that isn't understood is at a place.
abbrev pub line_fault : LinePlace → ConfFault
line_fault place = BadLine place.file place.number

-- The place of a line if it isn't understood: its text is read as a statement or as None.
abbrev pub bad_place : {X : Type 0} → List ℕ → ℕ → Option X → Option LinePlace
bad_place file number None = Some (record { file = file; number = number })
bad_place file number (Some statement) = None

-- The places of the lines of a file that aren't understood, in order; `read` reads the text of a
-- line.
abbrev pub bad_places : {X : Type 0} → (List ℕ → Option X) → ConfFile → List (Option LinePlace)
bad_places read file =
    map (λ (line : Line). bad_place file.path line.number (read line.text)) (conf_lines file.bytes)

-- The statements of a file, in order.
abbrev pub file_statements : {X : Type 0} → (List ℕ → Option X) → ConfFile → List X
file_statements read file = filter_map (λ (line : Line). read line.text) (conf_lines file.bytes)

-- The place of the first line of the files that isn't read as a statement.
unfoldable pub bad_line : {X : Type 0} → (List ℕ → Option X) → List ConfFile → Option LinePlace
bad_line read files = first (flat_map (bad_places read) files)

-- The statements of the files, one for each line, in order.
unfoldable pub stated : {X : Type 0} → (List ℕ → Option X) → List ConfFile → List X
stated read files = flat_map (file_statements read) files

-- The fault, or else the value.
abbrev pub unless_fault : {X F : Type 0} → Option F → X → Result X F
unless_fault None x = Ok x
unless_fault (Some fault) x = Err fault

-- What the files state: the statements of their lines, or the place of the first line that isn't
-- understood.
unfoldable pub parsed : {X : Type 0} → (List ℕ → Option X) → List ConfFile
    → Result (List X) LinePlace
parsed read files = unless_fault (bad_line read files) (stated read files)
