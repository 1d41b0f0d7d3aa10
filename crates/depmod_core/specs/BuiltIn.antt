-- The names of the modules that are built into the kernel. modules.builtin as the kernel's build
-- writes it, modprobe(8).
use Rattle.std.specs.Prelude.{ℕ, List, [], map, filter}
use Rattle.km_names.specs.Ascii.{is_graphic}
use Rattle.km_names.specs.Lines.{lines_of}
use Rattle.km_names.specs.Path.{module_name}
use Rattle.index_format.specs.Map.{KeyValues}
use Rattle.name_table.specs.FirstSeen.{first_seen}
use Rattle.stated_texts.specs.Maps.{map_of}

-- The names of the modules whose paths a modules.builtin lists, each once. A name that isn't a word
-- of visible characters is left out, and so is the name from a blank line.
unfoldable pub built_in_names : List ℕ → List (List ℕ)
built_in_names bytes = first_seen (filter is_graphic (map module_name (lines_of bytes)))

-- The map of modules.builtin.bin: each of the names has an empty text.
unfoldable pub built_in_map : List ℕ → KeyValues
built_in_map bytes = map_of (map (λ name. (name, (0, []))) (built_in_names bytes))
