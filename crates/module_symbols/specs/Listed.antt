-- Version lists, as a reader keeps them.
-- It belongs to the code: no public meaning rests on it.
use Rattle.std.specs.Prelude.{ℕ, ◌+◌, ◌-◌, ◌*◌, ◌/◌, ◌%◌, List, length, get_or}
use Rattle.module_symbols.specs.declared.versions.Version.{Version}

-- An entry of a version list: its name and its number.
abbrev pub version_entry : Version → List ℕ × ℕ
version_entry v = (v.name.now, v.number)

-- The mark of a name, by its length, its last byte and the one in its middle.
unfoldable pub mark_of : List ℕ → ℕ
mark_of name =
    (length name % 256 * 31 + get_or name (length name - 1) 0 * 7 + get_or name (length name / 2) 0)
    % 256
