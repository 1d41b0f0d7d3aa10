-- The fields of the modules that are built into the kernel, as its build leaves them in
-- modules.builtin.modinfo: pieces `MODULE.KEY=VALUE`, each ended by a NUL. The kernel's
-- scripts/Makefile.vmlinux, include/linux/moduleparam.h.
use Rattle.std.specs.Prelude.{ℕ, ◌==◌, List, Option, Some, None, option_and_then, if◌then◌else◌}
use Rattle.std.specs.List.{slice_split, before_first, after_first, list_any, filter_map}
use Rattle.km_names.specs.Ascii.{is_graphic}
use Rattle.km_names.specs.Path.{underscored}
use Rattle.builtin_index.specs.declared.piece.BuiltinField.{BuiltinField}

-- The bytes before the first such byte of a text and the bytes after it, if the text has one.
abbrev pub cut_at : ℕ → List ℕ → Option (List ℕ × List ℕ)
cut_at byte text =
    if list_any (λ b. b == byte) text
    then Some (before_first (λ b. b == byte) text, after_first (λ b. b == byte) text)
    else None

-- The field of a module that is named by a word of visible characters, with each `-` replaced by
-- `_`.
abbrev pub named_field : List ℕ → List ℕ → List ℕ → Option BuiltinField
named_field name key value =
    if is_graphic name
    then Some (record { «module» = underscored name; key = key; value = value })
    else None

-- The field of a piece, if it is one: it has a `.` before its first `=`. The name is before the
-- first `.`, the key from there to the first `=`, and the value after that.
unfoldable pub field_of : List ℕ → Option BuiltinField
field_of piece =
    option_and_then
    (λ named. option_and_then (λ name. named_field name.0 name.1 named.1) (cut_at 46 named.0))
    (cut_at 61 piece)

-- The fields of the bytes of a file: the fields among its pieces between NULs, in order.
unfoldable pub fields_of : List ℕ → List BuiltinField
fields_of bytes = filter_map field_of (slice_split (λ b. b == 0) bytes)
