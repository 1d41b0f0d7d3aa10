-- The lines of a Module.symvers: fields between tabs. The first five are the version, the symbol,
-- its exporter, the kind of export, and the namespace. The kernel's
-- Documentation/kbuild/modules.rst, "Symbols From the Kernel".
use Rattle.std.specs.Prelude.{ℕ, ◌==◌, ◌&&◌, Bool, List, [], codes, slice_get, Option}
use Rattle.std.specs.Prelude.{None, unwrap_or, option_map, if◌then◌else◌}
use Rattle.std.specs.List.{slice_split}
use Rattle.std.specs.Str.{bytes_eq}
use Rattle.km_names.specs.Ascii.{is_graphic, prefixed_hexadecimal}

-- An export that a line states: its version, its name, its exporter, whether it is GPL-only, and
-- its namespace, which is empty for none.
pub record SymversExport : Type 0 where
  pub crc : ℕ
  pub name : List ℕ
  pub owner : List ℕ
  pub gpl : Bool
  pub space : List ℕ

-- The field at a place, from 0. It is empty if there are fewer fields.
abbrev pub field : List ℕ → ℕ → List ℕ
field text k = unwrap_or (slice_get (slice_split (λ b. b == 9) text) k) []

-- What a line states, if it is understood: its first three fields are a version, which is `0x` and
-- 1 to 16 hexadecimal digits, and two words of visible characters.
unfoldable pub symvers_line : List ℕ → Option SymversExport
symvers_line text =
    if is_graphic (field text 1) && is_graphic (field text 2)
    then option_map (λ crc. record {
      crc = crc;
      name = field text 1;
      owner = field text 2;
      gpl = bytes_eq (field text 3) (codes "EXPORT_SYMBOL_GPL");
      space = field text 4;
    }) (prefixed_hexadecimal (field text 0))
    else None
