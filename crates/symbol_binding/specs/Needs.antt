-- What can be wrong with a need, by the export that its name is bound to.
use Rattle.std.specs.Prelude.{ℕ, ◌==◌, ◌&&◌, ◌||◌, not, Bool, true, false, List, length, Option}
use Rattle.std.specs.Prelude.{Some, None, is_none}
use Rattle.std.specs.List.{list_any}
use Rattle.std.specs.Option.{option_map_or}
use Rattle.std.specs.Str.{bytes_eq}
use Rattle.symbol_binding.specs.Symbols.{Export, Need, Face}

-- Whether two versions agree: they are equal, or one isn't stated. The kernel's
-- kernel/module/version.c.
unfoldable pub agree : Option ℕ → Option ℕ → Bool
agree None b = true
agree (Some a) None = true
agree (Some a) (Some b) = a == b

-- Whether a module that is GPL-compatible, or isn't, sees an export: it isn't GPL-only, or the
-- module is GPL-compatible.
abbrev pub is_seen : Bool → Bool → Bool
is_seen free gpl = not gpl || free

-- Whether an export in this namespace may be used with these imports: it is in none, or in one of
-- them.
abbrev pub is_allowed : List (List ℕ) → List ℕ → Bool
is_allowed imports space = length space == 0 || list_any (λ name. bytes_eq name space) imports

-- Whether the module sees the export.
abbrev pub sees : Face → Export → Bool
sees m e = is_seen m.free e.gpl

-- Whether the module may use the export.
abbrev pub may_use : Face → Export → Bool
may_use m e = is_allowed m.imports e.space

-- A test of a need of a module, by the export that its name is bound to.
abbrev pub NeedTest : Type 0
NeedTest = Option Export → Face → Need → Bool

-- Whether the need is strong, and its name is bound to nothing.
abbrev pub is_missing : NeedTest
is_missing found m n = not n.weak && is_none found

-- Whether the need is strong, and the module doesn't see the export.
abbrev pub is_hidden : NeedTest
is_hidden found m n = not n.weak && option_map_or (λ e. not (sees m e)) found false

-- Whether the module sees the export, and its version doesn't agree.
abbrev pub is_other_version : NeedTest
is_other_version found m n = option_map_or (λ e. sees m e && not (agree n.crc e.crc)) found false

-- Whether the module sees the export, and may not use it.
abbrev pub is_barred : NeedTest
is_barred found m n = option_map_or (λ e. sees m e && not (may_use m e)) found false
