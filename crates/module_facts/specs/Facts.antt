-- The facts of a module. The kernel's include/linux/module.h, MODULE_LICENSE and MODULE_IMPORT_NS;
-- modprobe.d(5).
use Rattle.std.specs.Prelude.{ℕ, Bool, false, List, [], ◌∷◌, codes, slice_get}
use Rattle.std.specs.List.{list_any}
use Rattle.std.specs.Option.{option_map_or}
use Rattle.std.specs.Str.{bytes_eq}
use Rattle.km_names.specs.Path.{module_name}
use Rattle.elf_object.specs.Object.{FileObject, file_object}
use Rattle.modinfo_fields.specs.Fields.{fields_of, values_of_key}
use Rattle.module_facts.specs.declared.facts.Facts.{Facts}
use Rattle.module_symbols.specs.Contents.{modinfo_bytes}
use Rattle.module_symbols.specs.Exports.{exports_of}
use Rattle.module_symbols.specs.Needs.{needs_of}

-- The values that the section `.modinfo` has for a key.
unfoldable pub texts_of : FileObject → List ℕ → List (List ℕ)
texts_of o key = values_of_key key (fields_of (modinfo_bytes o))

-- The licenses that permit a module to use GPL-only symbols. include/linux/license.h.
abbrev pub free_licenses : List (List ℕ)
free_licenses =
    codes "GPL" ∷ codes "GPL v2" ∷ codes "GPL and additional rights" ∷ codes "Dual BSD/GPL"
    ∷ codes "Dual MIT/GPL"
    ∷ codes "Dual MPL/GPL" ∷ []

-- Whether the license is one of these.
unfoldable pub is_free_license : List ℕ → Bool
is_free_license license = list_any (bytes_eq license) free_licenses

-- Whether the first of these licenses is free. Without a license it isn't.
unfoldable pub is_free : List (List ℕ) → Bool
is_free licenses = option_map_or is_free_license (slice_get licenses 0) false

-- The facts of the module at a path, by its object.
unfoldable pub object_facts : List ℕ → FileObject → Facts
object_facts path o = record {
  path = path;
  name = module_name path;
  exports = exports_of o;
  needs = needs_of o;
  aliases = texts_of o (codes "alias");
  softdeps = texts_of o (codes "softdep");
  free = is_free (texts_of o (codes "license"));
  imports = texts_of o (codes "import_ns");
}

-- The facts of the module at a path, by the bytes of its file.
abbrev pub facts_of : List ℕ → List ℕ → Facts
facts_of path b = object_facts path (file_object b)
