-- The versions that a module states of its needs, a list of names with numbers. Two sections give
-- it in the extended form: `__version_ext_crcs` the numbers, `__version_ext_names` the names (the
-- kernel's scripts/mod/modpost.c). If the file doesn't have both of these, `__versions` gives it.
-- Its entries of 64 bytes are the kernel's struct modversion_info (include/linux/module.h): a
-- number, and a name that ends with a NUL.
use Rattle.std.specs.Prelude.{ℕ, ◌+◌, ◌*◌, ◌/◌, ◌%◌, ◌==◌, ◌||◌, nat_lt, not, Bool, false, List, []}
use Rattle.std.specs.Prelude.{◌∷◌, length, map, take, drop, codes, Option, is_none, option_map}
use Rattle.std.specs.Prelude.{option_and_then, find}
use Rattle.std.specs.List.{count_by, filter_map, list_any, range_with_len, slice_split, zip}
use Rattle.std.specs.Option.{option_map_or}
use Rattle.std.specs.Str.{bytes_eq}
use Rattle.km_names.specs.Number.{le}
use Rattle.km_names.specs.Strings.{first_string}
use Rattle.elf_object.specs.Object.{FileObject}
use Rattle.module_symbols.specs.Contents.{named_bytes}

-- ---- the extended form

-- The bytes of its two sections, if both are in the file.
unfoldable pub extended_bytes : FileObject → Option (List ℕ × List ℕ)
extended_bytes o =
    option_and_then
    (λ crcs. option_map (λ names. (crcs, names)) (named_bytes o (codes "__version_ext_names")))
    (named_bytes o (codes "__version_ext_crcs"))

-- The numbers of 4 bytes.
abbrev pub crcs_of : List ℕ → List ℕ
crcs_of bytes = map (λ k. le bytes (4 * k) 4) (range_with_len 0 (length bytes / 4))

-- The pieces without the last one.
abbrev pub without_last : List (List ℕ) → List (List ℕ)
without_last [] = []
without_last (piece ∷ []) = []
without_last (piece ∷ next ∷ pieces) = piece ∷ without_last (next ∷ pieces)

-- The names, each ended by a NUL; what follows the last NUL isn't one.
unfoldable pub ended_names : List ℕ → List (List ℕ)
ended_names bytes = without_last (slice_split (λ b. b == 0) bytes)

-- The names with the numbers, in order.
unfoldable pub extended_list : List ℕ → List ℕ → List (List ℕ × ℕ)
extended_list crcs names = zip (ended_names names) (crcs_of crcs)

-- Whether the last number isn't whole, or there are more numbers than NULs.
unfoldable pub is_bad_extended : List ℕ → List ℕ → Bool
is_bad_extended crcs names =
    not (length crcs % 4 == 0) || nat_lt (count_by (λ b. b == 0) names) (length crcs / 4)

-- ---- the entries of `__versions`

-- The name of the entry k: the bytes before the NUL in its last 56 bytes.
unfoldable pub entry_name : List ℕ → ℕ → Option (List ℕ)
entry_name bytes k = first_string (take 56 (drop (64 * k + 8) bytes))

-- The entry k, its name and its number, if the name ends.
abbrev pub entry : List ℕ → ℕ → Option (List ℕ × ℕ)
entry bytes k = option_map (λ name. (name, le bytes (64 * k) 8)) (entry_name bytes k)

-- The numbers of the entries.
abbrev pub entry_numbers : List ℕ → List ℕ
entry_numbers bytes = range_with_len 0 (length bytes / 64)

-- The entries whose names end, in order.
unfoldable pub entry_list : List ℕ → List (List ℕ × ℕ)
entry_list bytes = filter_map (entry bytes) (entry_numbers bytes)

-- Whether the last entry isn't whole, or a name has no NUL.
unfoldable pub are_bad_entries : List ℕ → Bool
are_bad_entries bytes =
    not (length bytes % 64 == 0)
    || list_any (λ k. is_none (entry_name bytes k)) (entry_numbers bytes)

-- ---- the list

-- The bytes of `__versions`.
abbrev pub entry_bytes : FileObject → Option (List ℕ)
entry_bytes o = named_bytes o (codes "__versions")

-- The version list: from the extended form if the file has it, even an empty one, and otherwise
-- from the entries. It is empty if the file has neither form.
unfoldable pub version_list : FileObject → List (List ℕ × ℕ)
version_list o =
    option_map_or (λ p. extended_list p.0 p.1) (extended_bytes o)
    (option_map_or entry_list (entry_bytes o) [])

-- Whether the sections with the version list are invalid.
unfoldable pub is_bad_list : FileObject → Bool
is_bad_list o =
    option_map_or (λ p. is_bad_extended p.0 p.1) (extended_bytes o)
    (option_map_or are_bad_entries (entry_bytes o) false)

-- The number that a list has for a name, from the first entry of the name.
unfoldable pub stated_version : List (List ℕ × ℕ) → List ℕ → Option ℕ
stated_version list name = option_map (λ v. v.1) (find (λ v. bytes_eq v.0 name) list)
