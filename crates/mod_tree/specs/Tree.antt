-- The tree of a kernel's modules: which file of each name is its module, and the order of the
-- modules. depmod.d(5), "search"; kbuild's modules.order.
use Rattle.std.specs.Prelude.{ℕ, List, [], ◌∷◌, ◌++◌, Bool, not, ◌&&◌, ◌||◌, ◌==◌, nat_lt}
use Rattle.std.specs.Prelude.{if◌then◌else◌, codes, Option, Some, None, Result, Ok, Err, map}
use Rattle.std.specs.Prelude.{filter, length, nat_eq}
use Rattle.std.specs.List.{list_any, ends_with, starts_with, position_or_len}
use Rattle.std.specs.Str.{bytes_eq}
use Rattle.std.specs.Ordering.{nat_cmp, ordering_then, is_lt}
use Rattle.std.specs.declared.cmp.Ordering.{Ordering}
use Rattle.km_names.specs.Order.{by_bytes}
use Rattle.mod_tree.specs.Order.{in_order}
use Rattle.km_names.specs.Path.{module_name, is_compressed}
use Rattle.km_names.specs.Lines.{lines_of}
use Rattle.mod_tree.specs.declared.tree.TreeFault.{TreeFault}
use Rattle.mod_tree.specs.declared.tree.TreeFault.TheVariants.{BadPath, TooManyModules}

-- Whether a path is of a module: it ends in `.ko`, or as compressed modules do.
abbrev pub is_module_path : List ℕ → Bool
is_module_path path = ends_with nat_eq path (codes ".ko") || is_compressed path

-- Whether a byte can't be in the path of a module: it isn't one of 33 to 126, or it is `:`.
abbrev pub is_bad_byte : ℕ → Bool
is_bad_byte b = nat_lt b 33 || nat_lt 126 b || b == 58

-- Whether a search word names a folder that a path lies in. `built-in` names none.
abbrev pub is_folder_of : List ℕ → List ℕ → Bool
is_folder_of path word =
    not (bytes_eq word (codes "built-in")) && starts_with nat_eq path (word ++ 47 ∷ [])

-- The rank of a path: the least place of a search word that names a folder of it, else the place of
-- `built-in`, else the length of the list.
abbrev pub rank : List (List ℕ) → List ℕ → ℕ
rank search path =
    let place = position_or_len (is_folder_of path) search in
    if nat_lt place (length search)
    then place
    else position_or_len (bytes_eq (codes "built-in")) search

-- Paths of one name in the order of choice: by rank, and then by bytes.
abbrev pub choice_cmp : List (List ℕ) → List ℕ → List ℕ → Ordering
choice_cmp search p q = ordering_then (nat_cmp (rank search p) (rank search q)) (by_bytes p q)

-- Whether a path is chosen among paths: none with its module name comes before it in the order of
-- choice.
abbrev pub is_chosen : List (List ℕ) → List (List ℕ) → List ℕ → Bool
is_chosen search paths p =
    not (list_any (λ q. bytes_eq (module_name q) (module_name p) && is_lt (choice_cmp search q p))
    paths)

-- Paths in the order of the tree: by their first line in a list of lines, with paths that have no
-- line last, and then by bytes.
abbrev pub listing_cmp : List (List ℕ) → List ℕ → List ℕ → Ordering
listing_cmp lines p q =
    ordering_then
    (nat_cmp (position_or_len (bytes_eq p) lines) (position_or_len (bytes_eq q) lines))
    (by_bytes p q)

-- The chosen ones among paths of modules, each once, in the order of the tree.
unfoldable pub tree_paths : List (List ℕ) → List (List ℕ) → List (List ℕ) → List (List ℕ)
tree_paths search lines paths = in_order (listing_cmp lines) (filter (is_chosen search paths) paths)

-- The number of module names of the paths.
unfoldable pub name_count : List (List ℕ) → ℕ
name_count paths = length (in_order by_bytes (map module_name paths))

-- The lesser by bytes of a path and an optional other one.
abbrev pub lesser : List ℕ → Option (List ℕ) → Option (List ℕ)
lesser p None = Some p
lesser p (Some q) = if is_lt (by_bytes p q) then Some p else Some q

-- The least of some paths by bytes.
abbrev pub least : List (List ℕ) → Option (List ℕ)
least [] = None
least (path ∷ paths) = lesser path (least paths)

-- The least path by bytes that has a bad byte.
unfoldable pub bad_path : List (List ℕ) → Option (List ℕ)
bad_path paths = least (filter (list_any is_bad_byte) paths)

-- The tree of some paths of modules, unless one of them is bad or there are more than 10,000 names.
abbrev pub tree_unless : Option (List ℕ) → ℕ → List (List ℕ) → Result (List (List ℕ)) TreeFault
tree_unless (Some path) count paths = Err (BadPath path)
tree_unless None count paths = if nat_lt 10000 count then Err (TooManyModules count) else Ok paths

-- The tree of the listed paths, by the contents of modules.order and the search list.
unfoldable pub tree_of : List (List ℕ) → List ℕ → List (List ℕ) → Result (List (List ℕ)) TreeFault
tree_of listed order search =
    let paths = filter is_module_path listed in
    tree_unless (bad_path paths) (name_count paths) (tree_paths search (lines_of order) paths)
