-- The lines of modules.dep: the path of a module, a `:`, and the paths of the modules that it
-- needs, each after a space. modules.dep(5).
use Rattle.std.specs.Prelude.{ℕ, List, [], ◌∷◌, Bool, false, not, ◌&&◌, ◌||◌, ◌==◌, if◌then◌else◌}
use Rattle.std.specs.Prelude.{Option, Some, None}
use Rattle.std.specs.List.{list_any, list_all, before_first, after_first, slice_split}
use Rattle.mod_tree.specs.Tree.{is_module_path}

-- Whether a byte separates paths of a line, or ends it: a space, a `:` or a line end.
abbrev pub is_separator : ℕ → Bool
is_separator b = b == 32 || b == 58 || b == 10

-- Whether a text can be a path of a line: it is the path of a module, and no byte of it is a
-- separator.
abbrev pub is_line_path : List ℕ → Bool
is_line_path path = is_module_path path && not (list_any is_separator path)

-- The module's own path: the bytes before the first `:`.
abbrev pub own_path : List ℕ → List ℕ
own_path line = before_first (λ b. b == 58) line

-- Whether a text has a `:`, and what comes before the first one can be a path of a line.
abbrev pub has_own_path : List ℕ → Bool
has_own_path text = list_any (λ b. b == 58) text && is_line_path (own_path text)

-- The bytes after the first `:`, split at spaces.
abbrev pub pieces_after : List ℕ → List (List ℕ)
pieces_after line = slice_split (λ b. b == 32) (after_first (λ b. b == 58) line)

-- Whether the first piece is empty, and the other pieces are paths.
abbrev pub are_needed : List (List ℕ) → Bool
are_needed ([] ∷ paths) = list_all is_line_path paths
are_needed _ = false

-- Whether a text is a dependency line.
unfoldable pub is_dependency_line : List ℕ → Bool
is_dependency_line line =
    list_any (λ b. b == 58) line && (is_line_path (own_path line) && are_needed (pieces_after line))

-- The paths of the needed modules, from the pieces of a dependency line.
abbrev pub needed_paths : List (List ℕ) → List (List ℕ)
needed_paths [] = []
needed_paths (front ∷ paths) = paths

-- The first path of a dependency line. A text that isn't one has none.
unfoldable pub line_path : List ℕ → Option (List ℕ)
line_path line = if is_dependency_line line then Some (own_path line) else None

-- The other paths of a dependency line, in their order.
unfoldable pub line_needs : List ℕ → List (List ℕ)
line_needs line = needed_paths (pieces_after line)
