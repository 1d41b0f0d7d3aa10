-- Paths of dependency lines that were found good.
-- It belongs to the code: no public meaning rests on it.
use Rattle.std.specs.Prelude.{◌≡◌, ℕ, ◌<◌, ◌&&◌, ◌==◌, Bool, true, false, List, length, map}
use Rattle.std.specs.Prelude.{if◌then◌else◌}
use Rattle.std.specs.Borrow.{Bor}
use Rattle.std.specs.List.{All, list_all, list_any, slice_split}
use Rattle.std.specs.Str.{bytes_eq}
use Rattle.km_names.specs.Path.{module_name}
use Rattle.index_format.specs.Listing.{KeyValue}
use Rattle.mod_tree.specs.DependencyLine.{is_line_path, are_needed, needed_paths, own_path}

-- Whether a text is a path of a known module.
abbrev pub is_good : (List ℕ → Bool) → List ℕ → Bool
is_good has path = is_line_path path && has (module_name path)

-- A byte of a file's name stands for one of its module's name, and ends neither.
pub record StandsFor (byte other : ℕ) : Type 0 where
  pub no_dot : (byte == 46) ≡ false
  pub no_slash : (byte == 47) ≡ false
  pub same : (if byte == 45 then 95 else byte) ≡ other

-- Those of some texts that aren't empty pass a test.
abbrev pub AreKept : (List ℕ → Bool) → List (Bor (List ℕ)) → Type 0
AreKept test texts = All (λ text. 0 < length text.now → test text.now ≡ true) texts

-- The paths with which some lines begin are paths of known modules.
abbrev pub AreOwnGood : (List ℕ → Bool) → List KeyValue → Type 0
AreOwnGood has lines = All (λ m. is_good has (own_path m.1.1) ≡ true) lines

-- Whether what follows the `:` of a line is a sequence of paths of known modules, each after a
-- space.
abbrev pub are_good_needs : (List ℕ → Bool) → List ℕ → Bool
are_good_needs has needs =
    let pieces = slice_split (λ b. b == 32) needs in
    are_needed pieces && list_all has (map module_name (needed_paths pieces))

-- Whether a text has a `:`, and before the first one the path of the module of this name.
abbrev pub begins_line : List ℕ → List ℕ → Bool
begins_line name line =
    (list_any (λ b. b == 58) line && is_line_path (own_path line))
    && bytes_eq (module_name (own_path line)) name
