-- The kinds of lines on needs, in the order of modules.unmet.
-- It belongs to the code: no public meaning rests on it.
use Rattle.std.specs.Prelude.{ℕ, Bool, ◌||◌, List, [], ◌∷◌, ◌++◌, Option, if◌then◌else◌}
use Rattle.std.specs.List.{flat_map, list_any}
use Rattle.module_facts.specs.declared.facts.Facts.{Facts}
use Rattle.module_symbols.specs.declared.needs.Need.{Need as StatedNeed}
use Rattle.name_table.specs.NameTable.{Table, place_of}
use Rattle.symbol_binding.specs.Needs.{NeedTest, is_missing, is_hidden, is_other_version, is_barred}
use Rattle.symbol_binding.specs.declared.unbound.Unbound.{Unbound}
use Rattle.symbol_binding.specs.declared.unbound.Unbound.TheVariants.{Missing as MissingLine}
use Rattle.symbol_binding.specs.declared.unbound.Unbound.TheVariants.{Gpl as GplLine}
use Rattle.symbol_binding.specs.declared.unbound.Unbound.TheVariants.{Version as VersionLine}
use Rattle.symbol_binding.specs.declared.unbound.Unbound.TheVariants.{Namespace as NamespaceLine}
use Rattle.provider_rel.specs.declared.unmet.UnmetKind.{UnmetKind}
use Rattle.provider_rel.specs.declared.unmet.UnmetKind.TheVariants.{Missing, Gpl, Version}
use Rattle.provider_rel.specs.declared.unmet.UnmetKind.TheVariants.{Namespace}
use Rattle.provider_rel.specs.Faces.{face_of, need_of_facts}
use Rattle.provider_rel.specs.Items.{Item, item_under, seen_under, path_under}

-- The test of a kind.
abbrev pub test_of : UnmetKind → NeedTest
test_of Missing = is_missing
test_of Gpl = is_hidden
test_of Version = is_other_version
test_of Namespace = is_barred

-- The line of a kind: of the module at a path, on a name, and its provider.
abbrev pub line_of : UnmetKind → List ℕ → List ℕ → List ℕ → Unbound
line_of Missing m x by = MissingLine m x
line_of Gpl m x by = GplLine m x by
line_of Version m x by = VersionLine m x by
line_of Namespace m x by = NamespaceLine m x by

-- The line of a kind of a need, by what was found under its name, if it has one.
unfoldable pub line_if : UnmetKind → Bool → Facts → StatedNeed → Option Item → List Unbound
line_if kind known f n found =
    if test_of kind (seen_under known n.name found) (face_of f) (need_of_facts n)
    then line_of kind f.path n.name (path_under known found) ∷ []
    else []

-- The lines of a kind of all needs of a module, by the table of names.
abbrev pub lines_by : UnmetKind → Bool → List Item → Table → Facts → List Unbound
lines_by kind known is names f =
    flat_map (λ (n : StatedNeed). line_if kind known f n (item_under is (place_of names n.name)))
    f.needs

-- Whether a need fails the test of a kind, by what was found under its name.
abbrev pub fails : UnmetKind → Bool → Facts → StatedNeed → Option Item → Bool
fails kind known f n found =
    test_of kind (seen_under known n.name found) (face_of f) (need_of_facts n)

-- Whether a need has a line of any kind.
abbrev pub has_line : Bool → Facts → StatedNeed → Option Item → Bool
has_line known f n found =
    fails Missing known f n found
    || fails Gpl known f n found
    || fails Version known f n found
    || fails Namespace known f n found

-- Whether any need of a module has one, by the table of names.
abbrev pub has_lines : Bool → List Item → Table → Facts → Bool
has_lines known is names f =
    list_any (λ (n : StatedNeed). has_line known f n (item_under is (place_of names n.name)))
    f.needs

-- Lines, and after them those of all needs of a tree, one kind after the other.
abbrev pub with_need_lines : Bool → List Item → Table → List Facts → List Unbound → List Unbound
with_need_lines known is names tree before =
    before ++ flat_map (lines_by Missing known is names) tree
    ++ flat_map (lines_by Gpl known is names) tree
    ++ flat_map (lines_by Version known is names) tree
    ++ flat_map (lines_by Namespace known is names) tree
