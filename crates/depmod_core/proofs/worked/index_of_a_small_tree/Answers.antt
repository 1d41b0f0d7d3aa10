use Rattle.std.proofs.Common.{◌≡◌, ℕ, List, [], ◌∷◌, sym, ap, ◌∙◌, codes, unwrap_or}
use Rattle.std.specs.Ordering.{nat_cmp}
use Rattle.std.specs.Cmp.Lexicographic.{slice_cmp}
use Rattle.std.specs.FinMap.{empty, entries, find, put, entries-insert, get-entries}
use Rattle.std.specs.FinMap.{entries-from_sorted, same_entries_map}
use Rattle.std.specs.Cmp.Lexicographic.{nat_list_cmp_total}
use Rattle.index_format.specs.Map.{Value, KeyValues, place, values_of, with_value}
use Rattle.index_format.specs.Tree.{Entry}
use Rattle.index_format.specs.Worked.{two_modules, two_modules_entries}
use Rattle.index_format.proofs.Maps.{entries-empty}
use Rattle.depmod_core.specs.Dependencies.{dep_map}
use Rattle.depmod_core.proofs.worked.index_of_a_small_tree.Goals as goal

-- the entries with one more value
more : (m : KeyValues) (es : List Entry) (key : List ℕ) (v : Value) → entries m ≡ es
    → entries (with_value m key v)
    ≡ put (slice_cmp nat_cmp) key (place (unwrap_or (find (slice_cmp nat_cmp) key es) []) v) es
more m es key v is =
    entries-insert nat_list_cmp_total m key (place (values_of m key) v)
    ∙ ap (λ o. put (slice_cmp nat_cmp) key (place (unwrap_or o []) v) (entries m))
    (get-entries m key)
    ∙ ap (λ fs. put (slice_cmp nat_cmp) key
    (place (unwrap_or (find (slice_cmp nat_cmp) key fs) []) v) fs) is

pub returns : goal.returns
unfolding dep_map
returns c =
    let a : Value = (0, codes "kernel/a.ko:") in
    let b : Value = (1, codes "kernel/b.ko: kernel/a.ko") in
    let one = with_value empty (codes "a") a in
    same_entries_map (with_value one (codes "b") b) two_modules
    (more one ((codes "a", a ∷ []) ∷ []) (codes "b") b (more empty [] (codes "a") a entries-empty)
    ∙ sym (entries-from_sorted (slice_cmp nat_cmp) two_modules_entries tt))
