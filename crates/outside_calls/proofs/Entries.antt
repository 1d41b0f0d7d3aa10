-- A lookup among an ordered map's entries, and an insertion there, are the same as in the files
-- that they represent.
use Rattle.std.proofs.Common.{◌≡◌, ℕ, cond, List, [], ◌∷◌, map, Some, Ordering, refl, sym, ap, ◌∙◌}
use Rattle.std.specs.Ordering.{nat_cmp, is_eq, eq_by_cmp, match_ordering}
use Rattle.std.specs.Cmp.Lexicographic.{slice_cmp, nat_list_cmp_total}
use Rattle.std.specs.FinMap.{get, insert, from_entries, find, put, get-from_entries, get-insert}
use Rattle.std.specs.FinMap.{same_map, slice_cmp-IsAntisymmetric, nat_cmp-IsAntisymmetric}
use Rattle.std.specs.FinMap.Entries.{find-put, by_order}
use Rattle.std.specs.Map.{lookup}
use Rattle.std.specs.BTreeMap.{is_at, insert_entry}
use Rattle.std.specs.Global.{Vec}
use Rattle.std.specs.declared.cmp.Ordering.TheVariants.{Less, Equal, Greater}
use Rattle.outside_calls.specs.Entries.{files_of}

-- the order of paths
abbrev pub by_bytes : List ℕ → List ℕ → Ordering
by_bytes = slice_cmp nat_cmp

abbrev pub in_bytes : List (Vec ℕ × List ℕ) → List (List ℕ × List ℕ)
in_bytes entries = map (λ e. (e.0.items, e.1)) entries

lookup-in_bytes : (q : List ℕ) (es : List (Vec ℕ × List ℕ))
    → lookup (is_at (λ k. by_bytes q k.items)) es ≡ find by_bytes q (in_bytes es)
lookup-in_bytes q [] = refl
lookup-in_bytes q (e ∷ es) =
    ap (cond (is_eq (by_bytes q e.0.items)) (Some e.1)) (lookup-in_bytes q es)

pub get-files_of : (q : List ℕ) (es : List (Vec ℕ × List ℕ))
    → lookup (is_at (λ k. by_bytes q k.items)) es ≡ get (files_of es) q
get-files_of q es = lookup-in_bytes q es ∙ sym (get-from_entries nat_list_cmp_total (in_bytes es) q)

insert-in_bytes : (k : Vec ℕ) (v : List ℕ) (es : List (Vec ℕ × List ℕ))
    → in_bytes (insert_entry (λ x y. by_bytes x.items y.items) es k v)
    ≡ put by_bytes k.items v (in_bytes es)
insert-in_bytes k v [] = refl
insert-in_bytes k v (e ∷ es) =
    elim (by_bytes k.items e.0.items) as (λ o. in_bytes
    (match_ordering o ((k, v) ∷ e ∷ es) ((e.0, v) ∷ es)
    (e ∷ insert_entry (λ x y. by_bytes x.items y.items) es k v))
    ≡ by_order o ((k.items, v) ∷ in_bytes (e ∷ es)) ((e.0.items, v) ∷ in_bytes es)
    ((e.0.items, e.1) ∷ put by_bytes k.items v (in_bytes es))) [
      | Less ↦ refl
      | Equal ↦ refl
      | Greater ↦ ap (λ fs. (e.0.items, e.1) ∷ fs) (insert-in_bytes k v es)
    ]

pub files_of-insert : (k : Vec ℕ) (v : List ℕ) (es : List (Vec ℕ × List ℕ))
    → files_of (insert_entry (λ x y. by_bytes x.items y.items) es k v)
    ≡ insert (files_of es) k.items v
files_of-insert k v es =
    ap from_entries (insert-in_bytes k v es)
    ∙ same_map nat_list_cmp_total (slice_cmp-IsAntisymmetric nat_cmp-IsAntisymmetric) _ _
    (λ q. get-from_entries nat_list_cmp_total _ q
    ∙ find-put by_bytes nat_list_cmp_total q k.items v (in_bytes es)
    ∙ ap (cond (eq_by_cmp by_bytes q k.items) (Some v))
    (sym (get-from_entries nat_list_cmp_total (in_bytes es) q))
    ∙ sym (get-insert nat_list_cmp_total (files_of es) k.items v q))
