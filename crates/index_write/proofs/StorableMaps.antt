-- Maps of values that a file can have: their files stand for them.
use Rattle.std.proofs.Common.{◌<◌, ◌≤◌, ◌^◌, ℕ, Bool, true, false, cond, List, [], ◌∷◌, length}
use Rattle.std.proofs.Common.{fold, Some, unwrap_or, sym, subst, arith}
use Rattle.std.specs.Prelude.{nat_lt}
use Rattle.std.specs.List.{AllByRecursion, list_all}
use Rattle.std.specs.Ordering.{nat_cmp, eq_by_cmp}
use Rattle.std.specs.declared.cmp.Ordering.{Ordering}
use Rattle.std.specs.declared.cmp.Ordering.TheVariants.{Less, Equal, Greater}
use Rattle.std.specs.Cmp.Lexicographic.{slice_cmp}
use Rattle.std.specs.FinMap.{entries, empty, find, put, get-entries, entries-insert, entries_sorted}
use Rattle.std.specs.FinMap.Entries.{by_order}
use Rattle.std.proofs.lemmas.Cmp.{nat_list_cmp_total}
use Rattle.index_format.specs.Map.{Value, KeyValues, values_of, place, with_value, IsKey}
use Rattle.index_format.specs.Listing.{KeyValue}
use Rattle.index_format.specs.Tree.{Entry}
use Rattle.index_format.specs.File.{file}
use Rattle.index_format.specs.Holds.{Holds}
use Rattle.index_format.proofs.Maps.{entries-empty}
use Rattle.index_write.specs.Lists.{IsStorable, IsStorableEntry}
use Rattle.index_write.proofs.KeyLemmas.{rises}
use Rattle.index_write.proofs.Standing.{holds}

abbrev R : List ℕ → List ℕ → Ordering
R = slice_cmp nat_cmp

abbrev Sound : List Entry → Type 0
Sound es = AllByRecursion IsStorableEntry es

placed-storable : (vs : List Value) (v : Value) → AllByRecursion IsStorable vs → IsStorable v
    → AllByRecursion IsStorable (place vs v)
placed-storable [] v all one = (one, tt)
placed-storable (x ∷ xs) v all one =
    go (list_all (λ y. nat_lt v.0 y.0) (x ∷ xs)) (placed-storable xs v all.1 one)
  where
    go : (b : Bool) → AllByRecursion IsStorable (place xs v)
        → AllByRecursion IsStorable (cond b (v ∷ x ∷ xs) (x ∷ place xs v))
    go true rest = (one, all)
    go false rest = (all.0, rest)

placed-some : (vs : List Value) (v : Value) → 0 < length (place vs v)
placed-some [] v = omega arith
placed-some (x ∷ xs) v = go (list_all (λ y. nat_lt v.0 y.0) (x ∷ xs))
  where
    go : (b : Bool) → 0 < length (cond b (v ∷ x ∷ xs) (x ∷ place xs v))
    go true = omega arith
    go false = omega arith

found-storable : (q : List ℕ) (es : List Entry) → Sound es
    → AllByRecursion IsStorable (unwrap_or (find R q es) [])
found-storable q [] all = tt
found-storable q (e ∷ es) all = go (eq_by_cmp R q e.0) (found-storable q es all.1)
  where
    go : (b : Bool) → AllByRecursion IsStorable (unwrap_or (find R q es) [])
        → AllByRecursion IsStorable (unwrap_or (cond b (Some e.1) (find R q es)) [])
    go true rest = all.0.values
    go false rest = rest

put-sound : (k : List ℕ) (vs : List Value) (es : List Entry) → IsStorableEntry (k, vs) → Sound es
    → Sound (put R k vs es)
put-sound k vs [] one all = (one, tt)
put-sound k vs (e ∷ es) one all = go (R k e.0) (put-sound k vs es one all.1)
  where
    go : (o : Ordering) → Sound (put R k vs es)
        → Sound (by_order o ((k, vs) ∷ e ∷ es) ((e.0, vs) ∷ es) (e ∷ put R k vs es))
    go Less rest = (one, all)
    go Equal rest = (record { key = all.0.key; some = one.some; values = one.values }, all.1)
    go Greater rest = (all.0, rest)

-- a value that a file can have, with its key
abbrev pub Fits : KeyValue → Type 0
Fits p = IsKey p.0 × IsStorable p.1

with-sound : (m : KeyValues) (p : KeyValue) → Sound (entries m) → Fits p
    → Sound (entries (with_value m p.0 p.1))
with-sound m p all fit =
    let old : AllByRecursion IsStorable (values_of m p.0) =
    subst (λ o. AllByRecursion IsStorable (unwrap_or o [])) (sym (get-entries m p.0))
    (found-storable p.0 (entries m) all) in
    subst Sound (sym (entries-insert nat_list_cmp_total m p.0 (place (values_of m p.0) p.1)))
    (put-sound p.0 (place (values_of m p.0) p.1) (entries m)
    (record {
      key = fit.0;
      some = placed-some (values_of m p.0) p.1;
      values = placed-storable (values_of m p.0) p.1 old fit.1;
    }) all)

abbrev with_all : KeyValues → List KeyValue → KeyValues
with_all m ps = fold (λ m p. with_value m p.0 p.1) m ps

all-sound : (m : KeyValues) (ps : List KeyValue) → Sound (entries m) → AllByRecursion Fits ps
    → Sound (entries (with_all m ps))
all-sound m [] all fit = all
all-sound m (p ∷ ps) all fit = all-sound (with_value m p.0 p.1) ps (with-sound m p all fit.0) fit.1

-- the file of such values stands for their map
pub map-holds : (ps : List KeyValue) → AllByRecursion Fits ps
    → length (file (with_all empty ps)) ≤ 2 ^ 26
    → Holds (file (with_all empty ps)) (with_all empty ps)
map-holds ps fit low =
    let m = with_all empty ps in
    holds m (rises (entries m) (entries_sorted m))
    (all-sound empty ps (subst Sound (sym entries-empty) tt) fit) low
