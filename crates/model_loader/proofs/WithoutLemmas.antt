-- What a machine keeps without one of its entries.
use Rattle.std.proofs.Common.{◌≡◌, ◌<◌, ◌∙◌, ℕ, zero, suc, List, [], ◌∷◌, Option, Some}
use Rattle.std.proofs.Common.{None, refl, sym, ap, arith, length, map, get_or, cond}
use Rattle.std.specs.Prelude.{option_map, All, flat_map, remove, slice_get}
use Rattle.std.specs.Prelude.{is_some}
use Rattle.std.specs.List.{IsDistinct, list_any}
use Rattle.std.specs.Option.{option_map_or}
use Rattle.std.specs.Str.{bytes_eq}
use Rattle.std.proofs.lemmas.Bool.{or_parts}
use Rattle.km_names.specs.First.{first}
use Rattle.kernel_exports.specs.declared.kernel.KernelExport.{KernelExport}
use Rattle.export_table.specs.declared.placed.PlacedExport.{PlacedExport}
use Rattle.model_loader.specs.declared.entry.Entry.{Entry}
use Rattle.export_table.specs.declared.standing.Standing.{Standing}
use Rattle.export_table.specs.declared.standing.ExportTable.{ExportTable}
use Rattle.model_loader.specs.Kept.{IsKept}
use Rattle.export_table.specs.Standing.{standing_of}
use Rattle.model_loader.specs.Machine.{Machine, table}
use Rattle.export_table.specs.Exports.{export_named, kernel_placed, standing}
use Rattle.model_loader.specs.Sound.{IsPlaced, exported_names}
use Rattle.model_loader.specs.Use.{without}
use Rattle.model_loader.proofs.ListedLemmas.{exports-without, flip, names-without, names_of}
use Rattle.model_loader.proofs.ListedLemmas.{none-named, parts, unlisted, unlisted-without}
use Rattle.model_loader.proofs.PlaceLemmas.{none≢some}

all-remove : {X : Type 0} (P : X → Type 0) (xs : List X) (j : ℕ) → All P xs → All P (remove xs j)
all-remove P [] zero all k d less = absurd (omega arith)
all-remove P [] (suc j) all k d less = absurd (omega arith)
all-remove P (x ∷ xs) zero all k d less = all (suc k) d (omega arith)
all-remove P (x ∷ xs) (suc j) all zero d less = all zero d (omega arith)
all-remove P (x ∷ xs) (suc j) all (suc k) d less =
    all-remove P xs j (λ i c inside. all (suc i) c (omega arith)) k d (omega arith)

pub placed-without : (machine : Machine) (j : ℕ) → All (IsPlaced machine) machine.entries
    → All (IsPlaced (without machine j)) (without machine j).entries
placed-without machine j all =
    all-remove (IsPlaced (without machine j)) machine.entries j
    (λ k d less. let is
    = all k d less in record {
      size = is.size;
      begins = is.begins;
      whole = is.whole;
      low = is.low;
      high = is.high;
    })

-- What is under a name without an entry: nothing, if that entry exported it, else what was there.
pub none-kernel : (x : List ℕ) (es : List KernelExport)
    → unlisted x (map (λ (e : KernelExport). e.name) es)
    → export_named x (map kernel_placed es) ≡ None
none-kernel x [] none = refl
none-kernel x (y ∷ ys) none =
    let h
    = or_parts (bytes_eq x y.name)
    (list_any (bytes_eq x) (map (λ (z : KernelExport). z.name) ys)) none in
    rw (flip y.name x, h.0) (none-kernel x ys h.1)

abbrev pub standing_by : List ℕ → Entry → Option Standing
standing_by x n = option_map (standing (Some n.loaded.name)) (export_named x n.exports)

pub none-standing : (x : List ℕ) (es : List Entry) → unlisted x (flat_map names_of es)
    → first (map (standing_by x) es) ≡ None
none-standing x [] none = refl
none-standing x (e ∷ es) none =
    let h = parts x (names_of e) (flat_map names_of es) none in
    ap (λ (o : Option PlacedExport). first
    (option_map (standing (Some e.loaded.name)) o ∷ map (standing_by x) es))
    (none-named x e.exports h.0)
    ∙ none-standing x es h.1

unlisted-none : (machine : Machine) (x : List ℕ) → unlisted x (exported_names machine)
    → table machine x ≡ None
unfolding table
unlisted-none machine x none =
    let h
    = parts x (map (λ (e : KernelExport). e.name) machine.kernel.exports)
    (flat_map names_of machine.entries) none in
    ap (λ (o : Option PlacedExport). first
    (option_map (standing None) o ∷ first (map (standing_by x) machine.entries) ∷ []))
    (none-kernel x machine.kernel.exports h.0)
    ∙ ap (λ (o : Option Standing). first (o ∷ [])) (none-standing x machine.entries h.1)

hole-same : (f : Entry → Option Standing) (es : List Entry) (j : ℕ) (e : Entry)
    → slice_get es j ≡ Some e → f e ≡ None → first (map f (remove es j)) ≡ first (map f es)
hole-same f [] j e at none = absurd (none≢some at)
hole-same f (y ∷ ys) zero e at none =
    let same : y ≡ e = ap (λ o. option_map_or (λ (n : Entry). n) o y) at in
    sym (ap (λ (o : Option Standing). first (o ∷ map f ys)) (ap f same ∙ none))
hole-same f (y ∷ ys) (suc j) e at none =
    again (f y) (map f (remove ys j)) (map f ys) (hole-same f ys j e at none)
  where
    again : (o : Option Standing) (xs zs : List (Option Standing)) → first xs ≡ first zs
        → first (o ∷ xs) ≡ first (o ∷ zs)
    again None xs zs same = same
    again (Some s) xs zs same = refl

pub stood-without : (machine : Machine) (j : ℕ) (e : Entry) → slice_get machine.entries j ≡ Some e
    → (x : List ℕ) → export_named x e.exports ≡ None → table machine x ≡ table (without machine j) x
unfolding table
stood-without machine j e at x is =
    ap (λ (o : Option Standing). first
    (option_map (standing None) (export_named x (map kernel_placed machine.kernel.exports))
    ∷ o ∷ []))
    (sym (hole-same (standing_by x) machine.entries j e at
    (ap (option_map (standing (Some e.loaded.name))) is)))

standing-without : (machine : Machine) (j : ℕ) (e : Entry) → slice_get machine.entries j ≡ Some e
    → IsDistinct bytes_eq (exported_names machine) → (x : List ℕ)
    → cond (is_some (export_named x e.exports)) None (table machine x) ≡ table (without machine j) x
standing-without machine j e at distinct x = by (export_named x e.exports) refl
  where
    by : (o : Option PlacedExport) → export_named x e.exports ≡ o
        → cond (is_some (export_named x e.exports)) None (table machine x)
        ≡ table (without machine j) x
    by (Some p) is =
        ap (λ o. cond (is_some o) None (table machine x)) is
        ∙ sym
        (unlisted-none (without machine j) x (unlisted-without machine j e at distinct x p is))
    by None is =
        ap (λ o. cond (is_some o) None (table machine x)) is
        ∙ stood-without machine j e at x is

pub slice-at : {X : Type 0} (xs : List X) (j : ℕ) (x : X) → j < length xs → x ≡ get_or xs j x
    → slice_get xs j ≡ Some x
slice-at [] j x less is = absurd (omega arith)
slice-at (y ∷ ys) zero x less is = ap Some (sym is)
slice-at (y ∷ ys) (suc j) x less is = slice-at ys j x (omega arith) is

-- What a machine keeps, without an entry whose names the table forgot.
pub kept-without : (machine : Machine) (t next : ExportTable) (j : ℕ) (e : Entry) → IsKept machine t
    → j < length machine.entries → e ≡ get_or machine.entries j e
    → ((x : List ℕ)
    → standing_of next x ≡ cond (is_some (export_named x e.exports)) None (standing_of t x))
    → IsKept (without machine j) next
kept-without machine t next j e kept inside is forgot =
    let at = slice-at machine.entries j e inside is in
    record {
      keeps = record {
        at = λ x.
            forgot x
            ∙ ap (cond (is_some (export_named x e.exports)) None) (kept.keeps.at x)
            ∙ standing-without machine j e at kept.exports x;
      };
      names = names-without machine.entries j e at kept.names;
      exports = exports-without machine j e at kept.exports;
      placed = placed-without machine j kept.placed;
    }
