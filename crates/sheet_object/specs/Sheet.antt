-- The conditions of a sheet and its additions.
use Rattle.std.specs.Prelude.{ℕ, ◌++◌, ◌^◌, ◌&&◌, ◌==◌, Bool, true, not, nat_le, nat_lt, List, []}
use Rattle.std.specs.Prelude.{◌∷◌, length, map}
use Rattle.std.specs.List.{list_all, list_any}
use Rattle.name_table.specs.FirstSeen.{is_among}
use Rattle.sheet_object.specs.declared.sheet.Sheet.{Sheet}
use Rattle.sheet_object.specs.declared.sheet.SheetExport.{SheetExport}
use Rattle.sheet_object.specs.declared.sheet.SheetMore.{SheetMore}
use Rattle.sheet_object.specs.declared.sheet.SheetNeed.{SheetNeed}
use Rattle.sheet_object.specs.declared.sheet.SheetPlace.{SheetPlace}
use Rattle.sheet_object.specs.declared.sheet.SheetSpace.{SheetSpace}
use Rattle.sheet_object.specs.declared.sheet.SheetVersion.{SheetVersion}

-- The names of the exported symbols.
abbrev pub export_names : Sheet → List (List ℕ)
export_names s = map (λ (e : SheetExport). e.name) s.exports

-- The names of the exported symbols, and then of the undefined ones.
abbrev pub symbol_names : Sheet → List (List ℕ)
symbol_names s = export_names s ++ map (λ (n : SheetNeed). n.name) s.needs

-- The names of the symbols of places.
abbrev pub place_names : Sheet → List (List ℕ)
place_names s = map (λ (p : SheetPlace). p.symbol) s.places

-- The names of the exports that are in a namespace.
abbrev pub spaced_names : SheetMore → List (List ℕ)
spaced_names m = map (λ (p : SheetSpace). p.name) m.spaces

-- Whether a list has at most 65,535 items.
abbrev pub is_few : {X : Type 0} → List X → Bool
is_few items = nat_le (length items) 65535

-- Whether a text has no NUL, so that one can end it.
abbrev pub has_no_nul : List ℕ → Bool
has_no_nul text = not (list_any (λ b. b == 0) text)

-- Whether this is a text of a sheet: it has no NUL and at most 4096 bytes.
unfoldable pub is_text : List ℕ → Bool
is_text text = nat_le (length text) 4096 && has_no_nul text

-- Whether the name of an entry of `__versions` is a text of at most 55 bytes. A NUL follows it in
-- 56.
abbrev pub is_version : SheetVersion → Bool
is_version v = is_text v.name && nat_le (length v.name) 55

-- Whether the name of an extended version has no NUL, however long it is, and its number has 32
-- bits.
abbrev pub is_extended : SheetVersion → Bool
is_extended v = has_no_nul v.name && nat_lt v.crc (2 ^ 32)

-- Whether a namespace has no NUL and isn't empty.
abbrev pub is_space : SheetSpace → Bool
is_space p = has_no_nul p.space && nat_lt 0 (length p.space)

-- Whether no name occurs twice.
abbrev pub are_distinct : List (List ℕ) → Bool
are_distinct [] = true
are_distinct (name ∷ names) = not (is_among names name) && are_distinct names

-- Whether no list of a sheet is too long.
unfoldable pub are_few : Sheet → Bool
are_few s =
    is_few s.texts && is_few s.versions && is_few s.exports && is_few s.needs && is_few s.places

-- Whether texts and names are texts, and numbers and namespaces can be written.
unfoldable pub are_texts : Sheet → SheetMore → Bool
are_texts s m =
    list_all is_text s.texts && list_all is_version s.versions && list_all is_text (symbol_names s)
    && list_all is_extended m.ext && list_all is_space m.spaces

-- Whether names are distinct, and each is one of the others.
abbrev pub are_chosen : List (List ℕ) → List (List ℕ) → Bool
are_chosen others names = are_distinct names && list_all (is_among others) names

-- Whether the names of symbols are distinct, places name symbols, and GPL-only names and names in
-- namespaces are exports.
unfoldable pub are_known : Sheet → SheetMore → Bool
are_known s m =
    are_distinct (symbol_names s) && list_all (is_among (symbol_names s)) (place_names s)
    && are_chosen (export_names s) m.gpl && are_chosen (export_names s) (spaced_names m)

-- Whether an object can be made of a sheet with its additions.
unfoldable pub is_sheet : Sheet → SheetMore → Bool
is_sheet s m = are_few s && are_texts s m && are_known s m

-- The empty additions.
abbrev pub no_more : SheetMore
no_more = record { ext = []; gpl = []; spaces = [] }
