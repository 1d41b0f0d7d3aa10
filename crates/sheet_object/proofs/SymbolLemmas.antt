-- Symbols put into a table one after the other.
use Rattle.std.proofs.Common.{◌≡◌, ℕ, ◌+◌, ◌*◌, ◌<◌, ◌≤◌, Bor, List, [], ◌∷◌, ◌++◌, codes, length}
use Rattle.std.proofs.Common.{map, take, get_or, All, Option, None, Some, unwrap_or, sym, ap, subst}
use Rattle.std.proofs.Common.{◌∙◌, arith}
use Rattle.std.proofs.Math.Nat.{add-zero}
use Rattle.std.proofs.lemmas.List.{append-nil, append_assoc, length-append, length-map}
use Rattle.std.proofs.lemmas.List.{length-take-le, take_more, map_more}
use Rattle.std.proofs.lemmas.List.Concat.{flat_map-append}
use Rattle.std.specs.List.{flat_map}
use Rattle.elf_format.specs.declared.symbol.TheConstants.{SHN_ABS, SHN_UNDEF}
use Rattle.sheet_object.specs.declared.section.TheConstants.{TEXT}
use Rattle.sheet_object.specs.declared.sheet.Sheet.{Sheet}
use Rattle.sheet_object.specs.declared.sheet.SheetExport.{SheetExport}
use Rattle.sheet_object.specs.declared.sheet.SheetMore.{SheetMore}
use Rattle.sheet_object.specs.declared.sheet.SheetNeed.{SheetNeed}
use Rattle.sheet_object.specs.declared.sheet.SheetPlace.{SheetPlace}
use Rattle.sheet_object.specs.declared.symbols.SymbolTable.{SymbolTable}
use Rattle.name_table.specs.NameTable.{first_place}
use Rattle.sheet_object.specs.Sheet.{symbol_names}
use Rattle.elf_write.specs.Number.{with_nul, zeros}
use Rattle.sheet_object.specs.Further.{space_place, strings_section}
use Rattle.sheet_object.specs.Symbols.{SymbolEntry, table_section, local_symbol, version_symbols}
use Rattle.sheet_object.specs.Symbols.{space_symbols, local_symbols, export_symbols, need_info}
use Rattle.sheet_object.specs.Symbols.{need_symbol, locals, symbols, symbol_number, names_bytes}
use Rattle.sheet_object.specs.Symbols.{symbol_bytes, entries_bytes}
use Rattle.sheet_object.specs.Contents.{place_bytes, places_bytes, rela_bytes, symtab_bytes}
use Rattle.sheet_object.specs.Contents.{strtab_bytes}
use Rattle.sheet_object.specs.Writing.{Adds, names_of}
use Rattle.sheet_object.proofs.NameLemmas.{first_place-names}

pub entries_bytes-append : (xs ys : List SymbolEntry) (at : ℕ)
    → entries_bytes at (xs ++ ys)
    ≡ entries_bytes at xs ++ entries_bytes (at + length (names_bytes xs)) ys
entries_bytes-append [] ys at = ap (λ n. entries_bytes n ys) (sym (add-zero at))
entries_bytes-append (x ∷ xs) ys at =
    let next : ℕ = at + (length x.name + 1) in
    let e : next + length (names_bytes xs) ≡ at + length (with_nul x.name ++ names_bytes xs) =
    omega (arith, length-append (with_nul x.name) (names_bytes xs), length-append x.name (0 ∷ []))
    in
    ap (λ r. symbol_bytes at x ++ r)
    (entries_bytes-append xs ys next ∙ ap (λ n. entries_bytes next xs ++ entries_bytes n ys) e)
    ∙ sym (append_assoc (symbol_bytes at x) (entries_bytes next xs) _)

-- one addition after another
pub Adds-then : (a b c : SymbolTable) (xs ys : List SymbolEntry) → Adds a b xs → Adds b c ys
    → Adds a c (xs ++ ys)
Adds-then a b c xs ys p q = record {
  entries =
      q.entries
      ∙ ap (λ r. r ++ entries_bytes (length b.names.items) ys) p.entries
      ∙ append_assoc a.entries.items (entries_bytes (length a.names.items) xs)
      (entries_bytes (length b.names.items) ys)
      ∙ ap (λ n. a.entries.items ++ (entries_bytes (length a.names.items) xs ++ entries_bytes n ys))
      (ap length p.names ∙ length-append a.names.items (names_bytes xs))
      ∙ ap (λ r. a.entries.items ++ r) (sym (entries_bytes-append xs ys (length a.names.items)));
  names =
      q.names
      ∙ ap (λ r. r ++ names_bytes ys) p.names
      ∙ append_assoc a.names.items (names_bytes xs) (names_bytes ys)
      ∙ ap (λ r. a.names.items ++ r) (sym (flat_map-append (λ e. with_nul e.name) xs ys));
}

-- how much the names grow
pub Adds-length : (a b : SymbolTable) (xs : List SymbolEntry) → Adds a b xs
    → length b.names.items ≡ length a.names.items + length (names_bytes xs)
Adds-length a b xs p = ap length p.names ∙ length-append a.names.items (names_bytes xs)

pub length-names_bytes-one : (e : SymbolEntry) → length (names_bytes (e ∷ [])) ≡ length e.name + 1
length-names_bytes-one e =
    omega (arith, length-append (with_nul e.name) [], length-append e.name (0 ∷ []))

pub length-names_bytes-version : (name : List ℕ) (crc : Option ℕ) → length name ≤ 4096
    → length (names_bytes (version_symbols name crc)) ≤ 4103
length-names_bytes-version name None h = omega arith
length-names_bytes-version name (Some crc) h =
    omega (
      arith,
      length-names_bytes-one (local_symbol (codes "__crc_" ++ name) SHN_ABS crc),
      length-append (codes "__crc_") name,
    )

pub length-names_bytes-space : (name : List ℕ) (section : ℕ) (place : Option ℕ) → length name ≤ 4096
    → length (names_bytes (space_symbols name section place)) ≤ 4109
length-names_bytes-space name section None h = omega arith
length-names_bytes-space name section (Some at) h =
    omega (
      arith,
      length-names_bytes-one (local_symbol (codes "__kstrtabns_" ++ name) section at),
      length-append (codes "__kstrtabns_") name,
    )

length-names_bytes-append : (xs ys : List SymbolEntry)
    → length (names_bytes (xs ++ ys)) ≡ length (names_bytes xs) + length (names_bytes ys)
length-names_bytes-append xs ys =
    ap length (flat_map-append (λ (e : SymbolEntry). with_nul e.name) xs ys)
    ∙ length-append (names_bytes xs) (names_bytes ys)

-- the local symbols of an export with a short name
pub length-names_bytes-local : (m : SheetMore) (e : SheetExport) → length e.name ≤ 4096
    → length (names_bytes (local_symbols m e)) ≤ 12319
unfolding local_symbols
length-names_bytes-local m e h =
    let table : SymbolEntry
    = local_symbol (codes "__ksymtab_" ++ e.name) (table_section m e.name) 0 in
    let version : List SymbolEntry = version_symbols e.name e.crc in
    let space : List SymbolEntry
    = space_symbols e.name (strings_section m) (space_place m e.name) in
    omega (
      arith,
      length-names_bytes-append (table ∷ []) (version ++ space),
      length-names_bytes-append version space,
      length-names_bytes-one table,
      length-append (codes "__ksymtab_") e.name,
      length-names_bytes-version e.name e.crc h,
      length-names_bytes-space e.name (strings_section m) (space_place m e.name) h,
    )

-- the local symbols of an export, by the three that are put
pub local-steps : (m : SheetMore) (e : SheetExport) (a b c d : SymbolTable) (name : List ℕ)
    (section strings : ℕ) (place : Option ℕ)
    → name ≡ e.name
    → section ≡ table_section m name → strings ≡ strings_section m → place ≡ space_place m name
    → Adds a b (local_symbol (codes "__ksymtab_" ++ name) section 0 ∷ [])
    → Adds b c (version_symbols name e.crc) → Adds c d (space_symbols name strings place)
    → Adds a d (local_symbols m e)
unfolding local_symbols
local-steps m e a b c d name section strings place same at texts text p q r =
    let all : Adds a d
    (local_symbol (codes "__ksymtab_" ++ name) section 0 ∷ version_symbols name e.crc
    ++ space_symbols name strings place)
    =
    Adds-then a b d _ _ p (Adds-then b c d _ _ q r) in
    subst (λ n. Adds a d
    (local_symbol (codes "__ksymtab_" ++ n) (table_section m n) 0 ∷ version_symbols n e.crc
    ++ space_symbols n (strings_section m) (space_place m n))) same
    (subst (λ v. Adds a d
    (local_symbol (codes "__ksymtab_" ++ name) (table_section m name) 0
    ∷ version_symbols name e.crc ++ space_symbols name (strings_section m) v)) text
    (subst (λ v. Adds a d
    (local_symbol (codes "__ksymtab_" ++ name) (table_section m name) 0
    ∷ version_symbols name e.crc ++ space_symbols name v place)) texts
    (subst (λ v. Adds a d
    (local_symbol (codes "__ksymtab_" ++ name) v 0 ∷ version_symbols name e.crc
    ++ space_symbols name strings place)) at all)))

flat_map-next : {X A : Type 0} (f : X → List A) (xs : List X) (i : ℕ) (x : X) → i < length xs
    → x ≡ get_or xs i x
    → flat_map f (take i xs) ++ f x ≡ flat_map f (take (i + 1) xs)
flat_map-next f xs i x h is =
    ap (λ r. flat_map f (take i xs) ++ r) (sym (append-nil (f x)))
    ∙ sym (flat_map-append f (take i xs) (x ∷ []))
    ∙ ap (λ y. flat_map f (take i xs ++ y ∷ [])) is
    ∙ sym (ap (flat_map f) (take_more xs i x h))

-- the step of a loop over exports that puts their local symbols
pub locals-next : (m : SheetMore) (a b c : SymbolTable) (xs : List SheetExport) (i : ℕ)
    (x : SheetExport)
    → i < length xs → x ≡ get_or xs i x
    → Adds a b (flat_map (local_symbols m) (take i xs)) → Adds b c (local_symbols m x)
    → Adds a c (flat_map (local_symbols m) (take (i + 1) xs))
locals-next m a b c xs i x h is p q =
    subst (Adds a c) (flat_map-next (local_symbols m) xs i x h is) (Adds-then a b c _ _ p q)

export_symbols-append : (xs : List SheetExport) (y : SheetExport) (j : ℕ)
    → export_symbols j (xs ++ y ∷ [])
    ≡ export_symbols j xs ++ export_symbols (j + length xs) (y ∷ [])
export_symbols-append [] y j = ap (λ n. export_symbols n (y ∷ [])) (sym (add-zero j))
export_symbols-append (x ∷ xs) y j =
    let e : j + 1 + length xs ≡ j + length (x ∷ xs) = omega arith in
    ap (λ r. record { name = x.name; info = 0x12; section = TEXT; value = 16 * j; size = 16 } ∷ r)
    (export_symbols-append xs y (j + 1)
    ∙ ap (λ n. export_symbols (j + 1) xs ++ export_symbols n (y ∷ [])) e)

-- the step of a loop over exports that puts them
pub exports-next : (a b c : SymbolTable) (xs : List SheetExport) (i : ℕ) (x : SheetExport)
    (name : List ℕ)
    → i < length xs → x ≡ get_or xs i x → name ≡ x.name
    → Adds a b (export_symbols 0 (take i xs))
    → Adds b c
    (record { name = name; info = 0x12; section = TEXT; value = 16 * i; size = 16 } ∷ [])
    → Adds a c (export_symbols 0 (take (i + 1) xs))
exports-next a b c xs i x name h is n p q =
    let here : List SymbolEntry
    = record { name = name; info = 0x12; section = TEXT; value = 16 * i; size = 16 } ∷ [] in
    let place : i ≡ 0 + length (take i xs) = omega (arith, length-take-le i xs (omega arith)) in
    let e : export_symbols 0 (take i xs) ++ here ≡ export_symbols 0 (take (i + 1) xs) =
    ap (λ m. export_symbols 0 (take i xs)
    ++ record { name = m; info = 0x12; section = TEXT; value = 16 * i; size = 16 } ∷ []) n
    ∙ ap (λ k. export_symbols 0 (take i xs) ++ export_symbols k (x ∷ [])) place
    ∙ sym (export_symbols-append (take i xs) x 0)
    ∙ ap (λ y. export_symbols 0 (take i xs ++ y ∷ [])) is
    ∙ sym (ap (export_symbols 0) (take_more xs i x h)) in
    subst (Adds a c) e (Adds-then a b c _ _ p q)

-- the step of a loop over needs
pub needs-next : (a b c : SymbolTable) (xs : List SheetNeed) (i : ℕ) (x : SheetNeed) (name : List ℕ)
    (info : ℕ)
    → i < length xs → x ≡ get_or xs i x → name ≡ x.name
    → info ≡ need_info x.weak
    → Adds a b (map need_symbol (take i xs))
    → Adds b c
    (record { name = name; info = info; section = SHN_UNDEF; value = 0; size = 0 } ∷ [])
    → Adds a c (map need_symbol (take (i + 1) xs))
needs-next a b c xs i x name info h is n w p q =
    let e : map need_symbol (take i xs)
    ++ record { name = name; info = info; section = SHN_UNDEF; value = 0; size = 0 }
    ∷ []
    ≡ map need_symbol (take (i + 1) xs)
    =
    ap (λ m. map need_symbol (take i xs)
    ++ record { name = m; info = info; section = SHN_UNDEF; value = 0; size = 0 } ∷ []) n
    ∙ ap (λ v. map need_symbol (take i xs)
    ++ record { name = x.name; info = v; section = SHN_UNDEF; value = 0; size = 0 } ∷ []) w
    ∙ ap (λ y. map need_symbol (take i xs) ++ need_symbol y ∷ []) is
    ∙ sym (map_more need_symbol xs i x h) in
    subst (Adds a c) e (Adds-then a b c _ _ p q)

-- a fact of each element, at the element that a loop has
pub short-at : {X : Type 0} (f : X → List ℕ) (xs : List X) (i : ℕ) (x : X) → i < length xs
    → x ≡ get_or xs i x
    → All (λ y. length (f y) ≤ 4096) xs → length (f x) ≤ 4096
short-at f xs i x h is all = subst (λ y. length (f y) ≤ 4096) (sym is) (all i x h)

-- the symbols of a sheet, by the three groups
pub table-adds : (s : Sheet) (m : SheetMore) (a b c d : SymbolTable)
    → Adds a b (flat_map (local_symbols m) s.exports) → Adds b c (export_symbols 0 s.exports)
    → Adds c d (map need_symbol s.needs)
    → Adds a d (symbols s m)
unfolding locals
table-adds s m a b c d p q r = Adds-then a c d _ _ (Adds-then a b c _ _ p q) r

pub table-entries : (s : Sheet) (m : SheetMore) (a d : SymbolTable) → a.entries.items ≡ zeros 24
    → a.names.items ≡ 0 ∷ [] → Adds a d (symbols s m) → d.entries.items ≡ symtab_bytes s m
unfolding symtab_bytes
table-entries s m a d e n p =
    p.entries ∙ ap (λ r. r ++ entries_bytes (length a.names.items) (symbols s m)) e
    ∙ ap (λ r. zeros 24 ++ entries_bytes (length r) (symbols s m)) n

pub table-names : (s : Sheet) (m : SheetMore) (a d : SymbolTable) → a.names.items ≡ 0 ∷ []
    → Adds a d (symbols s m) → d.names.items ≡ strtab_bytes s m
unfolding strtab_bytes
table-names s m a d n p = p.names ∙ ap (λ r. r ++ names_bytes (symbols s m)) n

places_bytes-append : (s : Sheet) (m : SheetMore) (xs : List SheetPlace) (y : SheetPlace) (k : ℕ)
    → places_bytes s m k (xs ++ y ∷ []) ≡ places_bytes s m k xs ++ place_bytes s m (k + length xs) y
places_bytes-append s m [] y k =
    append-nil (place_bytes s m k y) ∙ ap (λ n. place_bytes s m n y) (sym (add-zero k))
places_bytes-append s m (x ∷ xs) y k =
    let e : k + 1 + length xs ≡ k + length (x ∷ xs) = omega arith in
    ap (λ r. place_bytes s m k x ++ r)
    (places_bytes-append s m xs y (k + 1)
    ∙ ap (λ n. places_bytes s m (k + 1) xs ++ place_bytes s m n y) e)
    ∙ sym (append_assoc (place_bytes s m k x) (places_bytes s m (k + 1) xs)
    (place_bytes s m (k + length (x ∷ xs)) y))

-- the step of a loop over places
pub places-next : (s : Sheet) (m : SheetMore) (xs : List SheetPlace) (k : ℕ) (x : SheetPlace)
    (content new : List ℕ)
    → k < length xs → x ≡ get_or xs k x
    → content ≡ places_bytes s m 0 (take k xs) → new ≡ content ++ place_bytes s m k x
    → new ≡ places_bytes s m 0 (take (k + 1) xs)
places-next s m xs k x content new h is so_far e =
    let place : k ≡ 0 + length (take k xs) = omega (arith, length-take-le k xs (omega arith)) in
    e
    ∙ ap (λ r. r ++ place_bytes s m k x) so_far
    ∙ ap (λ n. places_bytes s m 0 (take k xs) ++ place_bytes s m n x) place
    ∙ sym (places_bytes-append s m (take k xs) x 0)
    ∙ ap (λ y. places_bytes s m 0 (take k xs ++ y ∷ [])) is
    ∙ sym (ap (places_bytes s m 0) (take_more xs k x h))

pub places-all : (s : Sheet) (m : SheetMore) (content : List ℕ)
    → content ≡ places_bytes s m 0 s.places → content ≡ rela_bytes s m
unfolding rela_bytes
places-all s m content e = e

-- how many names of symbols a sheet has
pub length-symbol_names : (s : Sheet) → length (symbol_names s) ≡ length s.exports + length s.needs
length-symbol_names s =
    omega (
      arith,
      length-append (map (λ (e : SheetExport). e.name) s.exports)
          (map (λ (n : SheetNeed). n.name) s.needs),
      length-map s.exports (λ (e : SheetExport). e.name),
      length-map s.needs (λ (n : SheetNeed). n.name),
    )

-- the number of a symbol, by what the code has of the sheet
pub number-is : (s : Sheet) (m : SheetMore) (n : ℕ) (found : Option ℕ) (name : List ℕ)
    → n ≡ 1 + length (flat_map (local_symbols m) s.exports)
    → found ≡ first_place (map (λ n. Some n) (symbol_names s)) name
    → n + unwrap_or found 0 ≡ symbol_number s m name
unfolding symbol_number locals
number-is s m n found name locals is =
    ap (λ k. k + unwrap_or found 0) locals
    ∙ ap (λ o. 1 + length (flat_map (local_symbols m) s.exports) + unwrap_or o 0)
    (is ∙ first_place-names (symbol_names s) name)

pub length-names_of : (keys : List (Bor (List ℕ))) → length (names_of keys) ≡ length keys
length-names_of keys = length-map keys (λ (k : Bor (List ℕ)). k.now)

pub length-named : {X : Type 0} (f : X → List ℕ) (keys : List (Bor (List ℕ))) (xs slice : List X)
    → names_of keys ≡ map f slice → slice ≡ xs → length keys ≡ length xs
length-named f keys xs slice names same =
    sym (length-names_of keys) ∙ ap length names ∙ length-map slice f ∙ ap length same
