-- The table of parameters, and its entries.
use Rattle.std.proofs.Common.{◌≡◌, ◌≤◌, ◌<◌, ◌+◌, ◌*◌, ◌∙◌, ℕ, List, [], ◌∷◌, Option, Some, None}
use Rattle.std.proofs.Common.{refl, ap, sym, length, map, arith, Bool, Bor, unwrap_or, zero-add}
use Rattle.std.proofs.Common.{◌%◌}
use Rattle.std.specs.Prelude.{is_none, nat_le, not, option_map, slice_get, IfNone, IfSome}
use Rattle.std.proofs.lemmas.Bool.{eq-eqb, ne_eqb}
use Rattle.std.specs.List.{range_with_len}
use Rattle.std.proofs.lemmas.List.{length-map}
use Rattle.std.proofs.lemmas.List.FromFn.{get_or-range_with_len, length-range_with_len}
use Rattle.std.proofs.lemmas.List.FromFn.{length-map-range_with_len}
use Rattle.std.proofs.lemmas.Option.{slice_get-get_or, slice_get-map}
use Rattle.km_names.specs.First.{first}
use Rattle.km_names.specs.Strings.{string_at}
use Rattle.elf_sections.specs.declared.section.Section.{Section}
use Rattle.elf_sections.specs.Sections.{bytes_of}
use Rattle.elf_sections.specs.Shape.{each, fault_if}
use Rattle.elf_sections.proofs.TestLemmas.{each-passed, each-failed, first-failed, first-passed}
use Rattle.param_apply.specs.declared.fault.ParamFault.{ParamFault}
use Rattle.param_apply.specs.declared.fault.ParamFault.TheVariants.{BadParamTable}
use Rattle.param_apply.specs.declared.table.ParamTable.{ParamTable}
use Rattle.param_apply.specs.declared.parameter.Parameters.{Parameters}
use Rattle.param_apply.specs.Naming.{parameters_of}
use Rattle.param_apply.specs.declared.kind.ParamType.{ParamType}
use Rattle.param_apply.specs.Table.{Entry, end_fault, entries, entry, entry_count, entry_fault}
use Rattle.param_apply.specs.Table.{entry_name, place_of, table_fault}
use Rattle.param_apply.specs.Words.{kind_named, parameter}
use Rattle.image_layout.proofs.PieceLemmas.{length-content}

pub bytes-short : (file : List ℕ) (s : Section) → length (bytes_of file s) ≤ s.size
bytes-short file s = length-content file s.kind s.offset s.size

-- The test of an entry, by where the last string of an image ends.
pub entry-tested : (image : List ℕ) (base : ℕ) (t : ParamTable) (k size : ℕ) (b : Bool)
    → ((at : ℕ) → is_none (string_at image at) ≡ nat_le size at)
    → nat_le size (place_of image base (t.at + 40 * k)) ≡ b
    → entry_fault image base t k ≡ fault_if b (BadParamTable k)
unfolding entry_name
entry-tested image base t k size b strings is =
    ap (λ (n : Bool). fault_if n (BadParamTable k))
    (strings (place_of image base (t.at + 40 * k)) ∙ is)

-- The first entry at fault.
pub table-failed : (image : List ℕ) (base : ℕ) (t : ParamTable) (k : ℕ) (fault : ParamFault)
    → k < entry_count t → ((j : ℕ) → j < k → entry_fault image base t j ≡ None)
    → entry_fault image base t k ≡ Some fault → table_fault image base t ≡ Some fault
unfolding table_fault
table-failed image base t k fault within passed failed =
    first-failed (each (entry_count t) (entry_fault image base t)) (end_fault t ∷ []) fault
    (each-failed (entry_count t) (entry_fault image base t) k fault within passed failed)

pub end-part : (t : ParamTable) → (t.size % 40 ≡ 0 → ⊥)
    → end_fault t ≡ Some (BadParamTable (entry_count t))
end-part t part =
    ap (λ (b : Bool). fault_if (not b) (BadParamTable (entry_count t)))
    (ne_eqb (t.size % 40) 0 part)

pub end-whole : (t : ParamTable) → t.size % 40 ≡ 0 → end_fault t ≡ None
end-whole t whole =
    ap (λ (b : Bool). fault_if (not b) (BadParamTable (entry_count t)))
    (eq-eqb (t.size % 40) 0 whole)

last-test : (o : Option ParamFault) → first (o ∷ []) ≡ o
last-test None = refl
last-test (Some fault) = refl

-- A table whose entries have names.
pub table-end : (image : List ℕ) (base : ℕ) (t : ParamTable)
    → ((j : ℕ) → j < entry_count t → entry_fault image base t j ≡ None) → (o : Option ParamFault)
    → end_fault t ≡ o → table_fault image base t ≡ o
unfolding table_fault
table-end image base t passed o is =
    first-passed (each (entry_count t) (entry_fault image base t)) (end_fault t ∷ [])
    (each-passed (entry_count t) (entry_fault image base t) passed)
    ∙ ap (λ f. first (f ∷ [])) is ∙ last-test o

-- The number of parameters.
pub parameter-count : (p : Parameters) → length (parameters_of p) ≡ entry_count p.table
unfolding entries
parameter-count p =
    length-map (entries p.image.now p.base p.table) (parameter p.types.texts)
    ∙ length-map-range_with_len (entry p.image.now p.base p.table) 0 (entry_count p.table)

-- The parameter of a number.
number-at : (n k : ℕ) → k < n → slice_get (range_with_len 0 n) k ≡ Some k
number-at n k less =
    let long = length-range_with_len 0 n in
    slice_get-get_or (range_with_len 0 n) k 0 (omega (arith, long, less))
    ∙ ap Some (get_or-range_with_len 0 n k 0 less ∙ zero-add k)

pub parameter-at : (p : Parameters) (k : ℕ) → k < length (parameters_of p)
    → slice_get (parameters_of p) k
    ≡ Some (parameter p.types.texts (entry p.image.now p.base p.table k))
unfolding entries
parameter-at p k within =
    let t = p.table in
    let at = entry p.image.now p.base t in
    let long : length (parameters_of p) ≡ entry_count t = parameter-count p in
    slice_get-map (parameter p.types.texts) (map at (range_with_len 0 (entry_count t))) k
    ∙ ap (option_map (parameter p.types.texts))
    (slice_get-map at (range_with_len 0 (entry_count t)) k
    ∙ ap (option_map at) (number-at (entry_count t) k (omega (arith, long, within))))

-- The name of a parameter, if the table is right.
entry-some : (name : Option (List ℕ)) (k : ℕ) → fault_if (is_none name) (BadParamTable k) ≡ None
    → name ≡ Some (unwrap_or name [])
entry-some None k right = cc
entry-some (Some s) k right = refl

pub entry-string : (image : List ℕ) (base : ℕ) (t : ParamTable) (k : ℕ)
    → entry_fault image base t k ≡ None
    → string_at image (place_of image base (t.at + 40 * k)) ≡ Some (entry image base t k).name
unfolding entry_name
entry-string image base t k right =
    entry-some (string_at image (place_of image base (t.at + 40 * k))) k right

-- An entry that was read.
pub entry-named : (image : List ℕ) (base : ℕ) (t : ParamTable) (k : ℕ) (name : List ℕ) (at : ℕ)
    → Some name ≡ string_at image (place_of image base (t.at + 40 * k))
    → at ≡ place_of image base (t.at + 40 * k + 32)
    → ◌≡◌ {A = Entry} (record { name = name; at = at }) (entry image base t k)
unfolding entry_name
entry-named image base t k name at is place = rw (← is, place) refl

pub entry-unnamed : (image : List ℕ) (base : ℕ) (t : ParamTable) (k : ℕ) (at : ℕ)
    → None ≡ string_at image (place_of image base (t.at + 40 * k))
    → at ≡ place_of image base (t.at + 40 * k + 32)
    → ◌≡◌ {A = Entry} (record { name = []; at = at }) (entry image base t k)
unfolding entry_name
entry-unnamed image base t k at is place = rw (← is, place) refl

-- A parameter that was read.
pub parameter-made : (texts : List (List ℕ)) (e : Entry) (name : List ℕ) (at : ℕ)
    (kind : Option ParamType)
    → ◌≡◌ {A = Entry} (record { name = name; at = at }) e → kind ≡ kind_named texts name
    → parameter texts e ≡ record { name = name; at = at; kind = kind }
parameter-made texts e name at kind is known = rw (← is, known) refl

-- The name of a parameter that was read as far as some length.
pub short-some : (p : Parameters) (k place : ℕ) (r : Option (Bor (List ℕ)))
    → k < length (parameters_of p) → place ≡ place_of p.image.now p.base (p.table.at + 40 * k)
    → entry_fault p.image.now p.base p.table k ≡ None
    → IfSome r (λ s. string_at p.image.now place ≡ Some s.now)
    → IfSome r (λ s. IfSome (slice_get (parameters_of p) k) (λ q. q.name ≡ s.now))
short-some p k place None within is right read = tt
short-some p k place (Some s) within is right read =
    let named : Some (entry p.image.now p.base p.table k).name ≡ Some s.now
    = sym (entry-string p.image.now p.base p.table k right) ∙ ap (string_at p.image.now) (sym is)
    ∙ read in
    let same : (entry p.image.now p.base p.table k).name ≡ s.now = cc in
    rw (parameter-at p k within) same

pub short-none : (p : Parameters) (k place longest : ℕ) (r : Option (Bor (List ℕ)))
    → k < length (parameters_of p) → place ≡ place_of p.image.now p.base (p.table.at + 40 * k)
    → entry_fault p.image.now p.base p.table k ≡ None
    → IfNone r (IfSome (string_at p.image.now place) (λ s. longest < length s))
    → IfNone r (IfSome (slice_get (parameters_of p) k) (λ q. longest < length q.name))
short-none p k place longest (Some s) within is right read = tt
short-none p k place longest None within is right read =
    let named = ap (string_at p.image.now) is
    ∙ entry-string p.image.now p.base p.table k right in
    rw (parameter-at p k within) (rw named at read)
