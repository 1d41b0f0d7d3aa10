-- The file of the map of the built-in aliases holds the map.
use Rattle.std.proofs.Common.{◌≡◌, ◌==◌, ◌+◌, ◌<◌, ◌≤◌, ◌^◌, ℕ, suc, Bool, true, false, not, cond}
use Rattle.std.proofs.Common.{List, [], ◌∷◌, length, map, filter, Option, Some, None, option_map}
use Rattle.std.proofs.Common.{unwrap_or, refl, ap, subst, arith, lit<}
use Rattle.std.specs.Prelude.{option_and_then, codes}
use Rattle.std.specs.List.{AllByRecursion, slice_split, onto_first, filter_map, cons_option}
use Rattle.std.specs.Str.{bytes_eq}
use Rattle.std.proofs.lemmas.List.{length-map}
use Rattle.km_names.specs.Ascii.{is_graphic}
use Rattle.km_names.specs.AliasForm.{normal_alias}
use Rattle.km_names.specs.Path.{underscored}
use Rattle.index_format.specs.Map.{IsText}
use Rattle.index_format.specs.Listing.{KeyValue}
use Rattle.index_write.proofs.StorableMaps.{Fits, map-holds}
use Rattle.index_write.proofs.VisibleWords.{both, normal-key, underscored-text}
use Rattle.name_table.specs.FirstSeen.{first_seen}
use Rattle.builtin_index.specs.declared.piece.BuiltinField.{BuiltinField}
use Rattle.builtin_index.specs.Fields.{fields_of, field_of, named_field, cut_at}
use Rattle.builtin_index.specs.Aliases.{is_alias, modules_of, place_among, alias_value}
use Rattle.builtin_index.specs.Aliases.{alias_values, alias_map}
use Rattle.builtin_index.specs.Laws.{AreHeld}

-- ---- the names of the fields' modules are texts

abbrev HasText : BuiltinField → Type 0
HasText f = IsText f.module

named-text : (name key value : List ℕ) (f : BuiltinField) → named_field name key value ≡ Some f
    → IsText f.module
named-text name key value f = go (is_graphic name) refl
  where
    go : (b : Bool) → is_graphic name ≡ b
        → (cond b (Some (record { «module» = underscored name; key = key; value = value })) None)
        ≡ Some f
        → IsText f.module
    go true word is
        = subst IsText (ap (λ (o : Option BuiltinField). (unwrap_or o f).module) is)
        (underscored-text name word)
    go false word is = absurd (cc)

cut-text : (o : Option (List ℕ × List ℕ)) (value : List ℕ) (f : BuiltinField)
    → option_and_then (λ (name : List ℕ × List ℕ). named_field name.0 name.1 value) o ≡ Some f
    → IsText f.module
cut-text None value f is = absurd (cc)
cut-text (Some name) value f is = named-text name.0 name.1 value f is

piece-text : (o : Option (List ℕ × List ℕ)) (f : BuiltinField)
    → option_and_then
    (λ (named : List ℕ × List ℕ). option_and_then
    (λ (name : List ℕ × List ℕ). named_field name.0 name.1 named.1) (cut_at 46 named.0))
    o
    ≡ Some f
    → IsText f.module
piece-text None f is = absurd (cc)
piece-text (Some named) f is = cut-text (cut_at 46 named.0) named.1 f is

field-text : (piece : List ℕ) (f : BuiltinField) → field_of piece ≡ Some f → IsText f.module
unfolding field_of
field-text piece f is = piece-text (cut_at 61 piece) f is

fields-text : (pieces : List (List ℕ)) → AllByRecursion HasText (filter_map field_of pieces)
fields-text [] = tt
fields-text (piece ∷ pieces) = go (field_of piece) refl (fields-text pieces)
  where
    go : (o : Option BuiltinField) → field_of piece ≡ o
        → AllByRecursion HasText (filter_map field_of pieces)
        → AllByRecursion HasText (cons_option o (filter_map field_of pieces))
    go None is rest = rest
    go (Some f) is rest = (field-text piece f is, rest)

-- ---- there are not too many modules

kept-length : {X : Type 0} (p : X → Bool) (xs : List X) → length (filter p xs) ≤ length xs
kept-length p [] = omega arith
kept-length p (x ∷ xs) = go (p x) (kept-length p xs)
  where
    go : (b : Bool) → length (filter p xs) ≤ length xs
        → length (cond b (x ∷ filter p xs) (filter p xs)) ≤ suc (length xs)
    go true rest = omega (arith, rest)
    go false rest = omega (arith, rest)

seen-length : (names : List (List ℕ)) → length (first_seen names) ≤ length names
seen-length [] = omega arith
seen-length (x ∷ xs) =
    omega (arith, seen-length xs, kept-length (λ y. not (bytes_eq y x)) (first_seen xs))

fields-length : (pieces : List (List ℕ)) → length (filter_map field_of pieces) ≤ length pieces
fields-length [] = omega arith
fields-length (piece ∷ pieces) = go (field_of piece) (fields-length pieces)
  where
    go : (o : Option BuiltinField) → length (filter_map field_of pieces) ≤ length pieces
        → length (cons_option o (filter_map field_of pieces)) ≤ suc (length pieces)
    go None rest = omega (arith, rest)
    go (Some f) rest = omega (arith, rest)

onto-length : (b : ℕ) (parts : List (List ℕ)) (n : ℕ) → length parts ≤ suc n
    → length (onto_first b parts) ≤ suc (suc n)
onto-length b [] n h = omega arith
onto-length b (part ∷ parts) n h = omega (arith, h)

split-length : (p : ℕ → Bool) (bytes : List ℕ) → length (slice_split p bytes) ≤ suc (length bytes)
split-length p [] = omega arith
split-length p (b ∷ bytes) = go (p b) (split-length p bytes)
  where
    go : (t : Bool) → length (slice_split p bytes) ≤ suc (length bytes)
        → length (cond t ([] ∷ slice_split p bytes) (onto_first b (slice_split p bytes)))
        ≤ suc (suc (length bytes))
    go true rest = omega (arith, rest)
    go false rest = onto-length b (slice_split p bytes) (length bytes) rest

place-inside : (names : List (List ℕ)) (name : List ℕ) → place_among names name ≤ length names
place-inside [] name = omega arith
place-inside (n ∷ names) name = go (bytes_eq name n) (place-inside names name)
  where
    go : (b : Bool) → place_among names name ≤ length names
        → cond (not b) (1 + place_among names name) 0 ≤ suc (length names)
    go true rest = omega arith
    go false rest = omega (arith, rest)

few-modules : (bytes : List ℕ) → length (modules_of (fields_of bytes)) ≤ suc (length bytes)
unfolding fields_of
few-modules bytes =
    let pieces = slice_split (λ (b : ℕ). b == 0) bytes in
    let fields = filter_map field_of pieces in
    omega (
      arith,
      seen-length (map (λ (f : BuiltinField). f.module) fields),
      length-map fields (λ (f : BuiltinField). f.module),
      fields-length pieces,
      split-length (λ (b : ℕ). b == 0) bytes,
    )

-- ---- the values of the map

kept-fits : (names : List (List ℕ)) (f : BuiltinField) → length names < 2 ^ 32 → IsText f.module
    → is_graphic f.value ≡ true → (o : Option (List ℕ)) → normal_alias f.value ≡ o
    → (rest : List KeyValue) → AllByRecursion Fits rest
    → AllByRecursion Fits
    (cons_option
    (option_map (λ (key : List ℕ). (key, (place_among names f.module, f.module))) o)
    rest)
kept-fits names f few text word None is rest all = all
kept-fits names f few text word (Some key) is rest all =
    ((normal-key f.value key word is, (omega (arith, few, place-inside names f.module), text)), all)

values-fit : (names : List (List ℕ)) (fields : List BuiltinField) → length names < 2 ^ 32
    → AllByRecursion HasText fields
    → AllByRecursion Fits (filter_map (alias_value names) (filter is_alias fields))
values-fit names [] few all = tt
values-fit names (f ∷ fields) few all = go (is_alias f) refl (values-fit names fields few all.1)
  where
    go : (b : Bool) → is_alias f ≡ b
        → AllByRecursion Fits (filter_map (alias_value names) (filter is_alias fields))
        → AllByRecursion Fits
        (filter_map (alias_value names)
        (cond b (f ∷ filter is_alias fields) (filter is_alias fields)))
    go true is rest
        = kept-fits names f few all.0
        (both (bytes_eq f.key (codes "alias")) (is_graphic f.value) is).1 (normal_alias f.value)
        refl (filter_map (alias_value names) (filter is_alias fields)) rest
    go false is rest = rest

fields-have : (bytes : List ℕ) → AllByRecursion HasText (fields_of bytes)
unfolding fields_of
fields-have bytes = fields-text (slice_split (λ (b : ℕ). b == 0) bytes)

pub held : AreHeld
unfolding alias_map
held bytes few low =
    let fields = fields_of bytes in
    let small : 67108865 < 2 ^ 32 = lit< tt in
    map-holds (alias_values fields)
    (values-fit (modules_of fields) fields (omega (arith, few, few-modules bytes, small))
    (fields-have bytes)) low
