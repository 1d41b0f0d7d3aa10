-- What a text finds in an index that holds the map of the built-in aliases.
use Rattle.std.proofs.Common.{◌≡◌, ◌≤◌, ◌==◌, ◌||◌, ◌&&◌, ℕ, Bool, true, false, cond, List, [], ◌∷◌}
use Rattle.std.proofs.Common.{map, filter, fold, Option, Some, None, option_map, unwrap_or, refl}
use Rattle.std.proofs.Common.{sym, ap, ◌∙◌, arith}
use Rattle.std.specs.List.{AllByRecursion, list_any, list_all, filter_map, cons_option}
use Rattle.std.specs.Option.{option_map_or}
use Rattle.std.specs.Ordering.{nat_cmp}
use Rattle.std.specs.Str.{bytes_eq}
use Rattle.std.specs.Cmp.Lexicographic.{slice_cmp, bytes_decides}
use Rattle.std.specs.FinMap.{entries, empty, get-empty}
use Rattle.std.proofs.lemmas.Bool.Decides.{nat_tests}
use Rattle.km_names.specs.AliasForm.{normal_alias}
use Rattle.name_table.specs.FirstSeen.{first_seen, is_among}
use Rattle.glob_match.specs.Decision.{is_match}
use Rattle.index_format.specs.Map.{Value, values_of, place}
use Rattle.index_format.specs.Listing.{KeyValue, under}
use Rattle.index_format.specs.Holds.{Holds}
use Rattle.index_read.specs.Contents.{contents, wild_values, by_priority, values_matching}
use Rattle.index_read.proofs.ContentsLemmas.{values_held}
use Rattle.builtin_index.specs.declared.piece.BuiltinField.{BuiltinField}
use Rattle.builtin_index.specs.Fields.{fields_of}
use Rattle.builtin_index.specs.Aliases.{is_alias, modules_of, place_among, alias_value}
use Rattle.builtin_index.specs.Aliases.{alias_values, alias_map}
use Rattle.laws_builtin_aliases.specs.Found.{states_match, AreFound}
use Rattle.laws_builtin_aliases.proofs.Seen.{Rises, Among, seen-distinct, seen-among, seen-by-place}
use Rattle.laws_builtin_aliases.proofs.Seen.{filter-same}
use Rattle.builtin_index.proofs.ByPlace.{put-values}
use Rattle.laws_builtin_aliases.proofs.Values.{or-true, both-of, and-of, any-entry, any-key}
use Rattle.laws_builtin_aliases.proofs.Values.{all-entries, matching-any, matching-all}
use Rattle.laws_builtin_aliases.proofs.Values.{priority-any, priority-all, priority-rises}
use Rattle.laws_builtin_aliases.proofs.Values.{RisesByPriority, put-any, put-all, matches}
use Rattle.laws_builtin_aliases.proofs.Values.{under-matches, some-under, all-under}

-- ---- the values that fields state

abbrev of_name : List ℕ → Value → Bool
of_name name v = bytes_eq name v.1

-- a value has the place of its name
abbrev is_placed : List (List ℕ) → Value → Bool
is_placed names v = (v.0 == place_among names v.1) && is_among names v.1

abbrev value-of : List (List ℕ) → BuiltinField → Option (List ℕ) → Option KeyValue
value-of names f o = option_map (λ (key : List ℕ). (key, (place_among names f.module, f.module))) o

fields-any : (text name : List ℕ) (names : List (List ℕ)) (fields : List BuiltinField)
    → list_any (matches (of_name name) text)
    (filter_map (alias_value names) (filter is_alias fields))
    ≡ states_match fields text name
fields-any text name names [] = refl
fields-any text name names (f ∷ fields) =
    go (is_alias f) (normal_alias f.value) (fields-any text name names fields)
  where
    later : List KeyValue
    later = filter_map (alias_value names) (filter is_alias fields)

    stated : (o : Option (List ℕ))
        → list_any (matches (of_name name) text) later ≡ states_match fields text name
        → list_any (matches (of_name name) text) (cons_option (value-of names f o) later)
        ≡ (option_map_or (λ key. is_match key text) o false && bytes_eq name f.module)
        || states_match fields text name
    stated None rest = rest
    stated (Some key) rest = ap (λ b. (is_match key text && bytes_eq name f.module) || b) rest

    go : (b : Bool) (o : Option (List ℕ))
        → list_any (matches (of_name name) text) later ≡ states_match fields text name
        → list_any (matches (of_name name) text)
        (filter_map (alias_value names)
        (cond b (f ∷ filter is_alias fields) (filter is_alias fields)))
        ≡ ((b && option_map_or (λ key. is_match key text) (normal_alias f.value) false)
        && bytes_eq name f.module)
        || states_match fields text name
    go true o rest = stated (normal_alias f.value) rest
    go false o rest = rest

same-test : (p : ℕ) → (p == p) ≡ true
same-test p = grind (arith, nat_tests)

abbrev HasModules : List (List ℕ) → List BuiltinField → Type 0
HasModules names fields =
    AllByRecursion (λ (f : BuiltinField). is_among names f.module ≡ true) fields

fields-placed : (names : List (List ℕ)) (fields : List BuiltinField) → HasModules names fields
    → list_all (λ (p : KeyValue). is_placed names p.1)
    (filter_map (alias_value names) (filter is_alias fields))
    ≡ true
fields-placed names [] all = refl
fields-placed names (f ∷ fields) all = go (is_alias f) (fields-placed names fields all.1)
  where
    later : List KeyValue
    later = filter_map (alias_value names) (filter is_alias fields)

    stated : (o : Option (List ℕ)) → list_all (λ (p : KeyValue). is_placed names p.1) later ≡ true
        → list_all (λ (p : KeyValue). is_placed names p.1) (cons_option (value-of names f o) later)
        ≡ true
    stated None rest = rest
    stated (Some key) rest =
        and-of (is_placed names (place_among names f.module, f.module))
        (list_all (λ (p : KeyValue). is_placed names p.1) later)
        (and-of (place_among names f.module == place_among names f.module) (is_among names f.module)
        (same-test (place_among names f.module)) all.0) rest

    go : (b : Bool) → list_all (λ (p : KeyValue). is_placed names p.1) later ≡ true
        → list_all (λ (p : KeyValue). is_placed names p.1)
        (filter_map (alias_value names)
        (cond b (f ∷ filter is_alias fields) (filter is_alias fields)))
        ≡ true
    go true rest = stated (normal_alias f.value) rest
    go false rest = rest

abbrev modules : List BuiltinField → List (List ℕ)
modules fields = map (λ (f : BuiltinField). f.module) fields

modules-among : (names : List (List ℕ)) (fields : List BuiltinField)
    → ((x : List ℕ) → is_among (modules fields) x ≡ true → is_among names x ≡ true)
    → HasModules names fields
modules-among names [] each = tt
modules-among names (f ∷ fields) each = (
  each f.module
      (ap (λ b. b || is_among (modules fields) f.module)
      ((bytes_decides f.module f.module).1 refl)),
  modules-among names fields
      (λ x is. each x (or-true (bytes_eq x f.module) (is_among (modules fields) x) is)),
)

-- ---- the names of values

abbrev texts : List Value → List (List ℕ)
texts vs = map (λ (v : Value). v.1) vs

texts-any : (name : List ℕ) (vs : List Value)
    → is_among (texts vs) name ≡ list_any (of_name name) vs
texts-any name [] = refl
texts-any name (v ∷ vs) = ap (λ b. bytes_eq name v.1 || b) (texts-any name vs)

same-number : (a b : ℕ) → (a == b) ≡ true → a ≡ b
same-number a b h = grind (arith, nat_tests)

texts-among : (names : List (List ℕ)) (vs : List Value) → list_all (is_placed names) vs ≡ true
    → Among names (texts vs)
texts-among names [] is = tt
texts-among names (v ∷ vs) is =
    let parts = both-of (is_placed names v) (list_all (is_placed names) vs) is in (
      (both-of (v.0 == place_among names v.1) (is_among names v.1) parts.0).1,
      texts-among names vs parts.1,
    )

placed-at : (names : List (List ℕ)) (v : Value) → is_placed names v ≡ true
    → v.0 ≡ place_among names v.1
placed-at names v is =
    same-number v.0 (place_among names v.1)
    (both-of (v.0 == place_among names v.1) (is_among names v.1) is).0

texts-behind : (names : List (List ℕ)) (v : Value) (vs : List Value) → v.0 ≡ place_among names v.1
    → list_all (is_placed names) vs ≡ true → AllByRecursion (λ (w : Value). v.0 ≤ w.0) vs
    → AllByRecursion (λ (y : List ℕ). place_among names v.1 ≤ place_among names y) (texts vs)
texts-behind names v [] here is all = tt
texts-behind names v (w ∷ vs) here is all =
    let parts = both-of (is_placed names w) (list_all (is_placed names) vs) is in (
      omega (arith, here, placed-at names w parts.0, all.0),
      texts-behind names v vs here parts.1 all.1,
    )

texts-rise : (names : List (List ℕ)) (vs : List Value) → list_all (is_placed names) vs ≡ true
    → RisesByPriority vs → Rises (place_among names) (texts vs)
texts-rise names [] is up = tt
texts-rise names (v ∷ vs) is up =
    let parts = both-of (is_placed names v) (list_all (is_placed names) vs) is in (
      texts-behind names v vs (placed-at names v parts.0) parts.1 up.0,
      texts-rise names vs parts.1 up.1,
    )

-- ---- what a text finds

same-truth : (a b : Bool) → (a ≡ true → b ≡ true) → (b ≡ true → a ≡ true) → a ≡ b
same-truth true true up down = refl
same-truth true false up down = sym (up refl)
same-truth false true up down = down refl
same-truth false false up down = refl

and-none : (a : Bool) → a && false ≡ false
and-none true = refl
and-none false = refl

map-values : (bytes key : List ℕ)
    → values_of (alias_map bytes) key ≡ fold place [] (under key (alias_values (fields_of bytes)))
unfolding alias_map
map-values bytes key =
    let values = alias_values (fields_of bytes) in
    put-values empty values key
    ∙ ap (λ o. fold place (unwrap_or o []) (under key values))
    (get-empty (slice_cmp nat_cmp) key)

module _ (b bytes text : List ℕ) (held : Holds b (alias_map bytes)) where
  same : (key : List ℕ)
      → values_of (contents b) key ≡ fold place [] (under key (alias_values (fields_of bytes)))
  same key = sym (values_held b held.accepted key) ∙ held.values key ∙ map-values bytes key

  abbrev tells : List ℕ → List ℕ → List Value → Bool
  tells name key vs = is_match key text && list_any (of_name name) vs

  found-stated : (name : List ℕ)
      → list_any (λ (e : List ℕ × List Value). tells name e.0 e.1) (entries (contents b)) ≡ true
      → states_match (fields_of bytes) text name ≡ true
  found-stated name is =
      let at = any-key (tells name) (contents b) is in
      let parts
      = both-of (is_match at.0 text) (list_any (of_name name) (values_of (contents b) at.0))
      at.1 in
      let here : list_any (of_name name) (under at.0 (alias_values (fields_of bytes))) ≡ true =
      sym (ap (list_any (of_name name)) (same at.0)
      ∙ put-any (of_name name) [] (under at.0 (alias_values (fields_of bytes))))
      ∙ parts.1 in
      sym (fields-any text name (modules_of (fields_of bytes)) (fields_of bytes))
      ∙ under-matches (of_name name) text at.0 (alias_values (fields_of bytes)) parts.0 here

  stated-found : (name : List ℕ) → states_match (fields_of bytes) text name ≡ true
      → list_any (λ (e : List ℕ × List Value). tells name e.0 e.1) (entries (contents b)) ≡ true
  stated-found name is =
      let at
      = some-under (of_name name) text (alias_values (fields_of bytes))
      (fields-any text name (modules_of (fields_of bytes)) (fields_of bytes) ∙ is) in
      let parts
      = both-of (is_match at.0 text)
      (list_any (of_name name) (under at.0 (alias_values (fields_of bytes)))) at.1 in
      any-entry (tells name) (λ key. and-none (is_match key text)) (contents b) at.0
      (and-of (is_match at.0 text) (list_any (of_name name) (values_of (contents b) at.0)) parts.0
      (ap (list_any (of_name name)) (same at.0)
      ∙ put-any (of_name name) [] (under at.0 (alias_values (fields_of bytes))) ∙ parts.1))

  abbrev found : List Value
  found = by_priority (values_matching (entries (contents b)) text)

  members : (name : List ℕ) → is_among (texts found) name ≡ states_match (fields_of bytes) text name
  members name =
      texts-any name found
      ∙ priority-any (of_name name) (values_matching (entries (contents b)) text)
      ∙ matching-any (of_name name) text (entries (contents b))
      ∙ same-truth _ _ (found-stated name) (stated-found name)

  all-placed : list_all (is_placed (modules_of (fields_of bytes))) found ≡ true
  all-placed =
      let test = is_placed (modules_of (fields_of bytes)) in
      let modules-in
      = modules-among (modules_of (fields_of bytes)) (fields_of bytes)
      (λ x is. seen-among (modules (fields_of bytes)) x is) in
      let stated = fields-placed (modules_of (fields_of bytes)) (fields_of bytes) modules-in in
      priority-all test (values_matching (entries (contents b)) text)
      (matching-all test text (entries (contents b))
      (all-entries test (contents b)
      (λ key. ap (list_all test) (same key)
      ∙ put-all test [] (under key (alias_values (fields_of bytes))) refl
      (all-under test (alias_values (fields_of bytes)) stated key))))

  pub found-first : first_seen (texts found)
      ≡ filter (states_match (fields_of bytes) text) (modules_of (fields_of bytes))
  found-first =
      seen-by-place (modules_of (fields_of bytes)) (texts found)
      (seen-distinct (modules (fields_of bytes)))
      (texts-among (modules_of (fields_of bytes)) found all-placed)
      (texts-rise (modules_of (fields_of bytes)) found all-placed
      (priority-rises (values_matching (entries (contents b)) text)))
      ∙ filter-same (is_among (texts found)) (states_match (fields_of bytes) text) members
      (modules_of (fields_of bytes))

pub are-found : AreFound
unfolding wild_values
are-found b bytes text held = found-first b bytes text held
