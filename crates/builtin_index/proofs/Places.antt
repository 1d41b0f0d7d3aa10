-- Places of names among those seen.
use Rattle.std.proofs.Common.{◌≡◌, ℕ, ◌+◌, Bool, true, false, not, ◌||◌, cond, List, [], ◌∷◌, ◌++◌}
use Rattle.std.proofs.Common.{map, filter, Some, None, refl, sym, ap, ◌∙◌, subst, append_assoc}
use Rattle.std.proofs.Common.{append-nil, fold}
use Rattle.std.specs.Prelude.{MatchOption, ⊤}
use Rattle.std.specs.Cmp.Lexicographic.{bytes_decides}
use Rattle.std.specs.List.{position_or_len, filter_map, cons_option}
use Rattle.std.specs.Str.{bytes_eq}
use Rattle.name_table.specs.FirstSeen.{first_seen, is_among, with_name}
use Rattle.name_table.specs.Keys.{name_of}
use Rattle.name_table.specs.declared.key.OwnedNameKey.{OwnedNameKey}
use Rattle.name_table.proofs.SeenSteps.{seen_with_name, among_with_name, with_name-put}
use Rattle.indexmap.specs.IndexSet.{insert_key}
use Rattle.km_names.specs.Path.{underscored}
use Rattle.builtin_index.specs.declared.piece.BuiltinField.{BuiltinField}
use Rattle.builtin_index.specs.declared.seen.LookedUp.{LookedUp}
use Rattle.builtin_index.specs.declared.seen.Seen.{Seen}
use Rattle.builtin_index.specs.Fields.{fields_of}
use Rattle.builtin_index.specs.Aliases.{place_among, modules_of, is_alias, alias_value}
use Rattle.builtin_index.specs.Parts.{IsSeen, AliasAt, alias_in, value_at}

-- names that are put in one after the other are those first seen
seen-fold : (done names : List (List ℕ))
    → fold with_name (first_seen done) names ≡ first_seen (done ++ names)
seen-fold done [] = ap first_seen (sym (append-nil done))
seen-fold done (x ∷ xs) =
    ap (λ s. fold with_name s xs) (seen_with_name done (first_seen done) x refl)
    ∙ seen-fold (done ++ x ∷ []) xs
    ∙ ap first_seen (append_assoc done (x ∷ []) xs)

-- a place among some names is the same among more
place-front : (names more : List (List ℕ)) (name : List ℕ) → is_among names name ≡ true
    → place_among (names ++ more) name ≡ place_among names name
place-front [] more name h = absurd (cc)
place-front (n ∷ names) more name h =
    elim (bytes_eq name n) as
    (λ b. (b || is_among names name) ≡ true
    → cond (not b) (1 + place_among (names ++ more) name) 0
    ≡ cond (not b) (1 + place_among names name) 0) [
      | true ↦ λ _. refl
      | false ↦ λ k. ap (λ at. 1 + at) (place-front names more name k)
    ] h

place-one : (names : List (List ℕ)) (other name : List ℕ) → is_among names name ≡ true
    → place_among (with_name names other) name ≡ place_among names name
place-one names other name h =
    elim (is_among names other) as
    (λ b. place_among (cond b names (names ++ other ∷ [])) name ≡ place_among names name) [
      | true ↦ refl
      | false ↦ place-front names (other ∷ []) name h
    ]

place-stays : (names others : List (List ℕ)) (name : List ℕ) → is_among names name ≡ true
    → place_among (fold with_name names others) name ≡ place_among names name
place-stays names [] name h = refl
place-stays names (other ∷ others) name h =
    let there : is_among (with_name names other) name ≡ true
    = among_with_name names other name ∙ ap (λ b. b || bytes_eq name other) h in
    place-stays (with_name names other) others name there ∙ place-one names other name h

-- a name that was put in is there
or-true : (b : Bool) → b || true ≡ true
or-true true = refl
or-true false = refl

pub put-in : (names : List (List ℕ)) (name : List ℕ) → is_among (with_name names name) name ≡ true
put-in names name =
    among_with_name names name name
    ∙ ap (λ b. is_among names name || b) ((bytes_decides name name).1 refl)
    ∙ or-true (is_among names name)

-- ---- a text that is looked up

-- its place is the same once it is put in
place-behind : (names : List (List ℕ)) (name : List ℕ)
    → place_among (names ++ name ∷ []) name ≡ place_among names name
place-behind [] name = ap (λ b. cond (not b) 1 0) ((bytes_decides name name).1 refl)
place-behind (n ∷ names) name =
    elim (bytes_eq name n) as
    (λ b. cond (not b) (1 + place_among (names ++ name ∷ []) name) 0
    ≡ cond (not b) (1 + place_among names name) 0) [
      | true ↦ refl
      | false ↦ ap (λ at. 1 + at) (place-behind names name)
    ]

place-put : (names : List (List ℕ)) (name : List ℕ)
    → place_among (with_name names name) name ≡ place_among names name
place-put names name =
    elim (is_among names name) as
    (λ b. place_among (cond b names (names ++ name ∷ [])) name ≡ place_among names name) [
      | true ↦ refl
      | false ↦ place-behind names name
    ]

key-place : (keys : List OwnedNameKey) (name : List ℕ)
    → position_or_len (λ k. bytes_eq name (name_of k)) keys ≡ place_among (map name_of keys) name
key-place [] name = refl
key-place (k ∷ keys) name =
    ap (λ at. cond (not (bytes_eq name (name_of k))) (1 + at) 0) (key-place keys name)

-- the text is the one that was last looked up
pub last-known : (seen : Seen) (names : List (List ℕ)) (last : LookedUp) (text : List ℕ)
    → seen.last ≡ Some last → last.text.now ≡ text → IsSeen seen names
    → (with_name names (underscored text) ≡ names)
    × (last.place ≡ place_among names (underscored text))
last-known seen names last text kept same is =
    let known
    = subst (λ o. MatchOption o ⊤
    (λ l. (is_among names (underscored l.text.now) ≡ true)
    × (l.place ≡ place_among names (underscored l.text.now)))) kept is.last in (
      ap (λ b. cond b names (names ++ underscored text ∷ []))
          (ap (λ t. is_among names (underscored t)) (sym same) ∙ known.0),
      known.1 ∙ ap (λ t. place_among names (underscored t)) same,
    )

-- another text, whose key is put in
pub put-place : (seen : Seen) (names : List (List ℕ)) (key : OwnedNameKey) (name : List ℕ) (at : ℕ)
    → IsSeen seen names → name_of key ≡ name
    → at ≡ position_or_len (λ k. bytes_eq (name_of key) (name_of k)) seen.names.keys
    → at ≡ place_among (with_name names name) name
put-place seen names key name at is same index =
    index
    ∙ key-place seen.names.keys (name_of key)
    ∙ ap (λ ns. place_among ns (name_of key)) is.names
    ∙ ap (place_among names) same
    ∙ sym (place-put names name)

pub put-seen : (before after : Seen) (names : List (List ℕ)) (key : OwnedNameKey) (last : LookedUp)
    → IsSeen before names → name_of key ≡ underscored last.text.now
    → after.names.keys ≡ insert_key (λ x y. bytes_eq (name_of x) (name_of y)) before.names.keys key
    → after.last ≡ Some last
    → last.place
    ≡ place_among (with_name names (underscored last.text.now)) (underscored last.text.now)
    → IsSeen after (with_name names (underscored last.text.now))
put-seen before after names key last is same put kept place =
    let name = underscored last.text.now in
    record {
      names
          = with_name-put name_of before.names.keys after.names.keys key put
          ∙ ap (λ ns. with_name ns (name_of key)) is.names ∙ ap (with_name names) same;
      last
          = subst (λ o. MatchOption o ⊤
          (λ l. (is_among (with_name names name) (underscored l.text.now) ≡ true)
          × (l.place ≡ place_among (with_name names name) (underscored l.text.now))))
          (sym kept) (put-in names name, place);
    }

-- ---- the aliases of a file, piece by piece

-- what is known after some pieces: the modules seen, and the aliases
pub record Keeps (seen : Seen) (list : List AliasAt) (rest bytes : List ℕ) : Type 0 where
  pub names : List (List ℕ)
  pub is_seen : IsSeen seen names
  pub modules : fold with_name names (map (λ (f : BuiltinField). f.module) (fields_of rest))
      ≡ modules_of (fields_of bytes)
  pub aliases : list ++ filter_map (alias_in (modules_of (fields_of bytes))) (fields_of rest)
      ≡ filter_map (alias_in (modules_of (fields_of bytes))) (fields_of bytes)

pub keeps-first : (seen : Seen) (bytes : List ℕ) → IsSeen seen [] → Keeps seen [] bytes bytes
keeps-first seen bytes is = record {
  names = [];
  is_seen = is;
  modules = seen-fold [] (map (λ f. f.module) (fields_of bytes));
  aliases = refl;
}

pub keeps-skipped : (seen : Seen) (list : List AliasAt) (rest after bytes : List ℕ)
    → Keeps seen list rest bytes → fields_of rest ≡ fields_of after → Keeps seen list after bytes
keeps-skipped seen list rest after bytes keeps is = record {
  names = keeps.names;
  is_seen = keeps.is_seen;
  modules
      = ap (λ (fs : List BuiltinField). fold with_name keeps.names (map (λ f. f.module) fs))
      (sym is)
      ∙ keeps.modules;
  aliases
      = ap (λ fs. list ++ filter_map (alias_in (modules_of (fields_of bytes))) fs) (sym is)
      ∙ keeps.aliases;
}

-- what a call that looks a module up leaves
pub record Placed (before after : Seen) (name : List ℕ) (at : ℕ) : Type 0 where
  pub seen : (names : List (List ℕ)) → IsSeen before names → IsSeen after (with_name names name)
  pub place : (names : List (List ℕ)) → IsSeen before names
      → at ≡ place_among (with_name names name) name

module _ (before after : Seen) (list : List AliasAt) (rest next bytes : List ℕ)
    (field : BuiltinField) (place : ℕ) (keeps : Keeps before list rest bytes)
    (is : fields_of rest ≡ field ∷ fields_of next) (placed : Placed before after field.module place)
  where
    modules-now : fold with_name (with_name keeps.names field.module)
        (map (λ (f : BuiltinField). f.module) (fields_of next))
        ≡ modules_of (fields_of bytes)
    modules-now
        = ap (λ (fs : List BuiltinField). fold with_name keeps.names (map (λ f. f.module) fs))
        (sym is)
        ∙ keeps.modules

    -- the place of its module stays
    placed-at : place ≡ place_among (modules_of (fields_of bytes)) field.module
    placed-at =
        placed.place keeps.names keeps.is_seen
        ∙ sym (place-stays (with_name keeps.names field.module)
        (map (λ f. f.module) (fields_of next))
        field.module (put-in keeps.names field.module))
        ∙ ap (λ ns. place_among ns field.module) modules-now

    pub keeps-field : is_alias field ≡ false → Keeps after list next bytes
    keeps-field other = record {
      names = with_name keeps.names field.module;
      is_seen = placed.seen keeps.names keeps.is_seen;
      modules = modules-now;
      aliases =
          ap (λ b. list
          ++ cons_option
          (cond b (Some (
            place_among (modules_of (fields_of bytes)) field.module,
            field.module,
            field.value,
          )) None)
          (filter_map (alias_in (modules_of (fields_of bytes))) (fields_of next)))
          (sym other)
          ∙ ap (λ fs. list ++ filter_map (alias_in (modules_of (fields_of bytes))) fs) (sym is)
          ∙ keeps.aliases;
    }

    pub keeps-alias : is_alias field ≡ true
        → Keeps after (list ++ (place, field.module, field.value) ∷ []) next bytes
    keeps-alias alias =
        let later = filter_map (alias_in (modules_of (fields_of bytes))) (fields_of next) in
        record {
          names = with_name keeps.names field.module;
          is_seen = placed.seen keeps.names keeps.is_seen;
          modules = modules-now;
          aliases =
              append_assoc list ((place, field.module, field.value) ∷ []) later
              ∙ ap (λ (at : ℕ). list ++ (at, field.module, field.value) ∷ later) placed-at
              ∙ ap (λ b. list
              ++ cons_option
              (cond b (Some (
                place_among (modules_of (fields_of bytes)) field.module,
                field.module,
                field.value,
              )) None) later) (sym alias)
              ∙ ap (λ fs. list ++ filter_map (alias_in (modules_of (fields_of bytes))) fs) (sym is)
              ∙ keeps.aliases;
        }

-- the values of the aliases are those of the fields
pub same-values : (names : List (List ℕ)) (fields : List BuiltinField)
    → filter_map value_at (filter_map (alias_in names) fields)
    ≡ filter_map (alias_value names) (filter is_alias fields)
same-values names [] = refl
same-values names (f ∷ fields) =
    elim (is_alias f) as
    (λ b. filter_map value_at
    (cons_option (cond b (Some (place_among names f.module, f.module, f.value)) None)
    (filter_map (alias_in names) fields))
    ≡ filter_map (alias_value names)
    (cond b (f ∷ filter is_alias fields) (filter is_alias fields))) [
      | true ↦ ap (λ vs. cons_option (alias_value names f) vs) (same-values names fields)
      | false ↦ same-values names fields
    ]
