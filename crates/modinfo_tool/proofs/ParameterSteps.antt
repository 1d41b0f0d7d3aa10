-- Parameters, a field or a value more at a time.
use Rattle.std.proofs.Common.{◌≡◌, ℕ, ◌+◌, ◌<◌, Bool, true, false, cond, List, [], ◌∷◌, ◌++◌}
use Rattle.std.proofs.Common.{Bor, length, take, get_or, map, filter, option_map, Option, Some}
use Rattle.std.proofs.Common.{None, refl, sym, ap, ◌∙◌}
use Rattle.std.specs.List.{find, slice_get}
use Rattle.std.specs.Option.{option_or}
use Rattle.std.specs.Str.{bytes_eq}
use Rattle.std.proofs.lemmas.List.{take_more}
use Rattle.std.proofs.lemmas.List.Folds.{find-append}
use Rattle.modinfo_fields.specs.declared.piece.Field.{Field}
use Rattle.modinfo_fields.specs.Fields.{parameter_of, description_of}
use Rattle.modinfo_tool.specs.Parameters.{is_parameter, parameter_names, first_told, described}
use Rattle.name_table.specs.FirstSeen.{first_seen}
use Rattle.modinfo_tool.proofs.LineSteps.{passing-taken, passing-left}

map-push : (xs : List Field) (x : Field)
    → map (λ (field : Field). parameter_of field.value) (xs ++ x ∷ [])
    ≡ map (λ (field : Field). parameter_of field.value) xs ++ parameter_of x.value ∷ []
map-push [] x = refl
map-push (y ∷ ys) x = ap (λ l. parameter_of y.value ∷ l) (map-push ys x)

-- the names with the next field looked at
module _ (xs : List Field) (i : ℕ) (x : Field) (here : slice_get xs i ≡ Some x) where
  pub names-taken : (old new : List (List ℕ)) (name : List ℕ) → is_parameter x ≡ true
      → ((names : List (List ℕ)) → old ≡ first_seen names → new ≡ first_seen (names ++ name ∷ []))
      → name ≡ parameter_of x.value
      → old ≡ parameter_names (take i xs) → new ≡ parameter_names (take (i + 1) xs)
  unfolding parameter_names
  names-taken old new name passes seen named so_far =
      let names = map (λ (field : Field). parameter_of field.value)
      (filter is_parameter (take i xs)) in
      seen names so_far
      ∙ ap (λ n. first_seen (names ++ n ∷ [])) named
      ∙ ap first_seen (sym (map-push (filter is_parameter (take i xs)) x))
      ∙ sym (ap (λ l. first_seen (map (λ (field : Field). parameter_of field.value) l))
      (passing-taken is_parameter xs i x here passes))

  pub names-left : (names : List (List ℕ)) → is_parameter x ≡ false
      → names ≡ parameter_names (take i xs) → names ≡ parameter_names (take (i + 1) xs)
  unfolding parameter_names
  names-left names fails so_far
      = so_far
      ∙ sym (ap (λ l. first_seen (map (λ (field : Field). parameter_of field.value) l))
      (passing-left is_parameter xs i x here fails))

or-map : {X Y : Type 0} (f : X → Y) (a b : Option X)
    → option_map f (option_or a b) ≡ option_or (option_map f a) (option_map f b)
or-map f None b = refl
or-map f (Some x) b = refl

told-one : (name value : List ℕ) (b : Bool) → bytes_eq (parameter_of value) name ≡ b
    → option_map description_of (cond (bytes_eq (parameter_of value) name) (Some value) None)
    ≡ cond (bytes_eq (parameter_of value) name) (Some (description_of value)) None
told-one name value true is =
    ap (λ b. option_map description_of (cond b (Some value) None)) is
    ∙ sym (ap (λ b. cond b (Some (description_of value)) None) is)
told-one name value false is =
    ap (λ b. option_map description_of (cond b (Some value) None)) is
    ∙ sym (ap (λ b. cond b (Some (description_of value)) None) is)

-- the first description, with the next value looked at
pub first_told-next : (values : List (List ℕ)) (i : ℕ) (value name : List ℕ) → i < length values
    → value ≡ get_or values i value
    → first_told (take (i + 1) values) name
    ≡ option_or (first_told (take i values) name)
    (cond (bytes_eq (parameter_of value) name) (Some (description_of value)) None)
unfolding first_told
first_told-next values i value name within here =
    ap (λ l. option_map description_of (find (λ v. bytes_eq (parameter_of v) name) l))
    (take_more values i value within)
    ∙ ap (λ v. option_map description_of
    (find (λ v. bytes_eq (parameter_of v) name) (take i values ++ v ∷ [])))
    (sym here)
    ∙ ap (option_map description_of)
    (find-append (λ v. bytes_eq (parameter_of v) name) (take i values) (value ∷ []))
    ∙ or-map description_of (find (λ v. bytes_eq (parameter_of v) name) (take i values))
    (cond (bytes_eq (parameter_of value) name) (Some value) None)
    ∙ ap (option_or
    (option_map description_of (find (λ v. bytes_eq (parameter_of v) name) (take i values))))
    (told-one name value (bytes_eq (parameter_of value) name) refl)

-- a table of descriptions with one more, unless its name had one
pub told-more : (new old : Option (Bor (List ℕ))) (rest : Bor (List ℕ)) (same : Bool)
    → new ≡ option_or old (cond same (Some rest) None)
    → option_map (λ (t : Bor (List ℕ)). t.now) new
    ≡ option_or (option_map (λ (t : Bor (List ℕ)). t.now) old) (cond same (Some rest.now) None)
told-more new old rest true is =
    ap (option_map (λ (t : Bor (List ℕ)). t.now)) is
    ∙ or-map (λ (t : Bor (List ℕ)). t.now) old (Some rest)
told-more new old rest false is =
    ap (option_map (λ (t : Bor (List ℕ)). t.now)) is
    ∙ or-map (λ (t : Bor (List ℕ)). t.now) old None

-- the values of parameters by two tables that have what the fields tell
pub all-described : (names : List (List ℕ))
    (text kind text_told kind_told : List ℕ → Option (List ℕ))
    → ((name : List ℕ) → text name ≡ text_told name)
    → ((name : List ℕ) → kind name ≡ kind_told name)
    → map (λ name. described name (text name) (kind name)) names
    ≡ map (λ name. described name (text_told name) (kind_told name)) names
all-described [] text kind text_told kind_told texts kinds = refl
all-described (name ∷ names) text kind text_told kind_told texts kinds =
    ap (λ t. described name t (kind name) ∷ map (λ n. described n (text n) (kind n)) names)
    (texts name)
    ∙ ap (λ t. described name (text_told name) t ∷ map (λ n. described n (text n) (kind n)) names)
    (kinds name)
    ∙ ap (λ l. described name (text_told name) (kind_told name) ∷ l)
    (all-described names text kind text_told kind_told texts kinds)
