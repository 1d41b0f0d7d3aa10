-- Lists of names and rules, an item more at a time.
use Rattle.std.proofs.Common.{◌≡◌, ℕ, ◌+◌, ◌<◌, ◌≤◌, ◌||◌, ◌&&◌, not, Bool, true, false, cond, List}
use Rattle.std.proofs.Common.{[], ◌∷◌, ◌++◌, length, take, get_or, filter, filter_map, Option, Some}
use Rattle.std.proofs.Common.{None, refl, sym, ap, ◌∙◌, append-nil, arith}
use Rattle.std.specs.List.{cons_option, slice_get}
use Rattle.std.specs.Option.{option_map_or}
use Rattle.std.specs.Str.{bytes_eq}
use Rattle.std.proofs.lemmas.Cmp.{nat_list_eq_equiv}
use Rattle.std.proofs.lemmas.List.{take_more}
use Rattle.std.proofs.lemmas.List.Elements.{filter_more, filter_map-append}
use Rattle.std.proofs.lemmas.List.Folds.{list_any-append}
use Rattle.std.proofs.lemmas.Option.{get_or_from_slice_get, slice_get_within, slice_get-get_or}
use Rattle.km_names.specs.AliasForm.{normal_alias}
use Rattle.modprobe_conf.specs.declared.rule.Rule.{Rule}
use Rattle.modprobe_conf.specs.declared.rule.Rule.TheVariants.{Alias, Blacklist, Options, Install}
use Rattle.modprobe_conf.specs.declared.rule.Rule.TheVariants.{Remove, Softdep}
use Rattle.name_table.specs.FirstSeen.{first_seen, is_among}
use Rattle.name_lookup.specs.Maps.{Maps}
use Rattle.name_lookup.specs.Found.{installs, has_install, blacklists, is_blacklisted, found}
use Rattle.name_lookup.specs.Found.{found_normal}
use Rattle.name_lookup.specs.Tables.{installed_name}

-- The items that pass a test, with the next one looked at.
module _ {X : Type 0} (test : X → Bool) (xs : List X) (i : ℕ) (x : X)
    (here : slice_get xs i ≡ Some x) where
  passing-next : filter test (take (i + 1) xs)
      ≡ filter test (take i xs) ++ cond (test x) (x ∷ []) []
  passing-next =
      let within : i < length xs = slice_get_within xs i x here in
      filter_more test xs i x within
      ∙ ap (λ y. filter test (take i xs) ++ cond (test y) (y ∷ []) [])
      (get_or_from_slice_get xs i x x here)

  pub passing-taken : test x ≡ true
      → filter test (take (i + 1) xs) ≡ filter test (take i xs) ++ x ∷ []
  passing-taken passes
      = passing-next ∙ ap (λ b. filter test (take i xs) ++ cond b (x ∷ []) []) passes

  pub passing-left : test x ≡ false → filter test (take (i + 1) xs) ≡ filter test (take i xs)
  passing-left fails
      = passing-next ∙ ap (λ b. filter test (take i xs) ++ cond b (x ∷ []) []) fails
      ∙ append-nil (filter test (take i xs))

-- What is blacklisted, with one rule more.
pub blacklisted-more : (rules : List Rule) (i : ℕ) (rule : Rule) (x : List ℕ) → i < length rules
    → rule ≡ get_or rules i rule
    → is_blacklisted (take (i + 1) rules) x
    ≡ is_blacklisted (take i rules) x || (blacklists x rule || false)
blacklisted-more rules i rule x within here =
    ap (λ rs. is_blacklisted rs x) (take_more rules i rule within)
    ∙ list_any-append (blacklists x) (take i rules) (get_or rules i rule ∷ [])
    ∙ ap (λ r. is_blacklisted (take i rules) x || (blacklists x r || false)) (sym here)

-- What install rules name, with one rule more.
pub installed-more : (rules : List Rule) (i : ℕ) (rule : Rule) (x : List ℕ) → i < length rules
    → rule ≡ get_or rules i rule
    → has_install (take (i + 1) rules) x
    ≡ has_install (take i rules) x || (installs x rule || false)
installed-more rules i rule x within here =
    ap (λ rs. has_install rs x) (take_more rules i rule within)
    ∙ list_any-append (installs x) (take i rules) (get_or rules i rule ∷ [])
    ∙ ap (λ r. has_install (take i rules) x || (installs x r || false)) (sym here)

pub installs-name : (x : List ℕ) (rule : Rule)
    → installs x rule ≡ option_map_or (bytes_eq x) (installed_name rule) false
installs-name x (Install name command) = nat_list_eq_equiv.symm name x
installs-name x (Alias pattern name) = refl
installs-name x (Blacklist name) = refl
installs-name x (Options name text) = refl
installs-name x (Remove name command) = refl
installs-name x (Softdep name pre post) = refl

pub no_more : (t : Bool) → t || (false || false) ≡ t
no_more true = refl
no_more false = refl

pub one_more : (t u : Bool) → t || (u || false) ≡ t || u
one_more true u = refl
one_more false true = refl
one_more false false = refl

-- Names that pass tests which say the same.
pub filter-same : {X : Type 0} (f g : X → Bool) → ((x : X) → f x ≡ g x) → (xs : List X)
    → filter f xs ≡ filter g xs
filter-same f g same [] = refl
filter-same f g same (x ∷ xs) =
    λ i. cond (same x i) (x ∷ filter-same f g same xs i) (filter-same f g same xs i)

-- What is found for a name that has a normal form.
pub found-of_normal : (rules : List Rule) (maps : Maps) (everywhere : Bool) (name x : List ℕ)
    → normal_alias name ≡ Some x
    → found_normal rules maps everywhere x ≡ found rules maps everywhere name
unfolding found
found-of_normal rules maps everywhere name x is =
    sym (ap (λ o. option_map_or (found_normal rules maps everywhere) o
    (record { list = 0; names = [] })) is)

-- A place of a list has an item.
pub is_there : {X : Type 0} (xs : List X) (i : ℕ) → i < length xs → slice_get xs i ≡ None → ⊥
is_there [] i within none = absurd (omega (arith, within))
is_there (x ∷ xs) i within none =
    let some : slice_get (x ∷ xs) i ≡ Some (get_or (x ∷ xs) i x)
    = slice_get-get_or (x ∷ xs) i x within in
    cc

-- What a function gives for the items of a list, with one item more.
pub filter_map-more : {X Y : Type 0} (f : X → Option Y) (xs : List X) (i : ℕ) (x : X)
    → i < length xs → x ≡ get_or xs i x
    → filter_map f (take (i + 1) xs) ≡ filter_map f (take i xs) ++ cons_option (f x) []
filter_map-more f xs i x within here =
    ap (filter_map f) (take_more xs i x within)
    ∙ filter_map-append f (take i xs) (get_or xs i x ∷ [])
    ∙ ap (λ y. filter_map f (take i xs) ++ cons_option (f y) []) (sym here)

-- Where there is one name at most and none is dropped, all stay.
pub one-stays : (names dropped : List (List ℕ)) (drops : Bool) → length names ≤ 1
    → (drops ≡ true → dropped ≡ [])
    → filter (λ name. not (drops && is_among dropped name)) (first_seen names) ≡ names
one-stays [] dropped drops few none = refl
one-stays (name ∷ []) dropped drops few none = by drops none
  where
    by : (b : Bool) → (b ≡ true → dropped ≡ [])
        → filter (λ n. not (b && is_among dropped n)) (name ∷ []) ≡ name ∷ []
    by true none = ap (λ ds. filter (λ n. not (is_among ds n)) (name ∷ [])) (none refl)
    by false none = refl
one-stays (x ∷ y ∷ names) dropped drops few none = absurd (omega (arith, few))
