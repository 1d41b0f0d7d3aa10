-- Aliases in tables give what the rules give.
use Rattle.std.proofs.Common.{◌≡◌, ℕ, suc, ◌+◌, ◌<◌, ◌≤◌, Bool, true, false, cond, List, [], ◌∷◌}
use Rattle.std.proofs.Common.{◌++◌, length, map, take, drop, get_or, filter_map, Option, Some, None}
use Rattle.std.proofs.Common.{refl, sym, ap, ◌∙◌, append-nil, append_assoc, drop-cons, arith}
use Rattle.std.specs.Prelude.{nat_lt}
use Rattle.std.specs.List.{cons_option, list_any}
use Rattle.std.specs.Option.{option_map_or}
use Rattle.std.specs.Str.{bytes_eq}
use Rattle.std.proofs.lemmas.Cmp.{nat_list_eq_equiv}
use Rattle.std.proofs.lemmas.List.{take_more, drop-map, drop-drop, length-take-le, drop_all}
use Rattle.std.proofs.lemmas.Bool.{lt-ltb, le-ltb}
use Rattle.glob_match.specs.Decision.{is_match}
use Rattle.modprobe_conf.specs.declared.rule.Rule.{Rule}
use Rattle.modprobe_conf.specs.declared.rule.Rule.TheVariants.{Alias, Blacklist, Options, Install}
use Rattle.modprobe_conf.specs.declared.rule.Rule.TheVariants.{Remove, Softdep}
use Rattle.name_lookup.specs.Found.{alias_name}
use Rattle.name_lookup.specs.Wildcards.{is_wildcard}
use Rattle.name_lookup.specs.declared.aliases.PlainAlias.{PlainAlias}
use Rattle.name_lookup.specs.declared.aliases.AliasTable.{AliasTable}
use Rattle.name_lookup.specs.declared.wildcards.WildAlias.{WildAlias}
use Rattle.name_lookup.specs.Aliases.{Plain, Wild, IsAliasTable, HasMore, shown_plain, shown_wild}
use Rattle.name_lookup.specs.Aliases.{alias_parts, plain_alias, wild_alias, plain_here, wild_here}
use Rattle.name_lookup.specs.Aliases.{plain_from, wild_from, count_before, names_before}
use Rattle.name_lookup.proofs.PatternLaws.{match-plain}

-- ---- with a rule more

pub plain-more : (place : ℕ) (x : List ℕ) (rules : List Rule) (rule : Rule)
    → plain_from place x (rules ++ rule ∷ [])
    ≡ plain_from place x rules ++ plain_here (place + length rules) x rule
plain-more place x [] rule =
    append-nil (plain_here place x rule)
    ∙ (let e : place ≡ place + length {A = Rule} []
    = omega arith in ap (λ n. plain_here n x rule) e)
plain-more place x (first ∷ rules) rule =
    ap (λ ps. plain_here place x first ++ ps) (plain-more (place + 1) x rules rule)
    ∙ sym (append_assoc (plain_here place x first) (plain_from (place + 1) x rules)
    (plain_here (place + 1 + length rules) x rule))
    ∙ (let e : place + 1 + length rules ≡ place + suc (length rules)
    = omega arith in ap
    (λ n. plain_here place x first ++ plain_from (place + 1) x rules
    ++ plain_here n x rule) e)

pub wild-more : (place : ℕ) (rules : List Rule) (rule : Rule)
    → wild_from place (rules ++ rule ∷ [])
    ≡ wild_from place rules ++ wild_here (place + length rules) rule
wild-more place [] rule =
    append-nil (wild_here place rule)
    ∙ (let e : place ≡ place + length {A = Rule} []
    = omega arith in ap (λ n. wild_here n rule) e)
wild-more place (first ∷ rules) rule =
    ap (λ ws. wild_here place first ++ ws) (wild-more (place + 1) rules rule)
    ∙ sym (append_assoc (wild_here place first) (wild_from (place + 1) rules)
    (wild_here (place + 1 + length rules) rule))
    ∙ (let e : place + 1 + length rules ≡ place + suc (length rules)
    = omega arith in ap
    (λ n. wild_here place first ++ wild_from (place + 1) rules ++ wild_here n rule) e)

-- ---- the first place

-- the first of some aliases, where there is one, stands at a place or behind it
abbrev Begins : ℕ → List Plain → Type 0
Begins place [] = Unit {0}
Begins place (p ∷ ps) = place ≤ p.0

begins-later : (place : ℕ) (ps : List Plain) → Begins (place + 1) ps → Begins place ps
begins-later place [] b = tt
begins-later place (p ∷ ps) b = omega (arith, b)

-- the alias of a rule begins at its place, and where there is none the others do
begins-here : (place : ℕ) (x : List ℕ) (rule : Rule) (ps : List Plain) → Begins place ps
    → Begins place (plain_here place x rule ++ ps)
begins-here place x (Alias pattern name) ps rest = wild (list_any is_wildcard pattern)
  where
    plain : (b : Bool) → Begins place (cond b ((place, name) ∷ []) [] ++ ps)
    plain true = omega arith
    plain false = rest

    wild : (b : Bool)
        → Begins place (cond b [] (cond (bytes_eq pattern x) ((place, name) ∷ []) []) ++ ps)
    wild true = rest
    wild false = plain (bytes_eq pattern x)
begins-here place x (Blacklist name) ps rest = rest
begins-here place x (Options name text) ps rest = rest
begins-here place x (Install name command) ps rest = rest
begins-here place x (Remove name command) ps rest = rest
begins-here place x (Softdep name pre post) ps rest = rest

plain-begins : (place : ℕ) (x : List ℕ) (rules : List Rule)
    → Begins place (plain_from place x rules)
plain-begins place x [] = tt
plain-begins place x (rule ∷ rules) =
    begins-here place x rule (plain_from (place + 1) x rules)
    (begins-later place (plain_from (place + 1) x rules) (plain-begins (place + 1) x rules))

-- all of some aliases stand behind a place
abbrev Behind : ℕ → List Wild → Type 0
Behind place [] = Unit {0}
Behind place (w ∷ ws) = (place < w.0) × Behind place ws

behind-here : (place start : ℕ) (rule : Rule) (ws : List Wild) → place < start → Behind place ws
    → Behind place (wild_here start rule ++ ws)
behind-here place start (Alias pattern name) ws l rest = wild (list_any is_wildcard pattern)
  where
    wild : (b : Bool) → Behind place (cond b ((start, pattern, name) ∷ []) [] ++ ws)
    wild true = (l, rest)
    wild false = rest
behind-here place start (Blacklist name) ws l rest = rest
behind-here place start (Options name text) ws l rest = rest
behind-here place start (Install name command) ws l rest = rest
behind-here place start (Remove name command) ws l rest = rest
behind-here place start (Softdep name pre post) ws l rest = rest

wild-behind : (place start : ℕ) (rules : List Rule) → place < start
    → Behind place (wild_from start rules)
wild-behind place start [] l = tt
wild-behind place start (rule ∷ rules) l =
    behind-here place start rule (wild_from (start + 1) rules) l
    (wild-behind place (start + 1) rules (omega (arith, l)))

-- ---- both kinds together

module _ (x : List ℕ) where
  -- the aliases from a place on
  abbrev pub from_place : ℕ → List Plain → List Plain
  from_place place ps = drop (count_before place ps) ps

  -- the names of aliases without wildcards, and of those with wildcards that match, by their places
  abbrev pub merged : List Plain → List Wild → List (List ℕ)
  merged ps [] = map (λ p. p.1) ps
  merged ps (w ∷ ws) =
      cond (is_match w.1 x) (names_before w.0 ps ++ w.2 ∷ merged (from_place w.0 ps) ws)
      (merged ps ws)

  -- an alias without wildcards before all others
  merged-plain : (place : ℕ) (name : List ℕ) (ps : List Plain) (ws : List Wild) → Behind place ws
      → merged ((place, name) ∷ ps) ws ≡ name ∷ merged ps ws
  merged-plain place name ps [] behind = refl
  merged-plain place name ps (w ∷ ws) behind =
      let test : nat_lt place w.0 ≡ true = lt-ltb place w.0 behind.0 in
      (λ i. cond (is_match w.1 x)
      (map (λ p. p.1) (take (cond (test i) (suc (count_before w.0 ps)) 0) ((place, name) ∷ ps))
      ++ w.2
      ∷ merged (drop (cond (test i) (suc (count_before w.0 ps)) 0) ((place, name) ∷ ps)) ws)
      (merged-plain place name ps ws behind.1 i))
      ∙ by (is_match w.1 x)
    where
      by : (b : Bool)
          → cond b (name ∷ (names_before w.0 ps ++ w.2 ∷ merged (from_place w.0 ps) ws))
          (name ∷ merged ps ws)
          ≡ name
          ∷ cond b (names_before w.0 ps ++ w.2 ∷ merged (from_place w.0 ps) ws) (merged ps ws)
      by true = refl
      by false = refl

  -- one with wildcards before all others
  none-before : (place : ℕ) (ps : List Plain) → Begins place ps → names_before place ps ≡ []
  none-before place [] begins = refl
  none-before place (p ∷ ps) begins
      = ap (λ b. map (λ q. q.1) (take (cond b (suc (count_before place ps)) 0) (p ∷ ps)))
      (le-ltb p.0 place begins)

  all-from : (place : ℕ) (ps : List Plain) → Begins place ps → from_place place ps ≡ ps
  all-from place [] begins = refl
  all-from place (p ∷ ps) begins
      = ap (λ b. drop (cond b (suc (count_before place ps)) 0) (p ∷ ps)) (le-ltb p.0 place begins)

  merged-wild : (place : ℕ) (pattern name : List ℕ) (ps : List Plain) (ws : List Wild)
      → Begins place ps
      → merged ps ((place, pattern, name) ∷ ws)
      ≡ cond (is_match pattern x) (name ∷ merged ps ws) (merged ps ws)
  merged-wild place pattern name ps ws begins =
      λ i. cond (is_match pattern x)
      (none-before place ps begins i ++ name ∷ merged (all-from place ps begins i) ws)
      (merged ps ws)

  -- a rule more in front
  merged-here : (place : ℕ) (rule : Rule) (ps : List Plain) (ws : List Wild) (more : List (List ℕ))
      → Begins place ps → Behind place ws → merged ps ws ≡ more
      → merged (plain_here place x rule ++ ps) (wild_here place rule ++ ws)
      ≡ cons_option (alias_name x rule) more
  merged-here place (Alias pattern name) ps ws more begins behind rest
      = wild (list_any is_wildcard pattern) refl
    where
      taken : (b : Bool) → cond b (name ∷ more) more ≡ cons_option (cond b (Some name) None) more
      taken true = refl
      taken false = refl

      plain : (b : Bool)
          → merged (cond b ((place, name) ∷ []) [] ++ ps) ws
          ≡ cons_option (cond b (Some name) None) more
      plain true = merged-plain place name ps ws behind ∙ ap (λ names. name ∷ names) rest
      plain false = rest

      wild : (b : Bool) → list_any is_wildcard pattern ≡ b
          → merged (cond b [] (cond (bytes_eq pattern x) ((place, name) ∷ []) []) ++ ps)
          (cond b ((place, pattern, name) ∷ []) [] ++ ws)
          ≡ cons_option (cond (is_match pattern x) (Some name) None) more
      wild true e =
          merged-wild place pattern name ps ws begins
          ∙ (λ i. cond (is_match pattern x) (name ∷ rest i) (rest i))
          ∙ taken (is_match pattern x)
      wild false e =
          plain (bytes_eq pattern x)
          ∙ ap (λ b. cons_option (cond b (Some name) None) more)
          (nat_list_eq_equiv.symm pattern x ∙ sym (match-plain pattern x e))
  merged-here place (Blacklist name) ps ws more begins behind rest = rest
  merged-here place (Options name text) ps ws more begins behind rest = rest
  merged-here place (Install name command) ps ws more begins behind rest = rest
  merged-here place (Remove name command) ps ws more begins behind rest = rest
  merged-here place (Softdep name pre post) ps ws more begins behind rest = rest

  pub merged-is : (place : ℕ) (rules : List Rule)
      → merged (plain_from place x rules) (wild_from place rules) ≡ filter_map (alias_name x) rules
  merged-is place [] = refl
  merged-is place (rule ∷ rules) =
      merged-here place rule (plain_from (place + 1) x rules) (wild_from (place + 1) rules)
      (filter_map (alias_name x) rules)
      (begins-later place (plain_from (place + 1) x rules) (plain-begins (place + 1) x rules))
      (wild-behind place (place + 1) rules (omega arith))
      (merged-is (place + 1) rules)

-- ---- a table with a rule more

module _ (table : AliasTable) (rules : List Rule) (i : ℕ) (rule : Rule)
    (is : IsAliasTable table (take i rules)) (l : i < length rules)
    (here : rule ≡ get_or rules i rule) where
  place-of : 0 + length (take i rules) ≡ i
  place-of = let n : length (take i rules) ≡ i = length-take-le i rules (omega arith) in omega arith

  plain-next : (x : List ℕ)
      → plain_from 0 x (take (i + 1) rules) ≡ plain_from 0 x (take i rules) ++ plain_here i x rule
  plain-next x =
      ap (plain_from 0 x) (take_more rules i rule l ∙ ap (λ r. take i rules ++ r ∷ []) (sym here))
      ∙ plain-more 0 x (take i rules) rule
      ∙ ap (λ n. plain_from 0 x (take i rules) ++ plain_here n x rule) place-of

  wild-next : wild_from 0 (take (i + 1) rules) ≡ wild_from 0 (take i rules) ++ wild_here i rule
  wild-next =
      ap (wild_from 0) (take_more rules i rule l ∙ ap (λ r. take i rules ++ r ∷ []) (sym here))
      ∙ wild-more 0 (take i rules) rule
      ∙ ap (λ n. wild_from 0 (take i rules) ++ wild_here n rule) place-of

  pub table-more : (new : AliasTable) (pattern name : List ℕ)
      → Some (pattern, name) ≡ alias_parts rule → HasMore table new i pattern name
      → IsAliasTable new (take (i + 1) rules)
  table-more new pattern name parts more = record {
    plain = λ x.
        more.plain x
        ∙ (λ j. is.plain x j
        ++ option_map_or (λ (a : List ℕ × List ℕ). plain_alias i a.0 a.1 x) (parts j) [])
        ∙ sym (plain-next x);
    wild =
        more.wild
        ∙ (λ j. is.wild j
        ++ option_map_or (λ (a : List ℕ × List ℕ). wild_alias i a.0 a.1) (parts j) [])
        ∙ sym wild-next;
  }

  pub table-same : None ≡ alias_parts rule → IsAliasTable table (take (i + 1) rules)
  table-same parts = record {
    plain = λ x.
        is.plain x
        ∙ sym (append-nil (plain_from 0 x (take i rules)))
        ∙ ap (λ a. plain_from 0 x (take i rules)
        ++ option_map_or (λ (a : List ℕ × List ℕ). plain_alias i a.0 a.1 x) a []) parts
        ∙ sym (plain-next x);
    wild =
        is.wild
        ∙ sym (append-nil (wild_from 0 (take i rules)))
        ∙ ap (λ a. wild_from 0 (take i rules)
        ++ option_map_or (λ (a : List ℕ × List ℕ). wild_alias i a.0 a.1) a []) parts
        ∙ sym wild-next;
  }

-- ---- the names so far

module _ (x : List ℕ) (plain : List PlainAlias) (wild : List WildAlias) where
  -- with the names, those of the aliases that are left are all
  abbrev pub AreNames : ℕ → ℕ → List (List ℕ) → Type 0
  AreNames done i names =
      names ++ merged x (drop done (map shown_plain plain)) (drop i (map shown_wild wild))
      ≡ merged x (map shown_plain plain) (map shown_wild wild)

  wild-at : (i : ℕ) (w : WildAlias) → i < length wild → w ≡ get_or wild i w
      → drop i (map shown_wild wild) ≡ shown_wild w ∷ drop (i + 1) (map shown_wild wild)
  wild-at i w l here =
      drop-map shown_wild i wild
      ∙ ap (map shown_wild) (drop-cons wild i w l ∙ ap (λ v. v ∷ drop (suc i) wild) (sym here))
      ∙ ap (λ ws. shown_wild w ∷ ws)
      (sym (drop-map shown_wild (suc i) wild)
      ∙ (let e : suc i ≡ i + 1 = omega arith in ap (λ n. drop n (map shown_wild wild)) e))

  pub names-taken : (done i count : ℕ) (w : WildAlias) (names before after : List (List ℕ))
      → AreNames done i names → i < length wild → w ≡ get_or wild i w
      → is_match (w.front.now ++ w.rest.now) x ≡ true
      → count ≡ count_before w.place (map shown_plain (drop done plain))
      → before ≡ names ++ names_before w.place (map shown_plain (drop done plain))
      → after ≡ before ++ w.name.now ∷ []
      → AreNames (done + count) (i + 1) after
  names-taken done i count w names before after are l here test counted so_far now =
      let left = drop done (map shown_plain plain) in
      let ws = drop (i + 1) (map shown_wild wild) in
      let count_is : count ≡ count_before w.place (drop done (map shown_plain plain))
      = counted ∙ ap (count_before w.place) (sym (drop-map shown_plain done plain)) in
      let rest : drop (done + count) (map shown_plain plain)
      ≡ from_place x w.place (drop done (map shown_plain plain))
      =
      sym (drop-drop count done (map shown_plain plain))
      ∙ ap (λ n. drop n (drop done (map shown_plain plain))) count_is in
      let names_is : after
      ≡ (names ++ names_before w.place (drop done (map shown_plain plain))) ++ w.name.now
      ∷ []
      =
      now
      ∙ ap (λ ns. ns ++ w.name.now ∷ [])
      (so_far
      ∙ ap (λ ps. names ++ names_before w.place ps)
      (sym (drop-map shown_plain done plain))) in
      (λ j. names_is j ++ merged x (rest j) ws)
      ∙ append_assoc (names ++ names_before w.place left) (w.name.now ∷ [])
      (merged x (from_place x w.place left) ws)
      ∙ append_assoc names (names_before w.place left)
      (w.name.now ∷ merged x (from_place x w.place left) ws)
      ∙ ap (λ b. names
      ++ cond b
      (names_before w.place left ++ w.name.now ∷ merged x (from_place x w.place left) ws)
      (merged x left ws)) (sym test)
      ∙ ap (λ us. names ++ merged x left us) (sym (wild-at i w l here))
      ∙ are

  pub names-left : (done i : ℕ) (w : WildAlias) (names : List (List ℕ)) → AreNames done i names
      → i < length wild → w ≡ get_or wild i w
      → is_match (w.front.now ++ w.rest.now) x ≡ false → AreNames done (i + 1) names
  names-left done i w names are l here test =
      let left = drop done (map shown_plain plain) in
      let ws = drop (i + 1) (map shown_wild wild) in
      ap (λ b. names
      ++ cond b (names_before w.place left ++ w.name.now
      ∷ merged x (from_place x w.place left) ws) (merged x left ws)) (sym test)
      ∙ ap (λ us. names ++ merged x left us) (sym (wild-at i w l here))
      ∙ are

  pub names-all : (done i : ℕ) (names all : List (List ℕ)) → AreNames done i names → length wild ≤ i
      → all ≡ names ++ map (λ p. p.1) (map shown_plain (drop done plain))
      → all ≡ merged x (map shown_plain plain) (map shown_wild wild)
  names-all done i names all are l is =
      is
      ∙ ap (λ ps. names ++ map (λ (p : Plain). p.1) ps) (sym (drop-map shown_plain done plain))
      ∙ ap (λ ws. names ++ merged x (drop done (map shown_plain plain)) ws)
      (sym (drop-map shown_wild i wild ∙ ap (map shown_wild) (drop_all i wild l)))
      ∙ are
