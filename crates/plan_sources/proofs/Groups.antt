-- Rules in groups, a rule more at a time.
use Rattle.std.proofs.Common.{◌≡◌, ℕ, ◌+◌, ◌<◌, Bool, true, false, cond, Bor, List, [], ◌∷◌, ◌++◌}
use Rattle.std.proofs.Common.{length, take, filter, get_or, Some, None, sym, ap, ◌∙◌, append-nil}
use Rattle.std.specs.Option.{option_map_or}
use Rattle.std.specs.Str.{bytes_eq}
use Rattle.std.proofs.lemmas.List.{map-append, take_more}
use Rattle.std.proofs.lemmas.List.Elements.{filter-append}
use Rattle.modprobe_conf.specs.declared.rule.Rule.{Rule}
use Rattle.name_lookup.specs.Groups.{group_of}
use Rattle.plan_sources.specs.Kept.{IsGrouped}
use Rattle.plan_sources.specs.Rules.{owner, is_on, shown_rules}

filter-more : {X : Type 0} (p : X → Bool) (xs : List X) (i : ℕ) (x : X) → i < length xs
    → x ≡ get_or xs i x
    → filter p (take (i + 1) xs) ≡ filter p (take i xs) ++ cond (p x) (x ∷ []) []
filter-more p xs i x l is =
    ap (filter p) (take_more xs i x l) ∙ filter-append p (take i xs) (get_or xs i x ∷ [])
    ∙ ap (λ y. filter p (take i xs) ++ cond (p y) (y ∷ []) []) (sym is)

shown-more : (own : List (Bor Rule)) (r : Bor Rule) (b : Bool)
    → shown_rules (own ++ cond b (r ∷ []) []) ≡ shown_rules own ++ cond b (r.now ∷ []) []
shown-more own r true = map-append (λ (r : Bor Rule). r.now) own (r ∷ [])
shown-more own r false = map-append (λ (r : Bor Rule). r.now) own []

module _ (old : List (List ℕ × List (Bor Rule))) (rules : List Rule) (i : ℕ) (rule : Rule)
    (is : IsGrouped old (take i rules)) (l : i < length rules) (at : rule ≡ get_or rules i rule)
  where
    next : (name : List ℕ)
        → filter (is_on name) (take (i + 1) rules)
        ≡ filter (is_on name) (take i rules) ++ cond (is_on name rule) (rule ∷ []) []
    next name = filter-more (is_on name) rules i rule l at

    -- a rule that is on a module
    pub grouped-more : (new : List (List ℕ × List (Bor Rule))) (own : List ℕ) (r : Bor Rule)
        → r.now ≡ rule → Some own ≡ owner rule
        → ((name : List ℕ)
        → group_of new name ≡ group_of old name ++ cond (bytes_eq own name) (r ∷ []) [])
        → IsGrouped new (take (i + 1) rules)
    grouped-more new own r same owned now name =
        ap shown_rules (now name)
        ∙ shown-more (group_of old name) r (bytes_eq own name)
        ∙ (λ j. is name j
        ++ cond (option_map_or (λ o. bytes_eq o name) (owned j) false) (same j ∷ []) [])
        ∙ sym (next name)

    -- a rule that is on none
    pub grouped-same : None ≡ owner rule → IsGrouped old (take (i + 1) rules)
    grouped-same owned name =
        is name
        ∙ sym (append-nil (filter (is_on name) (take i rules)))
        ∙ ap (λ o. filter (is_on name) (take i rules)
        ++ cond (option_map_or (λ o. bytes_eq o name) o false) (rule ∷ []) []) owned
        ∙ sym (next name)
