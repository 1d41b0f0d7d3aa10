-- Groups with a value more.
use Rattle.std.proofs.Common.{◌≡◌, ℕ, Bool, true, false, cond, Bor, List, [], ◌∷◌, ◌++◌, map}
use Rattle.std.proofs.Common.{Option, Some, None, Vec, refl, sym, ap, ◌∙◌, append-nil}
use Rattle.std.specs.Map.{lookup, set_value}
use Rattle.std.specs.Option.{unwrap_or, option_map}
use Rattle.std.specs.Str.{bytes_eq}
use Rattle.std.specs.Cmp.Lexicographic.{bytes_decides}
use Rattle.std.specs.declared.alloc.Global.{Global}
use Rattle.std.proofs.lemmas.Cmp.{nat_list_eq_equiv}
use Rattle.name_lookup.specs.Groups.{group_of, shown_groups}

-- a map's entries
abbrev pub Entries : Type 0 → Type 0
Entries X = List (Bor (List ℕ) × Vec X Global)

-- what a map has for a name
abbrev pub entry_of : {X : Type 0} → List ℕ → Entries X → Option (Vec X Global)
entry_of name es = lookup (λ (k : Bor (List ℕ)). bytes_eq name k.now) es

pub group-shown : {X : Type 0} (name : List ℕ) (es : Entries X)
    → group_of (shown_groups es) name
    ≡ unwrap_or (option_map (λ (g : Vec X Global). g.items) (entry_of name es)) []
group-shown name [] = refl
group-shown {X} name (e ∷ es) = by (bytes_eq name e.0.now) (group-shown name es)
  where
    by : (b : Bool)
        → group_of (shown_groups es) name
        ≡ unwrap_or (option_map (λ (g : Vec X Global). g.items) (entry_of name es)) []
        → unwrap_or (cond b (Some e.1.items) (lookup (bytes_eq name) (shown_groups es))) []
        ≡ unwrap_or
        (option_map (λ (g : Vec X Global). g.items) (cond b (Some e.1) (entry_of name es)))
        []
    by true rest = refl
    by false rest = rest

-- a name that isn't the key differs from one that is
apart : (name other key : List ℕ) → bytes_eq name key ≡ false → bytes_eq other key ≡ true
    → bytes_eq name other ≡ false
apart name other key differs same = ap (bytes_eq name) ((bytes_decides other key).0 same) ∙ differs

module _ {X : Type 0} (name other : List ℕ) (v : X) where
  abbrev more : List X
  more = cond (bytes_eq name other) (v ∷ []) []

  -- a key that isn't the name keeps its group
  kept : (k : List ℕ) (group : List X) (old new : Option (List X)) → bytes_eq name k ≡ false
      → unwrap_or new [] ≡ unwrap_or old [] ++ more → (b : Bool) → bytes_eq other k ≡ b
      → unwrap_or (cond b (Some group) new) [] ≡ unwrap_or (cond b (Some group) old) [] ++ more
  kept k group old new differs rest true same =
      sym (ap (λ b. group ++ cond b (v ∷ []) []) (apart name other k differs same)
      ∙ append-nil group)
  kept k group old new differs rest false same = rest

  -- the group of the name has the value
  written : (k : List ℕ) (old new : List X) (rest : Option (List X)) → bytes_eq name k ≡ true
      → new ≡ old ++ v ∷ []
      → (b : Bool) → bytes_eq name other ≡ b
      → unwrap_or (cond (bytes_eq other k) (Some new) rest) []
      ≡ unwrap_or (cond (bytes_eq other k) (Some old) rest) [] ++ cond b (v ∷ []) []
  written k old new rest same is b e =
      let test : bytes_eq other k ≡ b
      = ap (bytes_eq other) (sym ((bytes_decides name k).0 same))
      ∙ nat_list_eq_equiv.symm other name ∙ e in
      ap (λ t. unwrap_or (cond t (Some new) rest) []) test ∙ by b
      ∙ ap (λ t. unwrap_or (cond t (Some old) rest) [] ++ cond b (v ∷ []) []) (sym test)
    where
      by : (b : Bool)
          → unwrap_or (cond b (Some new) rest) []
          ≡ unwrap_or (cond b (Some old) rest) [] ++ cond b (v ∷ []) []
      by true = is
      by false = sym (append-nil (unwrap_or rest []))

  -- a name that has a group
  pub group-written : (old new : Vec X Global) → new.items ≡ old.items ++ v ∷ [] → (es : Entries X)
      → entry_of name es ≡ Some old
      → group_of (shown_groups (set_value (λ (k : Bor (List ℕ)). bytes_eq name k.now) es new)) other
      ≡ group_of (shown_groups es) other ++ more
  group-written old new is [] found = absurd (let bad = found in cc)
  group-written old new is (e ∷ es) found
      = by (bytes_eq name e.0.now) refl found (group-written old new is es)
    where
      after : Entries X
      after = set_value (λ (k : Bor (List ℕ)). bytes_eq name k.now) es new

      by : (b : Bool) → bytes_eq name e.0.now ≡ b → cond b (Some e.1) (entry_of name es) ≡ Some old
          → (entry_of name es ≡ Some old
          → group_of (shown_groups after) other ≡ group_of (shown_groups es) other ++ more)
          → group_of (shown_groups (cond b ((e.0, new) ∷ es) (e ∷ after))) other
          ≡ group_of (shown_groups (e ∷ es)) other ++ more
      by true same found rest =
          let old_is : old ≡ e.1 = sym (ap (λ o. unwrap_or o old) found) in
          written e.0.now e.1.items new.items (lookup (bytes_eq other) (shown_groups es)) same
          (is ∙ ap (λ (g : Vec X Global). g.items ++ v ∷ []) old_is) (bytes_eq name other) refl
      by false differs found rest
          = kept e.0.now e.1.items (lookup (bytes_eq other) (shown_groups es))
          (lookup (bytes_eq other) (shown_groups after)) differs (rest found)
          (bytes_eq other e.0.now) refl

  -- a name that has none
  pub group-added : (k : Bor (List ℕ)) (group : Vec X Global) → k.now ≡ name → group.items ≡ v ∷ []
      → (es : Entries X) → entry_of name es ≡ None
      → group_of (shown_groups (es ++ (k, group) ∷ [])) other
      ≡ group_of (shown_groups es) other ++ more
  group-added k group key is [] none =
      ap (λ t. unwrap_or (cond t (Some group.items) None) [])
      (ap (bytes_eq other) key ∙ nat_list_eq_equiv.symm other name)
      ∙ by (bytes_eq name other)
    where
      by : (b : Bool) → unwrap_or (cond b (Some group.items) None) [] ≡ cond b (v ∷ []) []
      by true = is
      by false = refl
  group-added k group key is (e ∷ es) none
      = by (bytes_eq name e.0.now) refl none (group-added k group key is es)
    where
      after : Entries X
      after = es ++ (k, group) ∷ []

      by : (b : Bool) → bytes_eq name e.0.now ≡ b → cond b (Some e.1) (entry_of name es) ≡ None
          → (entry_of name es ≡ None
          → group_of (shown_groups after) other ≡ group_of (shown_groups es) other ++ more)
          → group_of (shown_groups (e ∷ after)) other
          ≡ group_of (shown_groups (e ∷ es)) other ++ more
      by true same none rest = absurd (let bad = none in cc)
      by false differs none rest
          = kept e.0.now e.1.items (lookup (bytes_eq other) (shown_groups es))
          (lookup (bytes_eq other) (shown_groups after)) differs (rest none)
          (bytes_eq other e.0.now) refl
