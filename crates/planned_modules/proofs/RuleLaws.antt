-- What the rules on a module give for it, all rules give.
use Rattle.std.proofs.Common.{◌≡◌, ℕ, Bool, true, false, cond, Bor, List, [], ◌∷◌, ◌++◌, map}
use Rattle.std.proofs.Common.{filter, Option, Some, None, refl, sym, ap, ◌∙◌}
use Rattle.std.specs.List.{flat_map}
use Rattle.km_names.specs.First.{first}
use Rattle.modprobe_conf.specs.declared.rule.Rule.{Rule}
use Rattle.modprobe_conf.specs.declared.rule.Rule.TheVariants.{Alias, Blacklist, Options, Install}
use Rattle.modprobe_conf.specs.declared.rule.Rule.TheVariants.{Remove, Softdep}
use Rattle.planned_modules.specs.declared.needs.Side.{Side}
use Rattle.planned_modules.specs.declared.needs.Side.TheVariants.{Before, After}
use Rattle.planned_modules.specs.Members.{command_of, install_command}
use Rattle.planned_modules.specs.Kept.{names_on}
use Rattle.plan_sources.specs.Rules.{is_on, shown_rules}

-- ---- where items that don't pass give nothing, those that pass give all

module _ {X Y : Type 0} (p : X → Bool) (f : X → List Y) where
  flat-step : (x : X) (xs : List X) → (p x ≡ false → f x ≡ [])
      → flat_map f (filter p xs) ≡ flat_map f xs → (b : Bool) → p x ≡ b
      → flat_map f (cond b (x ∷ filter p xs) (filter p xs)) ≡ f x ++ flat_map f xs
  flat-step x xs none rest true is = ap (λ ys. f x ++ ys) rest
  flat-step x xs none rest false is = rest ∙ ap (λ ys. ys ++ flat_map f xs) (sym (none is))

  pub flat-filter : ((x : X) → p x ≡ false → f x ≡ []) → (xs : List X)
      → flat_map f (filter p xs) ≡ flat_map f xs
  flat-filter none [] = refl
  flat-filter none (x ∷ xs) = flat-step x xs (none x) (flat-filter none xs) (p x) refl

module _ {X Y : Type 0} (p : X → Bool) (f : X → Option Y) where
  first-step : (x : X) (xs : List X) → (p x ≡ false → f x ≡ None)
      → first (map f (filter p xs)) ≡ first (map f xs) → (b : Bool) → p x ≡ b
      → first (map f (cond b (x ∷ filter p xs) (filter p xs))) ≡ first (f x ∷ map f xs)
  first-step x xs none rest true is = by (f x)
    where
      by : (o : Option Y) → first (o ∷ map f (filter p xs)) ≡ first (o ∷ map f xs)
      by None = rest
      by (Some y) = refl
  first-step x xs none rest false is = rest ∙ ap (λ o. first (o ∷ map f xs)) (sym (none is))

  first-filter : ((x : X) → p x ≡ false → f x ≡ None) → (xs : List X)
      → first (map f (filter p xs)) ≡ first (map f xs)
  first-filter none [] = refl
  first-filter none (x ∷ xs) = first-step x xs (none x) (first-filter none xs) (p x) refl

-- ---- what a rule that isn't on a module gives for it

names-off : (side : Side) (name : List ℕ) (rule : Rule) → is_on name rule ≡ false
    → names_on side name rule ≡ []
names-off Before name (Softdep own pre post) off = ap (λ b. cond b pre []) off
names-off After name (Softdep own pre post) off = ap (λ b. cond b post []) off
names-off Before name (Alias pattern own) off = refl
names-off After name (Alias pattern own) off = refl
names-off Before name (Blacklist own) off = refl
names-off After name (Blacklist own) off = refl
names-off Before name (Options own text) off = refl
names-off After name (Options own text) off = refl
names-off Before name (Install own command) off = refl
names-off After name (Install own command) off = refl
names-off Before name (Remove own command) off = refl
names-off After name (Remove own command) off = refl

command-off : (name : List ℕ) (rule : Rule) → is_on name rule ≡ false → command_of name rule ≡ None
command-off name (Install own command) off = ap (λ b. cond b (Some command) None) off
command-off name (Alias pattern own) off = refl
command-off name (Blacklist own) off = refl
command-off name (Options own text) off = refl
command-off name (Remove own command) off = refl
command-off name (Softdep own pre post) off = refl

-- ---- the rules on a module give what all rules give for it

names-on : (side : Side) (name : List ℕ) (rules : List Rule)
    → flat_map (names_on side name) (filter (is_on name) rules)
    ≡ flat_map (names_on side name) rules
names-on side name rules = flat-filter (is_on name) (names_on side name) (names-off side name) rules

command-on : (name : List ℕ) (rules : List Rule)
    → install_command (filter (is_on name) rules) name ≡ install_command rules name
command-on name rules = first-filter (is_on name) (command_of name) (command-off name) rules

-- the same by references to the rules on a module
pub flat-shown : {Y : Type 0} (f : Rule → List Y) (own : List (Bor Rule))
    → flat_map (λ (r : Bor Rule). f r.now) own ≡ flat_map f (shown_rules own)
flat-shown f [] = refl
flat-shown f (r ∷ own) = ap (λ ys. f r.now ++ ys) (flat-shown f own)

map-shown : {Y : Type 0} (f : Rule → Y) (own : List (Bor Rule))
    → map (λ (r : Bor Rule). f r.now) own ≡ map f (shown_rules own)
map-shown f [] = refl
map-shown f (r ∷ own) = ap (λ ys. f r.now ∷ ys) (map-shown f own)

module _ (name : List ℕ) (rules : List Rule) (own : List (Bor Rule))
    (is : shown_rules own ≡ filter (is_on name) rules) where
  pub names-of-own : (side : Side)
      → flat_map (λ (r : Bor Rule). names_on side name r.now) own
      ≡ flat_map (names_on side name) rules
  names-of-own side
      = flat-shown (names_on side name) own ∙ ap (flat_map (names_on side name)) is
      ∙ names-on side name rules

  pub command-of-own : first (map (λ (r : Bor Rule). command_of name r.now) own)
      ≡ install_command rules name
  command-of-own
      = ap first (map-shown (command_of name) own) ∙ ap (λ rs. install_command rs name) is
      ∙ command-on name rules
