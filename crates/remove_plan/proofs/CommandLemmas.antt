-- The command that a rule has for removing a module, by the table of such rules.
use Rattle.std.proofs.Common.{◌≡◌, ◌≤◌, ◌<◌, ◌+◌, ◌∙◌, inl, inr, ℕ, zero, suc, Bool, true, false}
use Rattle.std.proofs.Common.{List, [], ◌∷◌, Option, Some, None, refl, sym, ap, arith, length, cond}
use Rattle.std.proofs.Common.{map}
use Rattle.std.specs.Prelude.{find, not, nat_lt, option_and_then, slice_get}
use Rattle.std.specs.List.{position_or_len}
use Rattle.std.proofs.lemmas.Bool.{cases_Bool}
use Rattle.std.proofs.lemmas.Bool.Decides.{nat_tests}
use Rattle.std.proofs.lemmas.List.{length-map}
use Rattle.name_table.specs.NameTable.{IsTableOf, Table, place_of, states}
use Rattle.modprobe_conf.specs.declared.rule.Rule.{Rule}
use Rattle.model_loader.proofs.PlaceLemmas.{past}
use Rattle.remove_plan.specs.Steps.{remove_command, removed_name, removing_command}

abbrev removes : List ℕ → Rule → Bool
removes name rule = states name (removed_name rule)

position-same : (name : List ℕ) (rules : List Rule)
    → position_or_len (states name) (map removed_name rules) ≡ position_or_len (removes name) rules
position-same name [] = refl
position-same name (r ∷ rs) =
    ap (λ n. cond (not (removes name r)) (1 + n) 0) (position-same name rs)

step-by : {X : Type 0} (b : Bool) (x : X) (xs : List X) (n : ℕ) (rest : Option X)
    → rest ≡ slice_get xs n → cond b (Some x) rest ≡ slice_get (x ∷ xs) (cond (not b) (1 + n) 0)
step-by true x xs n rest is = refl
step-by false x xs n rest is =
    let one : 1 + n ≡ suc n = omega arith in is ∙ sym (ap (slice_get (x ∷ xs)) one)

found-at : {X : Type 0} (p : X → Bool) (xs : List X)
    → find p xs ≡ slice_get xs (position_or_len p xs)
found-at p [] = refl
found-at p (x ∷ xs) = step-by (p x) x xs (position_or_len p xs) (find p xs) (found-at p xs)

-- The rule at the place that the table has for a name, if there is one.
abbrev pub command_at : List Rule → ℕ → Option (List ℕ)
command_at rules i = option_and_then removing_command (slice_get rules i)

by-range : (rules : List Rule) (q : ℕ)
    → option_and_then (command_at rules) (cond (nat_lt q (length rules)) (Some q) None)
    ≡ option_and_then removing_command (slice_get rules q)
by-range rules q =
    elim (cases_Bool (nat_lt q (length rules))) [
      | inl inside ↦ ap (λ b. option_and_then (command_at rules) (cond b (Some q) None)) inside
      | inr over ↦
          let le : length rules ≤ q = grind (arith, nat_tests) in
          ap (λ b. option_and_then (command_at rules) (cond b (Some q) None)) over
          ∙ sym (ap (option_and_then removing_command) (past rules q le))
    ]

pub command-is : (rules : List Rule) (t : Table) → IsTableOf t (map removed_name rules)
    → (name : List ℕ)
    → option_and_then (command_at rules) (place_of t name) ≡ remove_command rules name
command-is rules t is name =
    let q = position_or_len (states name) (map removed_name rules) in
    ap (option_and_then (command_at rules)) (is.places name)
    ∙ ap (λ n. option_and_then (command_at rules) (cond (nat_lt q n) (Some q) None))
    (length-map rules removed_name)
    ∙ by-range rules q
    ∙ ap (λ n. option_and_then removing_command (slice_get rules n)) (position-same name rules)
    ∙ ap (option_and_then removing_command) (sym (found-at (removes name) rules))

pub by-place : (rules : List Rule) (o : Option ℕ)
    → option_and_then removing_command (option_and_then (slice_get rules) o)
    ≡ option_and_then (command_at rules) o
by-place rules None = refl
by-place rules (Some i) = refl
