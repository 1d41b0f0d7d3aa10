-- Aliases without `-` and brackets.
use Rattle.std.proofs.Common.{◌≡◌, ℕ, ◌≤◌, Bool, true, false, cond, nat_eq, List, [], ◌∷◌, ◌++◌}
use Rattle.std.proofs.Common.{length, Option, Some, None, refl, sym, ap, ◌∙◌, arith}
use Rattle.std.specs.Prelude.{◌&&◌, ◌||◌, not, IsTrue}
use Rattle.std.specs.List.{list_any}
use Rattle.std.specs.Option.{option_map}
use Rattle.std.proofs.lemmas.Bool.{or_parts}
use Rattle.std.proofs.lemmas.List.{append-nil, at_drop_all}
use Rattle.km_names.specs.AliasForm.{normal_alias}
use Rattle.km_names.proofs.AliasRun.{normal_from, ends}

-- read from the left, such a text is written as it is
run : (text : List ℕ) → list_any (λ b. nat_eq b 45) text ≡ false
    → list_any (λ b. nat_eq b 91) text ≡ false → list_any (λ b. nat_eq b 93) text ≡ false
    → normal_from false text ≡ Some text
run [] dash left right = refl
run (b ∷ bs) dash left right =
    let step : Bool → Bool → Bool → Option (List ℕ) = λ closes hyphen opens.
    cond (closes && true) None
    (option_map (λ r. cond (hyphen && true) 95 b ∷ r) (normal_from (opens || false) bs)) in
    let no_dash = or_parts (nat_eq b 45) (list_any (λ b. nat_eq b 45) bs) dash in
    let no_left = or_parts (nat_eq b 91) (list_any (λ b. nat_eq b 91) bs) left in
    let no_right = or_parts (nat_eq b 93) (list_any (λ b. nat_eq b 93) bs) right in
    (λ i. step (no_right.0 i) (no_dash.0 i) (no_left.0 i))
    ∙ ap (option_map (λ r. b ∷ r)) (run bs no_dash.1 no_left.1 no_right.1)

-- such an alias is its own normal form
pub plain : (text : List ℕ) → list_any (λ b. nat_eq b 45) text ≡ false
    → list_any (λ b. nat_eq b 91) text ≡ false → list_any (λ b. nat_eq b 93) text ≡ false
    → normal_alias text ≡ Some text
plain text dash left right =
    let all : length text ≤ length text = omega arith in
    sym (ends text text (length text) false all
    (ap (option_map (λ r. text ++ r)) (at_drop_all (normal_from false) text (length text) all)
    ∙ ap Some (append-nil text)
    ∙ sym (run text dash left right)))

-- what is not true is false
pub no-more : (b : Bool) → IsTrue (not b) → b ≡ false
no-more true is = absurd (cc)
no-more false is = refl
