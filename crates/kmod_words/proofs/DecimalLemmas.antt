-- Decimal numbers as std parses them.
use Rattle.std.proofs.Common.{◌≡◌, ℕ, ◌<◌, ◌≤◌, ◌^◌, Bool, true, false, not, ◌&&◌, List, [], ◌∷◌}
use Rattle.std.proofs.Common.{length, Some, None, Result, Ok, Err, eqb, leb, ltb, refl, sym, ap}
use Rattle.std.proofs.Common.{◌∙◌, arith, if◌then◌else◌}
use Rattle.std.proofs.lemmas.Bool.{and_parts, eqb-false, ltb-true}
use Rattle.std.proofs.lemmas.Bool.Decides.{nat_tests}
use Rattle.std.proofs.lemmas.Str.Parse.{numerals_by_value, tells_digits, parse_digits}
use Rattle.std.specs.Char.{is_digit, digit_value}
use Rattle.std.specs.List.{list_all}
use Rattle.std.specs.Result.{OkIff, result_ok}
use Rattle.std.specs.Str.Parse.{AllDigits, ParsesUnsigned, digits_value}
use Rattle.km_names.proofs.Digits.{AllDigits-tested}
use Rattle.kmod_words.specs.Numbers.{decimal}

within : (n most : ℕ) → n ≤ most → leb n most ≡ true
within n most h = grind (arith, nat_tests)

below : (n most : ℕ) → n < most → ltb n most ≡ true
below n most h = grind (arith, nat_tests)

past : (text : List ℕ) → eqb (length text) 0 ≡ false → (b : Bool)
    → ltb (digits_value 10 text) (2 ^ 64) ≡ b
    → ((0 < length text) × (digits_value 10 text < 2 ^ 64) → ⊥)
    → ltb (digits_value 10 text) (2 ^ 64) ≡ false
past text some true is h =
    let apart = eqb-false (length text) 0 some in
    let nonempty : 0 < length text = omega (arith, apart) in
    absurd (h (nonempty, ltb-true (digits_value 10 text) (2 ^ 64) is))
past text some false is h = is

-- the number of digits, few enough, if it fits
tested : (most : ℕ) (text : List ℕ) → eqb (length text) 0 ≡ false → length text ≤ most
    → list_all (λ b. is_digit b 10) text ≡ true → (fits : Bool)
    → ltb (digits_value 10 text) (2 ^ 64) ≡ fits
    → decimal most text ≡ (if fits then Some (digits_value 10 text) else None)
unfolding decimal
tested most text some few digits fits is =
    ap (λ b. if not b
    && leb (length text) most
    && list_all (λ b. is_digit b 10) text
    && ltb (digits_value 10 text) (2 ^ 64)
    then Some (digits_value 10 text)
    else None) some
    ∙ ap (λ b. if b && list_all (λ b. is_digit b 10) text && ltb (digits_value 10 text) (2 ^ 64)
    then Some (digits_value 10 text)
    else None) (within (length text) most few)
    ∙ ap (λ b. if b && ltb (digits_value 10 text) (2 ^ 64)
    then Some (digits_value 10 text)
    else None) digits
    ∙ ap (λ b. if b then Some (digits_value 10 text) else None) is

-- what std makes of digits, few enough, is the number
pub decimal-parsed : {E : Type 0} (most : ℕ) (text : List ℕ) (r : Result ℕ E)
    → ParsesUnsigned 64 10 text r → eqb (length text) 0 ≡ false → length text ≤ most
    → list_all (λ b. is_digit b 10) text ≡ true → result_ok r ≡ decimal most text
decimal-parsed {E} most text r parsed some few digits =
    go r (parse_digits (numerals_by_value (AllDigits 10) tells_digits) 64 text r parsed
    (AllDigits-tested 10 text digits))
  where
    go : (r : Result ℕ E)
        → OkIff r ((0 < length text) × (digits_value 10 text < 2 ^ 64)) (digits_value 10 text)
        → result_ok r ≡ decimal most text
    go (Ok x) h
        = ap Some h.1
        ∙ sym (tested most text some few digits true
        (below (digits_value 10 text) (2 ^ 64) h.0.1))
    go (Err e) h
        = sym (tested most text some few digits false
        (past text some (ltb (digits_value 10 text) (2 ^ 64)) refl h))
