-- Numbers in digits of a radix, of at most 64 bits.
use Rattle.std.proofs.Common.{◌≡◌, ◌∙◌, sym, true≢false, ℕ, ◌+◌, ◌*◌, ◌<◌, ◌≤◌, ◌^◌, List, [], ◌∷◌}
use Rattle.std.proofs.Common.{true, length, take, get_or, arith}
use Rattle.std.proofs.lemmas.Bool.{ltb-true, and_parts, true_from_ne_false}
use Rattle.std.proofs.lemmas.Int.Digits.{digits_value-lt, digits_value_more}
use Rattle.std.proofs.lemmas.List.Folds.{list_all_at}
use Rattle.std.proofs.lemmas.Str.Parse.{digits_value-take-le}
use Rattle.std.specs.Char.{is_digit, digit_value}
use Rattle.std.specs.List.{list_all}
use Rattle.std.specs.Str.Parse.{AllDigits, digits_value}

pub AllDigits-tested : (radix : ℕ) (ds : List ℕ) → list_all (λ b. is_digit b radix) ds ≡ true
    → AllDigits radix ds
AllDigits-tested radix [] tested = tt
AllDigits-tested radix (d ∷ ds) tested =
    let parts = and_parts (is_digit d radix) (list_all (λ b. is_digit b radix) ds) tested in
    (ltb-true (digit_value d) radix parts.0, AllDigits-tested radix ds parts.1)

-- the number of the first digits
pub digits_value-small : (radix : ℕ) (ds : List ℕ) (i : ℕ) → 0 < radix
    → radix ^ length ds ≤ 2 ^ 64 → list_all (λ b. is_digit b radix) ds ≡ true
    → digits_value radix (take i ds) < 2 ^ 64
digits_value-small radix ds i some few tested =
    let below = digits_value-take-le radix ds i some in
    let all = digits_value-lt radix ds (AllDigits-tested radix ds tested) in
    omega (arith, below, all, few)

pub digit-tested : (radix : ℕ) (ds : List ℕ) (i : ℕ) → i < length ds
    → list_all (λ b. is_digit b radix) ds ≡ true → is_digit (get_or ds i 0) radix ≡ true
digit-tested radix ds i within tested =
    true_from_ne_false (is_digit (get_or ds i 0) radix)
    (λ no. true≢false (sym tested ∙ list_all_at (λ b. is_digit b radix) ds i 0 within no))

-- one digit more
pub digits_value-next : (radix : ℕ) (ds : List ℕ) (i number value : ℕ) → i < length ds
    → number ≡ digits_value radix (take i ds) → value ≡ digit_value (get_or ds i 0)
    → number * radix + value ≡ digits_value radix (take (i + 1) ds)
digits_value-next radix ds i number value within before here =
    rw (before, here) (sym (digits_value_more radix ds i within))
