-- Numbers below limits.
use Rattle.std.proofs.Common.{◌≡◌, ◌≤◌, ◌<◌, ◌∙◌, ◌+◌, ◌*◌, ℕ, true, List, Option, Some, None, refl}
use Rattle.std.proofs.Common.{sym, arith, length, take, get_or, true≢false, inl, inr}
use Rattle.std.proofs.lemmas.Bool.{cases_Bool, ltb-false, ltb-true, le-ltb, lt-ltb}
use Rattle.std.proofs.lemmas.Bool.{true_from_ne_false}
use Rattle.std.proofs.lemmas.Int.Digits.{digits_value_more}
use Rattle.std.proofs.lemmas.List.Folds.{list_all_at}
use Rattle.std.proofs.lemmas.Str.Parse.{digits_value-take-le}
use Rattle.std.specs.Prelude.{nat_lt}
use Rattle.std.specs.Char.{is_digit, digit_value}
use Rattle.std.specs.List.{list_all}
use Rattle.std.specs.Str.Parse.{digits_value}
use Rattle.param_apply.specs.Numbers.{below}

-- A number that is below a limit, and one that isn't.
pub below-in : (limit n : ℕ) → n < limit → below limit (Some n) ≡ Some n
below-in limit n less = rw (lt-ltb n limit less) refl

pub below-out : (limit n : ℕ) → limit ≤ n → below limit (Some n) ≡ None
below-out limit n past = rw (le-ltb n limit past) refl

-- The lower of two limits decides.
pub below_twice : (a b : ℕ) (o : Option ℕ) → a ≤ b → below a (below b o) ≡ below a o
below_twice a b None le = refl
below_twice a b (Some n) le =
    elim (cases_Bool (nat_lt n b)) [
      | inl less ↦ rw less refl
      | inr past ↦ let out : b ≤ n
          = ltb-false n b past in rw past (sym (below-out a n (omega arith)))
    ]

-- A number below a limit.
pub below-some : (limit : ℕ) (o : Option ℕ) (n : ℕ) → below limit o ≡ Some n → n < limit
below-some limit None n is = cc
below-some limit (Some m) n is =
    elim (cases_Bool (nat_lt m limit)) [
      | inl less ↦ let same : Some m ≡ Some n
          = rw less at is in let small : m < limit
          = ltb-true m limit less in let e : m ≡ n
          = cc in omega arith
      | inr past ↦ let none : None ≡ Some n = rw past at is in absurd (cc)
    ]

-- A digit of a tested text.
pub digit-tested : (radix : ℕ) (ds : List ℕ) (i : ℕ) → i < length ds
    → list_all (λ b. is_digit b radix) ds ≡ true → digit_value (get_or ds i 0) < radix
digit-tested radix ds i within tested =
    ltb-true _ _ (true_from_ne_false (is_digit (get_or ds i 0) radix)
    (λ no. true≢false (sym tested ∙ list_all_at (λ b. is_digit b radix) ds i 0 within no)))

-- One digit more.
pub digits_value-next : (radix : ℕ) (ds : List ℕ) (i number value : ℕ) → i < length ds
    → number ≡ digits_value radix (take i ds) → value ≡ digit_value (get_or ds i 0)
    → number * radix + value ≡ digits_value radix (take (i + 1) ds)
digits_value-next radix ds i number value within before here =
    rw (before, here) (sym (digits_value_more radix ds i within))

-- The first digits are no more than all.
pub digits_value-part : (radix : ℕ) (ds : List ℕ) (i number : ℕ) → 1 ≤ radix
    → number ≡ digits_value radix (take i ds) → number ≤ digits_value radix ds
digits_value-part radix ds i number some is = rw is (digits_value-take-le radix ds i some)
