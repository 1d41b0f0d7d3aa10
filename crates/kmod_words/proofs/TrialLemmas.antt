-- The range of the number of modules that a trial has.
use Rattle.std.proofs.Common.{◌≡◌, ℕ, ◌≤◌, ◌&&◌, Bool, true, false, List, Option, Some, None, refl}
use Rattle.std.proofs.Common.{leb, codes, if◌then◌else◌}
use Rattle.std.specs.Prelude.{IfSome, nat_le, option_and_then}
use Rattle.std.proofs.lemmas.Bool.{and_parts, leb-true}
use Rattle.clap.specs.Words.{Row}
use Rattle.kmod_words.specs.Trial.{trial_asked, number_of}
use Rattle.kmod_words.specs.declared.trial.TrialWords.{TrialWords}

-- the words of a seed and a number, if the number is in its range
abbrev in_range : ℕ → ℕ → Option TrialWords
in_range seed count =
    if nat_le 1 count && nat_le count 2000
    then Some (record { seed = seed; count = count })
    else None

abbrev IsInRange : TrialWords → Type 0
IsInRange words = (1 ≤ words.count) × (words.count ≤ 2000)

-- what is asked for is in that range
pub asked-range : (found : Option (List Row))
    → IfSome (option_and_then trial_asked found) (λ words. (1 ≤ words.count) × (words.count ≤ 2000))
unfolding trial_asked
asked-range None = tt
asked-range (Some rows) =
    by_numbers (number_of 20 (codes "seed") rows) (number_of 4 (codes "count") rows)
  where
    tested : (seed count : ℕ) (b : Bool) → nat_le 1 count && nat_le count 2000 ≡ b
        → IfSome (if b then Some (record { seed = seed; count = count }) else None) IsInRange
    tested seed count true is
        = let parts = and_parts (leb 1 count) (leb count 2000) is in
        (leb-true 1 count parts.0, leb-true count 2000 parts.1)
    tested seed count false is = tt

    by_numbers : (seed count : Option ℕ)
        → IfSome (option_and_then (λ seed. option_and_then (in_range seed) count) seed) IsInRange
    by_numbers None count = tt
    by_numbers (Some seed) None = tt
    by_numbers (Some seed) (Some count) = tested seed count _ refl
