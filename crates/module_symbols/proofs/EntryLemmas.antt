-- The entries of a section `__versions`.
use Rattle.std.proofs.Common.{◌≡◌, ℕ, ◌/◌, ◌%◌, ◌<◌, ◌==◌, true, false, Bool, not, Bor, List}
use Rattle.std.proofs.Common.{length, Option, Some, None, is_none, is_some, option_copied, refl}
use Rattle.module_symbols.specs.Versions.{are_bad_entries, entry_name}
use Rattle.module_symbols.proofs.NumberLemmas.{no_number, or-true, some_number}

-- the name that was looked for isn't there
pub nameless : (found : Option (Bor (List ℕ))) (name : Option (List ℕ)) (none : Bool)
    → option_copied found ≡ name → is_some found ≡ not none → none ≡ true → is_none name ≡ true
nameless None name none is some missing = rw (← is) refl
nameless (Some x) name none is some missing =
    let wrong : true ≡ false = rw missing at some in cc

-- an entry without a name
pub are_bad_entries-true : (bytes : List ℕ) (k : ℕ) → k < length bytes / 64
    → is_none (entry_name bytes k) ≡ true → are_bad_entries bytes ≡ true
unfolding are_bad_entries
are_bad_entries-true bytes k less nameless =
    rw (some_number (λ j. is_none (entry_name bytes j)) (length bytes / 64) k less nameless)
    (or-true (not (length bytes % 64 == 0)))

-- whole entries with names
pub are_bad_entries-false : (bytes : List ℕ) → length bytes % 64 ≡ 0
    → ((k : ℕ) → k < length bytes / 64 → is_none (entry_name bytes k) ≡ false)
    → are_bad_entries bytes ≡ false
unfolding are_bad_entries
are_bad_entries-false bytes whole named =
    rw (whole, no_number (λ j. is_none (entry_name bytes j)) (length bytes / 64) named) refl
