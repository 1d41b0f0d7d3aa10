-- Counts of the places that change the bytes of a section.
use Rattle.std.proofs.Common.{◌≡◌, ℕ, sym, ◌∙◌}
use Rattle.elf_object.specs.declared.changed.ChangedBytes.{ChangedBytes}
use Rattle.elf_object.specs.Overlap.{HasChanged}

-- the same counts
pub HasChanged-same : (c : ChangedBytes) (f g : ℕ → ℕ) → ((x : ℕ) → f x ≡ g x) → HasChanged c f
    → HasChanged c g
HasChanged-same c f g same has = record {
  marked = λ x less is. rw (← same x) (has.marked x less is);
  other = λ x less is. sym (same x) ∙ has.other x less is;
  past = λ x far. sym (same x) ∙ has.past x far;
  bounded = has.bounded;
  once = λ x less. rw (← same x) (has.once x less);
  twice = λ less. rw (← same c.shared) (has.twice less);
  within = has.within;
}
