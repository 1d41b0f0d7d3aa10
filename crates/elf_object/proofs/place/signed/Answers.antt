use Rattle.std.proofs.Common.{◌≡◌, ℕ, ◌^◌, ◌<◌, to_z, w64, refl, ap, ◌∙◌, arith, inl, inr}
use Rattle.std.proofs.lemmas.Bool.{cases_lt, le-ltb, lt-ltb}
use Rattle.std.proofs.lemmas.Int.{ints, of_z-to_z}
use Rattle.km_names.specs.Number.{signed}
use Rattle.elf_object.proofs.place.signed.Goals as goal

-- 64 bits as two's complement, below and above the sign
to_z-signed : (v : ℕ) → v < 2 ^ 64 → to_z w64 v ≡ signed v
unfolding signed
to_z-signed v fits =
    elim (cases_lt v (2 ^ 63)) [
      | inl below ↦ rw (lt-ltb v (2 ^ 63) below) refl
      | inr above ↦ rw (le-ltb v (2 ^ 63) above) (omega (arith, ints))
    ]

pub returns : goal.returns
returns c =
    rw c.cast_signed.ensures
    (ap (to_z w64) (of_z-to_z w64 c.args.bits (omega arith))
    ∙ to_z-signed c.args.bits (omega arith))
