-- What a fault says besides being out of memory, replaced by what follows from it.
use Rattle.std.proofs.Common.{inl, inr}
use Rattle.std.specs.Prelude.{◌⊎◌}

pub right : {A B C : Type 0} → (B → C) → A ⊎ B → A ⊎ C
right f (inl a) = inl a
right f (inr b) = inr (f b)
