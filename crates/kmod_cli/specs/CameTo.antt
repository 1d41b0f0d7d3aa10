-- What a call did that carries out a course over files and outputs with known contents: all of the
-- course, or a first part of it.
use Rattle.std.specs.Prelude.{◌≡◌, ◌⊎◌, ℕ, Option, true}
use Rattle.km_course.specs.Carries.{HasRoomFor}
use Rattle.km_course.specs.World.{World, Shown, Tells}

-- What the call resulted in. Either its status is the expected one, and files and outputs have
-- these contents, however many calls on files were made. Or it was cut short, and this holds of
-- what it left.
pub record CameTo (expected : ℕ) (told : Shown) (IsPart : World → Type 0) (old new : World)
    (status : ℕ) : Type 0 where
  -- it is this status, or a call on files or outputs failed, or memory ran out
  pub ended : (status ≡ expected) ⊎ (status ≡ 3) ⊎ (status ≡ 4)
  pub whole : status ≡ expected → (calls : Option ℕ) × Tells new (record told { calls = calls })
  pub part : (status ≡ 3) ⊎ (status ≡ 4) → IsPart new
  -- if the files are sure, and the outputs have the capacity for all of it: this status, or out of
  -- memory
  pub complete : old.files.sure ≡ true → HasRoomFor old told → (status ≡ expected) ⊎ (status ≡ 4)
