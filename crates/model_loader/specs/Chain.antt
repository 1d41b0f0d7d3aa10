-- What is done to a machine, one thing after another.
use Rattle.std.specs.Prelude.{Result, Ok, Err}
use Rattle.model_loader.specs.Machine.{Machine}

-- The next result, unless a module was refused.
abbrev pub unless_refused : {F : Type 0} → (Machine → Result Machine F) → Result Machine F
    → Result Machine F
unless_refused next (Ok machine) = next machine
unless_refused next (Err fault) = Err fault
