-- How a call is seen whose value is read in another way.
use Rattle.std.proofs.Common.{◌≡◌, sym, ap, subst, ◌∙◌}
use Rattle.std.specs.Prelude.{Result, Ok, Err}
use Rattle.km_course.specs.Course.{Stage}
use Rattle.km_course.specs.World.{World}
use Rattle.km_course.specs.Follows.{Follows}
use Rattle.km_course.specs.declared.stop.Stop.{Stop}

-- a call that stopped
pub stopped-in : {T U X : Type 0} {look : U → X} {stage : Stage X} {old new : World} {e d : Stop}
    (view : T → X) (r : Result T Stop)
    → r ≡ Err d → d ≡ e → Follows look stage old new (Err e) → Follows view stage old new r
stopped-in {T} {U} {X} {look} {stage} {old} {new} {e} {d} view r is same f =
    subst (λ s. Follows view stage old new s) (sym (is ∙ ap Err same))
    (record { keeps = f.keeps; counts = f.counts; comes = f.comes; told = f.told })

-- a call that gave a value
pub given-in : {T U : Type 0} {stage : Stage U} {old new : World} (view : T → U) (y : T)
    → Follows (λ (x : U). x) stage old new (Ok (view y)) → Follows view stage old new (Ok y)
given-in view y f = record { keeps = f.keeps; counts = f.counts; comes = f.comes; told = f.told }
