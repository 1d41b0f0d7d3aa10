-- The outcome of files that state something.
use Rattle.std.proofs.Common.{◌≡◌, ap, sym, subst, ◌∙◌, inl, inr}
use Rattle.std.specs.Prelude.{Some, option_map, Result, Ok, Err, ◌⊎◌}
use Rattle.std.specs.Result.{result_err}
use Rattle.km_names.specs.Statements.{LinePlace, line_fault}
use Rattle.km_names.specs.declared.conf.ConfFault.{ConfFault}
use Rattle.km_names.specs.declared.conf.ConfFault.TheVariants as faults
use Rattle.km_course.specs.Course.Outcome.{value, end}
use Rattle.km_course.specs.Follows.{Answers}
use Rattle.km_course.specs.declared.end.End.TheVariants.{Refused}
use Rattle.km_course.specs.declared.refusal.Refusal.TheVariants.{BadLine}
use Rattle.km_course.specs.declared.stop.Stop.{Stop}
use Rattle.stages_files.specs.Configuration.{stated_outcome, stop_of}

-- what was stated
pub stated_ok : {X : Type 0} (o : Result X LinePlace) (x : X) → o ≡ Ok x
    → stated_outcome o ≡ value x
stated_ok o x is = ap stated_outcome is

-- a fault is out of memory, or the first line that isn't understood
pub stated_fault : {X : Type 0} (o : Result X LinePlace) (fault : ConfFault) (stop : Stop)
    → stop ≡ stop_of fault
    → (fault ≡ faults.Memory) ⊎ (option_map line_fault (result_err o) ≡ Some fault)
    → Answers (λ (x : X). x) (stated_outcome o) (Err stop)
stated_fault {X} o faults.Memory stop is why =
    subst (λ s. Answers (λ (x : X). x) (stated_outcome o) (Err s)) (sym is) tt
stated_fault {X} o (faults.BadLine file number) stop is (inl wanting) = absurd (cc)
stated_fault {X} (Ok x) (faults.BadLine file number) stop is (inr bad) = cc
stated_fault {X} (Err place) (faults.BadLine file number) stop is (inr bad) =
    let at_file : place.file ≡ file = cc in
    let at_number : place.number ≡ number = cc in
    subst (λ s. Answers (λ (x : X). x) (stated_outcome (Err place)) (Err s)) (sym is)
    (ap (λ f. end (Refused (BadLine f place.number))) at_file
    ∙ ap (λ n. end (Refused (BadLine file n))) at_number)
