-- The stages of a kernel's table.
use Rattle.std.proofs.Common.{◌≡◌, ℕ, true, false, List, [], sym, ap, subst, ◌∙◌, inl, inr}
use Rattle.std.specs.Prelude.{Option, Some, None, option_map, Result, Ok, Err, ◌⊎◌}
use Rattle.std.specs.Result.{result_err}
use Rattle.kernel_exports.specs.declared.fault.KernelFault.{KernelFault}
use Rattle.kernel_exports.specs.declared.fault.KernelFault.TheVariants.{BadKernelLine, Memory}
use Rattle.kernel_exports.specs.declared.kernel.Kernel.{Kernel}
use Rattle.kernel_exports.specs.declared.kernel.KernelExport.{KernelExport}
use Rattle.kernel_exports.specs.KernelTable.{exports_of_map, exports_of_symvers}
use Rattle.km_course.specs.Course.{Stage, given, gives}
use Rattle.km_course.specs.Course.Outcome.{value, end}
use Rattle.km_course.specs.World.{World}
use Rattle.km_course.specs.Follows.{Answers, Follows}
use Rattle.km_course.specs.declared.end.End.TheVariants.{Refused}
use Rattle.km_course.specs.declared.refusal.Refusal.TheVariants.{BadLine}
use Rattle.km_course.specs.declared.stop.Stop.{Stop}
use Rattle.km_course.proofs.Steps.{gave}
use Rattle.stages_files.specs.KernelTable.{Table, table_of, table_outcome, table_stop}
use Rattle.stages_files.specs.KernelTable.{unknown_table, reads_map, reads_symvers, reads_kernel}

-- the stages after the bytes of a table were read
abbrev pub map_read : List ℕ → List ℕ → Stage Table
map_read file bytes = given (table_outcome file true (exports_of_map bytes))

abbrev pub symvers_read : List ℕ → List ℕ → Stage Table
symvers_read file bytes = given (table_outcome file true (exports_of_symvers bytes))

-- a table that was read
pub tabled : (file : List ℕ) (stated : Result (List KernelExport) ℕ) (kernel : Kernel)
    → kernel.known ≡ true → stated ≡ Ok kernel.exports
    → table_outcome file true stated ≡ value (table_of kernel)
unfolding table_outcome
tabled file stated kernel known is =
    ap (table_outcome file true) is
    ∙ ap (λ k. value (record { known = k; exports = kernel.exports })) (sym known)

-- a fault of a table is its first line that isn't understood, or out of memory
pub tabled_not : (file : List ℕ) (stated : Result (List KernelExport) ℕ) (fault : KernelFault)
    (stop : Stop)
    → (fault ≡ Memory) ⊎ (option_map BadKernelLine (result_err stated) ≡ Some fault)
    → stop ≡ table_stop file fault → Answers table_of (table_outcome file true stated) (Err stop)
unfolding table_outcome
tabled_not file stated Memory stop cause is =
    subst (λ s. Answers table_of (table_outcome file true stated) (Err s)) (sym is) tt
tabled_not file stated (BadKernelLine line) stop (inl m) is = cc
tabled_not file (Ok exports) (BadKernelLine line) stop (inr f) is = cc
tabled_not file (Err number) (BadKernelLine line) stop (inr f) is =
    let same : number ≡ line = cc in
    subst (λ s. Answers table_of (table_outcome file true (Err number)) (Err s)) (sym is)
    (ap (λ n. end (Refused (BadLine file n))) same)

-- what the choice of a file comes to
pub by_map : (map symvers : Option (List ℕ)) (file : List ℕ) (old new : World)
    (r : Result Kernel Stop)
    → map ≡ Some file → Follows table_of (reads_map file) old new r
    → Follows table_of (reads_kernel map symvers) old new r
by_map map symvers file old new r is f =
    subst (λ given. Follows table_of (reads_kernel given symvers) old new r) (sym is) f

pub by_symvers : (map symvers : Option (List ℕ)) (file : List ℕ) (old new : World)
    (r : Result Kernel Stop)
    → map ≡ None → symvers ≡ Some file → Follows table_of (reads_symvers file) old new r
    → Follows table_of (reads_kernel map symvers) old new r
by_symvers map symvers file old new r none is f =
    subst (λ given. Follows table_of (reads_kernel given symvers) old new r) (sym none)
    (subst (λ given. Follows table_of (reads_kernel None given) old new r) (sym is) f)

pub by_neither : (map symvers : Option (List ℕ)) (w : World) (kernel : Kernel) → map ≡ None
    → symvers ≡ None → kernel.known ≡ false → kernel.exports ≡ []
    → Follows table_of (reads_kernel map symvers) w w (Ok kernel)
by_neither map symvers w kernel none neither known exports =
    let same : table_of kernel ≡ unknown_table
    = ap (λ k. record { known = k; exports = kernel.exports }) known
    ∙ ap (λ es. record { known = false; exports = es }) exports in
    subst (λ given. Follows table_of (reads_kernel given symvers) w w (Ok kernel)) (sym none)
    (subst (λ given. Follows table_of (reads_kernel None given) w w (Ok kernel)) (sym neither)
    (subst (λ t. Follows table_of (gives t) w w (Ok kernel)) same (gave table_of w kernel)))
