-- The stages of the machine that a kernel's tables make.
use Rattle.std.proofs.Common.{◌≡◌, ℕ, suc, ◌<◌, Bool, true, false, not, List, [], ◌∷◌, length}
use Rattle.std.proofs.Common.{get_or, cond, refl, sym, ap, subst, ◌∙◌, arith, inl, inr}
use Rattle.std.proofs.Props.{props}
use Rattle.std.specs.Prelude.{Option, Some, None, option_map, Result, Ok, Err, ◌⊎◌, filter}
use Rattle.std.specs.Str.{bytes_eq}
use Rattle.km_names.specs.Statements.{unless_fault}
use Rattle.kernel_exports.specs.declared.fault.KernelFault.{KernelFault}
use Rattle.kernel_exports.specs.declared.fault.KernelFault.TheVariants.{BadKernelLine, Memory}
use Rattle.kernel_exports.specs.declared.kernel.Kernel.{Kernel}
use Rattle.kernel_exports.specs.declared.kernel.KernelExport.{KernelExport}
use Rattle.kernel_exports.specs.KernelTable.{IsTable, first_of_each, exports_of_map}
use Rattle.kernel_exports.specs.KernelTable.{exports_with_addresses, with_addresses}
use Rattle.kernel_exports.specs.MapLines.{MapSymbol, map_line}
use Rattle.kernel_exports.specs.TableLines.{refused_line, stated}
use Rattle.kernel_exports.proofs.NameSteps.{bytes-same}
use Rattle.module_region.specs.declared.region.Region.{Region}
use Rattle.load_fault.specs.declared.fault.MachineFault.{MachineFault}
use Rattle.load_fault.specs.declared.fault.MachineFault.TheVariants as faults
use Rattle.model_loader.specs.Machine.{Machine, new_machine}
use Rattle.km_course.specs.Course.{Stage, ◌>>=◌, given}
use Rattle.km_course.specs.Course.Outcome.{value, end}
use Rattle.km_course.specs.Follows.{Answers}
use Rattle.km_course.specs.declared.end.End.TheVariants.{Refused}
use Rattle.km_course.specs.declared.refusal.Refusal.TheVariants.{KernelWithoutAddress}
use Rattle.km_course.specs.declared.stop.Stop.{Stop}
use Rattle.stages_files.specs.KernelTable.{Table, table_of, table_outcome, table_stop}
use Rattle.stages_files.specs.KernelTable.{reads_symvers}
use Rattle.stages_loads.specs.Tables.{kernel_with, machine_outcome, table_of_map, unplaced}

-- the stage after the Module.symvers was read
abbrev pub both_added : List ℕ → List ℕ → Table → Stage Table
both_added map bytes exported =
    given (table_outcome map exported.known (exports_with_addresses bytes exported.exports))

-- the stage after the System.map was understood
abbrev pub both_understood : List ℕ → List ℕ → List ℕ → Table → Stage Table
both_understood map symvers bytes alone = reads_symvers symvers >>= both_added map bytes

-- the stage after the System.map was read
abbrev pub both_read : List ℕ → List ℕ → List ℕ → Stage Table
both_read map symvers bytes =
    given (table_outcome map true (exports_of_map bytes)) >>= both_understood map symvers bytes

-- the stage after the tables were read
abbrev pub made : Region → Table → Stage Machine
made region table = given (machine_outcome table region (unplaced table.exports))

-- a System.map that was understood
pub mapped : (file bytes : List ℕ) (symbols : List MapSymbol) → symbols ≡ stated map_line bytes
    → refused_line map_line bytes ≡ None
    → table_outcome file true (exports_of_map bytes) ≡ value (table_of_map symbols)
unfolding table_outcome exports_of_map
mapped file bytes symbols is passed =
    ap (λ refused. table_outcome file true
    (unless_fault refused (table_of_map (stated map_line bytes)).exports)) passed
    ∙ ap (λ ss. value (table_of_map ss)) (sym is)

line-is : (refused : Option ℕ) (line : ℕ)
    → option_map BadKernelLine refused ≡ Some (BadKernelLine line) → refused ≡ Some line
line-is None line is = cc
line-is (Some number) line is =
    let same : number ≡ line = cc in ap Some same

-- a fault of a System.map is its first line that isn't understood, or out of memory
pub mapped_not : (file bytes : List ℕ) (fault : KernelFault) (stop : Stop)
    → (fault ≡ Memory) ⊎ (option_map BadKernelLine (refused_line map_line bytes) ≡ Some fault)
    → stop ≡ table_stop file fault
    → Answers table_of_map (table_outcome file true (exports_of_map bytes)) (Err stop)
unfolding table_outcome exports_of_map
mapped_not file bytes Memory stop cause is =
    subst (λ s. Answers table_of_map (table_outcome file true (exports_of_map bytes)) (Err s))
    (sym is)
    tt
mapped_not file bytes (BadKernelLine line) stop (inl m) is = cc
mapped_not file bytes (BadKernelLine line) stop (inr f) is =
    subst (λ s. Answers table_of_map (table_outcome file true (exports_of_map bytes)) (Err s))
    (sym is)
    (ap (λ refused. table_outcome file true
    (unless_fault refused (table_of_map (stated map_line bytes)).exports))
    (line-is (refused_line map_line bytes) line f))

-- a kernel with the addresses of a System.map that was understood
pub addressed : (file bytes : List ℕ) (symbols : List MapSymbol) (exported kernel : Kernel)
    → symbols ≡ stated map_line bytes → refused_line map_line bytes ≡ None
    → kernel.known ≡ exported.known → kernel.exports ≡ with_addresses symbols exported.exports
    → table_outcome file exported.known (exports_with_addresses bytes exported.exports)
    ≡ value (table_of kernel)
unfolding table_outcome exports_with_addresses
addressed file bytes symbols exported kernel is passed known exports =
    ap (λ refused. table_outcome file exported.known
    (unless_fault refused (with_addresses (stated map_line bytes) exported.exports))) passed
    ∙ ap (λ es. value (record { known = exported.known; exports = es }))
    (ap (λ ss. with_addresses ss exported.exports) (sym is) ∙ sym exports)
    ∙ ap (λ k. value (record { known = k; exports = kernel.exports })) (sym known)

-- where no other has a name, none is left out
none-out : (e : KernelExport) (es : List KernelExport)
    → ((k : ℕ) (d : KernelExport) → k < length es → e.name ≡ (get_or es k d).name → ⊥)
    → filter (λ (o : KernelExport). not (bytes_eq o.name e.name)) es ≡ es
none-out e [] apart = refl
none-out e (o ∷ es) apart =
    go (none-out e es (λ k d within. apart (suc k) d (omega arith))) (bytes_eq o.name e.name) refl
  where
    passes : KernelExport → Bool
    passes = λ other. not (bytes_eq other.name e.name)

    go : filter passes es ≡ es → (b : Bool) → bytes_eq o.name e.name ≡ b
        → filter passes (o ∷ es) ≡ o ∷ es
    go later true is = absurd (apart 0 o (omega arith) (sym (bytes-same o.name e.name is)))
    go later false is
        = ap (λ b. cond (not b) (o ∷ filter passes es) (filter passes es)) is
        ∙ ap (λ l. o ∷ l) later

-- the exports of a kernel, each of another name, are the first ones of their names
pub firsts-same : (es : List KernelExport) → IsTable es → first_of_each es ≡ es
firsts-same [] apart = refl
firsts-same (e ∷ es) apart =
    let rest : first_of_each es ≡ es
    = firsts-same es
    (record {
      distinct
          = λ i j d before within. apart.distinct (suc i) (suc j) d (omega arith)
          (omega arith);
    }) in
    ap (λ l. e ∷ filter (λ (o : KernelExport). not (bytes_eq o.name e.name)) l) rest
    ∙ ap (λ l. e ∷ l)
    (none-out e es (λ k d within. apart.distinct 0 (suc k) d (omega arith) (omega arith)))

IsTable-prop : (es : List KernelExport) → IsProp (IsTable es)
IsTable-prop es = Prim.hlevel props

-- a kernel is that of its table
pub kernel_with-same : (kernel : Kernel) → kernel_with (table_of kernel) ≡ kernel
unfolding kernel_with
kernel_with-same kernel =
    by_exports _ kernel.exports (firsts-same kernel.exports kernel.table) _ kernel.table
  where
    with_exports : (es : List KernelExport) → IsTable es → Kernel
    with_exports es apart = record { known = kernel.known; exports = es; table = apart }

    by_exports : (a b : List KernelExport) → a ≡ b → (s : IsTable a) (t : IsTable b)
        → with_exports a s ≡ with_exports b t
    by_exports a b is s t
        = subst (λ es. (u : IsTable es) → with_exports a s ≡ with_exports es u) is
        (λ u. ap (with_exports a) (IsTable-prop a s u)) t

-- what the fault of a kernel is made of
abbrev without_address : KernelExport → MachineFault
without_address e = faults.KernelWithoutAddress e.name

-- the machine of a kernel whose exports have addresses
pub made_ok : (kernel : Kernel) (region : Region) (left : Option KernelExport) (machine : Machine)
    → option_map without_address left ≡ None → machine ≡ new_machine kernel region
    → machine_outcome (table_of kernel) region left ≡ value machine
unfolding machine_outcome
made_ok kernel region None machine none is =
    ap (λ k. value (new_machine k region)) (kernel_with-same kernel) ∙ ap value (sym is)
made_ok kernel region (Some e) machine none is = absurd (cc)

-- the first export that has none refuses it
pub made_not : (table : Table) (region : Region) (left : Option KernelExport) (found : MachineFault)
    (name : List ℕ)
    → found ≡ faults.KernelWithoutAddress name
    → (found ≡ faults.Memory) ⊎ (option_map without_address left ≡ Some found)
    → machine_outcome table region left ≡ end (Refused (KernelWithoutAddress name))
unfolding machine_outcome
made_not table region left found name is (inl m) = absurd (differ (sym is ∙ m))
  where
    differ : faults.KernelWithoutAddress name ≡ faults.Memory → ⊥
    differ e = cc
made_not table region None found name is (inr f) = absurd (cc)
made_not table region (Some e) found name is (inr f) =
    ap (λ n. end (Refused (KernelWithoutAddress n))) same
  where
    same : e.name ≡ name
    same = cc
