-- The tables of kernels that depmod and modprobe read of files of the same bytes.
use Rattle.std.proofs.Common.{◌≡◌, ◌∙◌, ℕ, List, None, sym, ap, subst, true}
use Rattle.std.specs.Prelude.{Option, Some, Result, Ok, Err}
use Rattle.std.specs.FinMap.{get}
use Rattle.outside_calls.specs.Contents.{Contents}
use Rattle.km_course.specs.Course.{Outcome, after, ◌>>=◌, given, reads}
use Rattle.km_course.specs.Course.Outcome.{value, end}
use Rattle.km_course.specs.declared.end.End.TheVariants.{NoFile}
use Rattle.kernel_exports.specs.declared.kernel.Kernel.{Kernel}
use Rattle.kernel_exports.specs.declared.kernel.KernelExport.{KernelExport}
use Rattle.provider_rel.specs.Faces.{kernel_of}
use Rattle.kernel_exports.specs.KernelTable.{exports_of_map, exports_of_symvers}
use Rattle.kernel_exports.specs.KernelTable.{exports_with_addresses}
use Rattle.module_region.specs.declared.region.Region.{Region}
use Rattle.model_loader.specs.Machine.{Machine, new_machine}
use Rattle.stages_files.specs.KernelTable.{Table, reads_kernel, reads_map, reads_symvers, table_of}
use Rattle.stages_files.specs.KernelTable.{table_outcome}
use Rattle.stages_loads.specs.Tables.{kernel_with, machine_outcome}
use Rattle.stages_loads.specs.Tables.{reads_addressed, reads_machine, unplaced}
use Rattle.stages_loads.proofs.KernelLemmas.{addressed-apart, kernel_with-exports}
use Rattle.stages_loads.proofs.TableSteps.{both_added, both_read, both_understood, kernel_with-same}
use Rattle.stages_loads.proofs.TableSteps.{made}
use Rattle.laws_closed_plans.proofs.AddressLemmas.{addresses-are-unseen}
use Rattle.laws_indexed_folder.specs.Indexed.{Indexed}
use Rattle.laws_planned_loads.proofs.FileLemmas.{file-there}
use Rattle.laws_planned_loads.proofs.KnownLemmas.{given-came, read-came}
use Rattle.laws_planned_loads.proofs.RunLemmas.{given-on, goes-on, reads-file, reads-on}
use Rattle.laws_planned_loads.proofs.WholeLemmas.{only-addressed, only-symvers}
use Rattle.laws_depmod_leaves.specs.Loads.{AreOfOneTable, LeftForLoads}
use Rattle.laws_depmod_leaves.proofs.ReadLemmas.{kernel_with-known}

-- the file that states a table
record IsStated (files : Contents) (file : List ℕ) (state : List ℕ → Result (List KernelExport) ℕ)
    (table : Table) : Type 0 where
  bytes : List ℕ
  there : get files file ≡ Some bytes
  states : table_outcome file true (state bytes) ≡ value table

was-stated : (files : Contents) (file : List ℕ) (state : List ℕ → Result (List KernelExport) ℕ)
    (table : Table)
    → ((reads file >>= λ bytes. given (table_outcome file true (state bytes))).run files).outcome
    ≡ value table
    → IsStated files file state table
was-stated files file state table came =
    let h
    = goes-on (reads file) (λ bytes. given (table_outcome file true (state bytes))) files table came
    in
    record {
      bytes = h.mid;
      there
          = (file-there file h.mid (get files file)
          (read-came (end (NoFile file)) file files h.mid h.first)).0;
      states
          = given-came (table_outcome file true (state h.mid)) table
          (after ((reads file).run files).acts files) h.rest;
    }

same-value : (a b : Table) → ◌≡◌ {A = Outcome Table} (value a) (value b) → a ≡ b
same-value a b is = cc

-- the table of what is stated doesn't tell at which path it stands
same-stated : (file other : List ℕ) (stated : Result (List KernelExport) ℕ) (a b : Table)
    → table_outcome file true stated ≡ value a → table_outcome other true stated ≡ value b → a ≡ b
unfolding table_outcome
same-stated file other (Ok exports) a b at_file at_other = same-value a b (sym at_file ∙ at_other)
same-stated file other (Err fault) a b at_file at_other = absurd cc

-- of the same bytes it is the same table
one-table : (held left : Contents) (file other : List ℕ)
    (state : List ℕ → Result (List KernelExport) ℕ) (a b : Table)
    → get held file ≡ get left other → IsStated held file state a → IsStated left other state b
    → a ≡ b
one-table held left file other state a b same in_held in_left =
    let some : ◌≡◌ {A = Option (List ℕ)} (Some in_held.bytes) (Some in_left.bytes)
    = sym in_held.there ∙ same ∙ in_left.there in
    let bytes : in_held.bytes ≡ in_left.bytes = cc in
    same-stated file other (state in_left.bytes) a b
    (ap (λ bs. table_outcome file true (state bs)) (sym bytes) ∙ in_held.states) in_left.states

was-addressed : (file : List ℕ) (exported : Table) (stated : Result (List KernelExport) ℕ)
    (table : Table)
    → table_outcome file exported.known stated ≡ value table
    → (table.known ≡ exported.known) × (stated ≡ Ok table.exports)
unfolding table_outcome
was-addressed file exported (Ok es) table came =
    let same : ◌≡◌ {A = Table} (record { known = exported.known; exports = es }) table = cc in
    (ap (λ (t : Table). t.known) (sym same), ap (λ (t : Table). Ok t.exports) same)
was-addressed file exported (Err fault) table came = cc

same-machine : (a b : Machine) → ◌≡◌ {A = Outcome Machine} (value a) (value b) → a ≡ b
same-machine a b is = cc

was-machine : (table : Table) (region : Region) (left : Option KernelExport) (addressed : Kernel)
    → machine_outcome table region left ≡ value (new_machine addressed region)
    → kernel_with table ≡ addressed
unfolding machine_outcome
was-machine table region None addressed came =
    ap (λ (m : Machine). m.kernel)
    (same-machine (new_machine (kernel_with table) region) (new_machine addressed region) came)
was-machine table region (Some e) addressed came = cc

-- the table with addresses whose kernel is that of the machine
machine-came : (files : Contents) (map : List ℕ) (symvers : Option (List ℕ)) (region : Region)
    (addressed : Kernel)
    → ((reads_machine map symvers region).run files).outcome ≡ value (new_machine addressed region)
    → (table : Table) × (((reads_addressed map symvers).run files).outcome ≡ value table)
    × (kernel_with table ≡ addressed)
machine-came files map symvers region addressed came =
    let h
    = reads-on (reads_addressed map symvers) (made region) files (new_machine addressed region)
    (only-addressed map symvers) came in (
      h.0,
      h.1,
      was-machine h.0 region (unplaced h.0.exports) addressed
          (given-came (machine_outcome h.0 region (unplaced h.0.exports))
          (new_machine addressed region) files h.2),
    )

-- a table to which addresses were added
pub record HasAdded (files : Contents) (symvers : List ℕ) (table : Table) : Type 0 where
  pub exported : Table
  pub read : ((reads_symvers symvers).run files).outcome ≡ value exported
  pub bytes : List ℕ
  pub known : table.known ≡ exported.known
  pub added : exports_with_addresses bytes exported.exports ≡ Ok table.exports

added-came : (files : Contents) (map symvers : List ℕ) (table : Table)
    → ((reads_addressed map (Some symvers)).run files).outcome ≡ value table
    → HasAdded files symvers table
added-came files map symvers table came =
    let a
    = reads-on (reads map) (both_read map symvers) files table
    (reads-file (end (NoFile map)) map) came in
    let bytes : List ℕ = a.0 in
    let b
    = given-on (table_outcome map true (exports_of_map bytes)) (both_understood map symvers bytes)
    files table a.2 in
    let c
    = reads-on (reads_symvers symvers) (both_added map bytes) files table (only-symvers symvers)
    b.2 in
    let exported : Table = c.0 in
    let stated = exports_with_addresses bytes exported.exports in
    let h
    = was-addressed map exported stated table
    (given-came (table_outcome map exported.known stated) table files c.2) in
    record { exported = exported; read = c.1; bytes = bytes; known = h.0; added = h.1 }

-- the kernel of a System.map is the same
of-map : (held left : Contents) (file map : List ℕ) (kernel : Kernel) (table : Table)
    → get held file ≡ get left map → ((reads_map file).run held).outcome ≡ value (table_of kernel)
    → ((reads_map map).run left).outcome ≡ value table
    → kernel_of (kernel_with table) ≡ kernel_of kernel
of-map held left file map kernel table same before now =
    let one : table_of kernel ≡ table
    = one-table held left file map exports_of_map (table_of kernel) table same
    (was-stated held file exports_of_map (table_of kernel) before)
    (was-stated left map exports_of_map table now) in
    ap (λ t. kernel_of (kernel_with t)) (sym one) ∙ ap kernel_of (kernel_with-same kernel)

-- that of a Module.symvers is seen as the same, with addresses
of-symvers : (held left : Contents) (map file other : List ℕ) (kernel : Kernel) (table : Table)
    → get held file ≡ get left other
    → ((reads_symvers file).run held).outcome ≡ value (table_of kernel)
    → ((reads_addressed map (Some other)).run left).outcome ≡ value table
    → kernel_of (kernel_with table) ≡ kernel_of kernel
of-symvers held left map file other kernel table same before now =
    let a = added-came left map other table now in
    let one : table_of kernel ≡ a.exported
    = one-table held left file other exports_of_symvers (table_of kernel) a.exported same
    (was-stated held file exports_of_symvers (table_of kernel) before)
    (was-stated left other exports_of_symvers a.exported a.read) in
    let added : exports_with_addresses a.bytes kernel.exports ≡ Ok table.exports
    = ap (λ (t : Table). exports_with_addresses a.bytes t.exports) one ∙ a.added in
    let exports : (kernel_with table).exports ≡ table.exports
    = kernel_with-exports table
    (addressed-apart a.bytes kernel.exports table.exports kernel.table added) in
    addresses-are-unseen kernel (kernel_with table) a.bytes
    (kernel_with-known table ∙ a.known ∙ ap (λ (t : Table). t.known) (sym one))
    (added ∙ ap Ok (sym exports))

one-kernel : (held left : Contents) (filesyms symvers : Option (List ℕ)) (map : List ℕ)
    (other : Option (List ℕ)) (kernel : Kernel) (table : Table)
    → AreOfOneTable held left filesyms symvers map other
    → ((reads_kernel filesyms symvers).run held).outcome ≡ value (table_of kernel)
    → ((reads_addressed map other).run left).outcome ≡ value table
    → kernel_of (kernel_with table) ≡ kernel_of kernel
one-kernel held left (Some file) symvers map None kernel table one before now =
    of-map held left file map kernel table one before now
one-kernel held left (Some file) symvers map (Some other) kernel table one before now = absurd one
one-kernel held left None (Some file) map (Some other) kernel table one before now =
    of-symvers held left map file other kernel table one before now
one-kernel held left None (Some file) map None kernel table one before now = absurd one
one-kernel held left None None map other kernel table one before now = absurd one

pub left-for-loads : LeftForLoads
left-for-loads held asked i left loads addressed region of_tree is load =
    let m = load.machine in
    let h = machine-came left m.map loads.symvers region addressed m.made in
    let tabled : ((reads_kernel asked.filesyms asked.symvers).run held).outcome
    ≡ value (table_of is.kernel)
    = of_tree.read.found.kernel ∙ ap (λ t. value t) is.table in
    record {
      indexed
          = subst (λ folder. Indexed left folder i.tree is.kernel i.builtin) (sym load.folder)
          is.indexed;
      same_table
          = ap kernel_of (sym h.2)
          ∙ one-kernel held left asked.filesyms asked.symvers m.map loads.symvers is.kernel h.0
          load.table tabled h.1;
    }
