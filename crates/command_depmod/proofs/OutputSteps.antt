-- The stages of depmod's files.
use Rattle.std.proofs.Common.{◌≡◌, ℕ, Bool, true, false, List, [], ◌∷◌, length, refl, sym, ap, ◌∙◌}
use Rattle.std.proofs.Common.{inl, inr}
use Rattle.std.specs.Prelude.{nat_lt, min, map, if◌then◌else◌, Option, Some, None, option_map, Ok}
use Rattle.std.specs.Prelude.{Err, ◌⊎◌, ⊤}
use Rattle.km_names.specs.First.{first}
use Rattle.km_names.specs.Limit.{file_limit}
use Rattle.km_names.specs.Statements.{unless_fault}
use Rattle.elf_sections.specs.Shape.{fault_if}
use Rattle.module_facts.specs.declared.facts.Facts.{Facts}
use Rattle.symbol_binding.specs.Symbols.{Kernel}
use Rattle.provider_rel.specs.Faces.{modules_of}
use Rattle.provider_rel.specs.Seen.{IsRelation}
use Rattle.provider_rel.specs.declared.relation.Relation.{Relation}
use Rattle.depmod_core.specs.declared.fault.OutputFault.{OutputFault}
use Rattle.depmod_core.specs.declared.fault.OutputFault.TheVariants as faults
use Rattle.depmod_core.specs.declared.files.OutputFiles.{OutputFiles}
use Rattle.depmod_core.specs.declared.file.OutputFile.{OutputFile}
use Rattle.depmod_core.specs.declared.file.OutputFile.TheVariants.{Dep, DepBin, Alias, AliasBin}
use Rattle.depmod_core.specs.declared.file.OutputFile.TheVariants.{Softdep, Symbols, SymbolsBin}
use Rattle.depmod_core.specs.declared.file.OutputFile.TheVariants.{BuiltinBin, Unmet}
use Rattle.depmod_core.specs.Files.{content as usual_content, file_name as usual_name, files}
use Rattle.depmod_core.specs.Files.{output_fault, outputs_of, size_fault}
use Rattle.km_course.specs.Course.{Stage, ◌>>=◌, given, gives}
use Rattle.km_course.specs.Course.Outcome.{value, end}
use Rattle.km_course.specs.declared.end.End.TheVariants.{Refused}
use Rattle.km_course.specs.declared.refusal.Refusal.{Refusal}
use Rattle.km_course.specs.declared.refusal.Refusal.TheVariants.{OutputTooLarge, InnerOutputFull}
use Rattle.command_depmod.specs.declared.files.DepmodFile.{DepmodFile}
use Rattle.command_depmod.specs.declared.files.DepmodFile.TheVariants.{Usual}
use Rattle.command_depmod.specs.declared.files.DepmodFiles.{DepmodFiles}
use Rattle.command_depmod.specs.declared.files.ExtraFiles.{ExtraFiles}
use Rattle.command_depmod.specs.Extra.{extra_outcome, reads_info, size_refusal}
use Rattle.km_course.specs.Course.{value_unless}
use Rattle.command_depmod.specs.Relation.{KernelTree}
use Rattle.command_depmod.specs.Outputs.{outputs_outcome, puts_file, puts_each, says_file}
use Rattle.command_depmod.specs.Outputs.{says_each, usual_refusal}
use Rattle.command_depmod.proofs.RelationSteps.{none-read}

-- the stages after modules.builtin was read, after modules.builtin.modinfo was, and after the nine
-- files and the two others were made
abbrev pub all_made : OutputFiles → Option ExtraFiles → Stage DepmodFiles
all_made usual added = gives (record { usual = usual; extra = added })

abbrev pub usual_made : KernelTree → Option (List ℕ) → OutputFiles → Stage DepmodFiles
usual_made tree info usual = given (extra_outcome tree.facts info) >>= λ added. all_made usual added

abbrev pub info_read : KernelTree → List ℕ → Option (List ℕ) → Stage DepmodFiles
info_read tree builtin info =
    given (outputs_outcome (files tree.facts tree.kernel builtin))
    >>= λ usual. usual_made tree info usual

abbrev pub builtin_read : Bool → List ℕ → KernelTree → List ℕ → Stage DepmodFiles
builtin_read extra folder tree builtin =
    reads_info extra folder >>= λ info. info_read tree builtin info

-- the stage of a file, and of those after it
abbrev pub put_one : List ℕ → DepmodFiles → ⊤ → DepmodFile → Stage ⊤
put_one folder made _ file = puts_file folder made file

abbrev pub put_others : List ℕ → DepmodFiles → List DepmodFile → ⊤ → Stage ⊤
put_others folder made files _ = puts_each folder made files

abbrev pub say_one : DepmodFiles → ⊤ → DepmodFile → Stage ⊤
say_one made _ file = says_file made file

abbrev pub say_others : DepmodFiles → List DepmodFile → ⊤ → Stage ⊤
say_others made files _ = says_each made files

-- the refusal of a fault; no files have the fault of memory
abbrev refusal_for : OutputFault → Refusal
refusal_for (faults.OutputTooLarge file length) = OutputTooLarge file
refusal_for faults.Memory = InnerOutputFull

-- the fault of a file of these bytes
abbrev too_large : OutputFile → List ℕ → OutputFault
too_large file bytes =
    faults.OutputTooLarge (usual_name file) (min (length bytes) 18446744073709551615)

-- the refusals are those of the faults of the files
each-alike : (made : OutputFiles) (which : List OutputFile)
    → first (map (λ file. size_refusal (Usual file) (usual_content made file)) which)
    ≡ option_map refusal_for
    (first (map (λ file. size_fault file (usual_content made file)) which))
each-alike made [] = refl
each-alike made (file ∷ others) =
    go (nat_lt file_limit (length (usual_content made file))) (each-alike made others)
  where
    go : (large : Bool)
        → first (map (λ one. size_refusal (Usual one) (usual_content made one)) others)
        ≡ option_map refusal_for
        (first (map (λ one. size_fault one (usual_content made one)) others))
        → first (fault_if large (OutputTooLarge (usual_name file))
        ∷ map (λ one. size_refusal (Usual one) (usual_content made one)) others)
        ≡ option_map refusal_for
        (first ((if large then Some (too_large file (usual_content made file)) else None)
        ∷ map (λ one. size_fault one (usual_content made one)) others))
    go true rest = refl
    go false rest = rest

refusal-alike : (made : OutputFiles)
    → usual_refusal made ≡ option_map refusal_for (output_fault made)
unfolding output_fault
refusal-alike made =
    each-alike made
    (Dep ∷ DepBin ∷ Alias ∷ AliasBin ∷ Softdep ∷ Symbols ∷ SymbolsBin ∷ BuiltinBin ∷ Unmet ∷ [])

-- files that aren't refused have no fault
pub no-fault : (made : OutputFiles) → usual_refusal made ≡ None → output_fault made ≡ None
no-fault made is = none-read refusal_for (output_fault made) (sym (refusal-alike made) ∙ is)

-- what the files result in, by their fault
by-fault : (made : OutputFiles) (fault : Option OutputFault) → output_fault made ≡ fault
    → outputs_outcome made ≡ value_unless (λ refusal. refusal) (option_map refusal_for fault) made
unfolding outputs_outcome
by-fault made fault is =
    ap (λ o. value_unless (λ refusal. refusal) o made)
    (refusal-alike made ∙ ap (option_map refusal_for) is)

ok-made : (all made : OutputFiles) (fault : Option OutputFault) → output_fault all ≡ fault
    → unless_fault fault all ≡ Ok made → outputs_outcome all ≡ value made
ok-made all made None passed same = let e : all ≡ made = cc in by-fault all None passed ∙ ap value e
ok-made all made (Some fault) failed same = absurd (cc)

pub made_ok : (facts : List Facts) (kernel : Kernel) (builtin : List ℕ) (made : OutputFiles)
    → outputs_of facts kernel builtin ≡ Ok made
    → outputs_outcome (files facts kernel builtin) ≡ value made
unfolding outputs_of
made_ok facts kernel builtin made is =
    let all : OutputFiles = files facts kernel builtin in
    ok-made all made (output_fault all) refl is

not-made : (all : OutputFiles) (file : List ℕ) (length : ℕ) (found : Option OutputFault)
    → output_fault all ≡ found → unless_fault found all ≡ Err (faults.OutputTooLarge file length)
    → outputs_outcome all ≡ end (Refused (OutputTooLarge file))
not-made all file length None passed same = absurd (cc)
not-made all file length (Some fault) failed same =
    let e : fault ≡ faults.OutputTooLarge file length = cc in
    by-fault all (Some fault) failed ∙ ap (λ o. end (Refused (refusal_for o))) e

-- a file that is too large is the first of them
pub made_not : (facts : List Facts) (kernel : Kernel) (relation : Relation) (builtin : List ℕ)
    (fault : OutputFault) (file : List ℕ) (length : ℕ)
    → fault ≡ faults.OutputTooLarge file length
    → (fault ≡ faults.Memory)
    ⊎ ((k : Kernel) → IsRelation (modules_of facts) k relation
    → outputs_of facts k builtin ≡ Err fault)
    → IsRelation (modules_of facts) kernel relation
    → outputs_outcome (files facts kernel builtin) ≡ end (Refused (OutputTooLarge file))
unfolding outputs_of
made_not facts kernel relation builtin fault file length is (inl m) related =
    absurd (differ (sym is ∙ m))
  where
    differ : faults.OutputTooLarge file length ≡ faults.Memory → ⊥
    differ e = cc
made_not facts kernel relation builtin fault file length is (inr f) related =
    let all : OutputFiles = files facts kernel builtin in
    not-made all file length (output_fault all) refl (f kernel related ∙ ap Err is)
