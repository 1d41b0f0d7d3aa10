-- Texts that are too long, or not.
use Rattle.std.proofs.Common.{◌≡◌, sym, ap, ◌∙◌, ℕ, ◌<◌, ◌≤◌, min, List, length, Some, None, cond}
use Rattle.std.proofs.Common.{arith, ◌⊎◌, inl, inr}
use Rattle.std.proofs.lemmas.Bool.{lt-ltb, le-ltb}
use Rattle.km_names.specs.Limit.{file_limit}
use Rattle.depmod_core.specs.declared.file.OutputFile.{OutputFile}
use Rattle.depmod_core.specs.declared.fault.OutputFault.{OutputFault}
use Rattle.depmod_core.specs.declared.fault.OutputFault.TheVariants.{OutputTooLarge, Memory}
use Rattle.depmod_core.specs.Files.{file_name, size_fault}

-- the fault of a file whose text is as long
pub too-long : (which : OutputFile) (bytes : List ℕ) (n : ℕ)
    → n ≡ min (length bytes) 18446744073709551615 → file_limit < n
    → size_fault which bytes ≡ Some (OutputTooLarge (file_name which) n)
too-long which bytes n is past =
    ap (λ b. cond b
    (Some (OutputTooLarge (file_name which) (min (length bytes) 18446744073709551615)))
    None) (lt-ltb file_limit (length bytes) (omega arith))
    ∙ ap (λ k. Some (OutputTooLarge (file_name which) k)) (sym is)

-- a fault that names a file as long, or is out of memory
pub named-too-long : (which : OutputFile) (bytes : List ℕ) (n : ℕ) (fault : OutputFault)
    → n ≡ min (length bytes) 18446744073709551615 → file_limit < n
    → (fault ≡ Memory) ⊎ (fault ≡ OutputTooLarge (file_name which) n)
    → (fault ≡ Memory) ⊎ (size_fault which bytes ≡ Some fault)
named-too-long which bytes n fault is past (inl memory) = inl memory
named-too-long which bytes n fault is past (inr named) =
    inr (too-long which bytes n is past ∙ ap Some (sym named))

pub not-too-long : (which : OutputFile) (bytes : List ℕ) (n : ℕ)
    → n ≡ min (length bytes) 18446744073709551615 → n ≤ file_limit → size_fault which bytes ≡ None
not-too-long which bytes n is within =
    ap (λ b. cond b
    (Some (OutputTooLarge (file_name which) (min (length bytes) 18446744073709551615)))
    None) (le-ltb file_limit (length bytes) (omega arith))
