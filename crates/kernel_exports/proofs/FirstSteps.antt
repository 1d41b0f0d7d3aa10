-- The first exports of their names.
use Rattle.std.proofs.Common.{◌≡◌, true, not, Bool, List, [], ◌∷◌, AllPairs, filter, get_or, ap}
use Rattle.std.proofs.Common.{sym}
use Rattle.std.proofs.Common.{◌∙◌, arith}
use Rattle.std.proofs.lemmas.Bool.{false≢true}
use Rattle.std.proofs.lemmas.List.Elements.{filter_passes}
use Rattle.std.proofs.lemmas.List.Kept.{AllPairs-cons, AllPairs-filter}
use Rattle.std.specs.Str.{bytes_eq}
use Rattle.kernel_exports.specs.declared.kernel.KernelExport.{KernelExport}
use Rattle.kernel_exports.specs.KernelTable.{first_of_each}
use Rattle.kernel_exports.proofs.NameSteps.{bytes-refl}

-- a name that passes as another isn't this one
other-name : (e o : KernelExport) → not (bytes_eq o.name e.name) ≡ true → e.name ≡ o.name → ⊥
other-name e o passed same =
    false≢true (ap not (sym (ap (λ n. bytes_eq n e.name) (sym same) ∙ bytes-refl e.name)) ∙ passed)

-- of the exports of one name only the first is left
pub firsts-apart : (es : List KernelExport)
    → AllPairs (λ (a b : KernelExport). a.name ≡ b.name → ⊥) (first_of_each es)
firsts-apart [] = λ i j d before within. absurd (omega arith)
firsts-apart (e ∷ es) =
    let passes : KernelExport → Bool = λ other. not (bytes_eq other.name e.name) in
    let left = filter passes (first_of_each es) in
    AllPairs-cons (λ (a b : KernelExport). a.name ≡ b.name → ⊥) e left
    (λ k d within. other-name e (get_or left k d)
    (filter_passes passes (first_of_each es) k d within))
    (AllPairs-filter (λ (a b : KernelExport). a.name ≡ b.name → ⊥) passes (first_of_each es)
    (firsts-apart es))
