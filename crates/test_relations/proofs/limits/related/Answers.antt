use Rattle.std.proofs.Common.{◌≡◌, ◌∙◌, ap, ℕ, List, Result, length, Ok, Err}
use Rattle.std.specs.Result.{IfOk}
use Rattle.std.proofs.lemmas.List.{length-map}
use Rattle.symbol_binding.specs.Symbols.{Kernel as SeenKernel}
use Rattle.module_facts.specs.declared.facts.Facts.{Facts}
use Rattle.provider_rel.specs.declared.relation.Relation.{Relation}
use Rattle.provider_rel.specs.Faces.{modules_of, module_of}
use Rattle.provider_rel.specs.Seen.{IsRelation, closures_by}
use Rattle.provider_rel.proofs.MakeSteps.{deps-long}
use Rattle.test_relations.proofs.limits.related.Goals as goal

as-long : {E : Type 0} (tree : List Facts) (kernel : SeenKernel) (n : ℕ) (made : Result Relation E)
    → length tree ≡ n → IfOk made (IsRelation (modules_of tree) kernel)
    → IfOk made (λ relation. length (closures_by relation) ≡ n)
as-long tree kernel n (Ok r) long is =
    ap length is.closures ∙ deps-long (modules_of tree) kernel ∙ length-map tree module_of ∙ long
as-long tree kernel n (Err e) long is = is

pub returns : goal.returns
returns c = as-long _ _ _ _ c.in_ok-tree.ensures.long c.make.ensures.ok
