use Rattle.std.proofs.Common.{inl, inr}
use Rattle.provider_rel.specs.Faces.{face_of, need_of_facts}
use Rattle.provider_rel.proofs.BindingSteps.{alone}
use Rattle.provider_rel.proofs.unmet.is_unmet_alone.Goals as goal

pub returns-in-Gpl : goal.returns-in-Gpl
returns-in-Gpl c facts =
    alone c.args.kind c.args.known c.args.need.now.name (face_of facts)
    (need_of_facts c.args.need.now)
    (λ missing. elim c.in-Gpl.is [
      | inl gpl ↦ cc
      | inr rest ↦ elim rest [
        | inl version ↦ cc
        | inr space ↦ cc
      ]
    ])
