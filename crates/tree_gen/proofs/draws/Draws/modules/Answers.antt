use Rattle.std.proofs.Common.{ap, ◌∙◌, arith}
use Rattle.tree_gen.specs.Trial.{next}
use Rattle.tree_gen.specs.declared.draws.Draws.{Draws}
use Rattle.tree_gen.proofs.TrialLemmas.{start_first, start_more}
use Rattle.tree_gen.proofs.draws.Draws.modules.Goals as goal
use Rattle.tree_gen.proofs.draws.Draws.modules.Goals.{then-number-gt0+in_ok-push+then-second-first+in_ok-push-2}
use Rattle.tree_gen.proofs.draws.Draws.modules.Goals.{then-number-gt0+in_ok-push+else-second-first}
use Rattle.tree_gen.proofs.draws.Draws.modules.Goals.{else-number-gt0}

pub returns-clause-next : goal.returns-clause-next
returns-clause-next c = λ seed is.
    elim c.if-number-gt0.branch [
      | then-number-gt0+in_ok-push+then-second-first+in_ok-push-2 w ↦
          ap (λ (d : Draws). d.last) w.self-is ∙ w.draw-second.ensures.last
          ∙ ap next w.draw-first.ensures.last
          ∙ start_more seed c.args.number c.args.self.now.last w.if-number-gt0.true is
      | then-number-gt0+in_ok-push+else-second-first w ↦
          ap (λ (d : Draws). d.last) w.self-is ∙ w.draw-second.ensures.last
          ∙ ap next w.draw-first.ensures.last
          ∙ start_more seed c.args.number c.args.self.now.last w.if-number-gt0.true is
      | else-number-gt0 w ↦
          ap (λ (d : Draws). d.last) w.self-is
          ∙ start_first seed c.args.number c.args.self.now.last
          (omega (arith, w.if-number-gt0.false)) is
    ]
