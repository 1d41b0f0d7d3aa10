use Rattle.std.proofs.Common.{◌≡◌, ◌∙◌, ◌+◌, ap, sym, cond, arith, refl, take}
use Rattle.image_layout.specs.Offsets.{aligned, is_in, end_of, of_class}
use Rattle.image_layout.proofs.EndLemmas.{end-with}
use Rattle.image_layout.proofs.ends.end_of_first.Goals as goal

pub loop-i-init : goal.loop-i-init
unfolding end_of
loop-i-init c = (refl, omega arith)

pub loop-i-preserved : goal.loop-i-preserved
loop-i-preserved c =
    let s = c.section.result.now in (
      c.end_with-end.ensures.end
          ∙ ap (λ e. cond (is_in c.args.class s) (aligned e s.align + s.size) e)
          c.loop-i.invariant.0
          ∙ sym (end-with c.args.start c.args.class c.args.object.now.sections c.loop-i.i s
          c.section.ensures.section),
      omega arith,
    )

pub returns-clause-end : goal.returns-clause-end
returns-clause-end c =
    let same : c.loop-i.i ≡ c.args.count = omega arith in
    c.loop-i.invariant.0
    ∙ ap (λ n. end_of c.args.start (of_class c.args.class (take n c.args.object.now.sections)))
    same
