use Rattle.std.proofs.Common.{◌||◌, take, sym, ap, ◌∙◌}
use Rattle.name_table.specs.FirstSeen.{is_among}
use Rattle.dependency_lines.proofs.Firsts.{bytes-sym}
use Rattle.plan_sources.specs.Sources.{is_troubled}
use Rattle.plan_sources.proofs.Troubled.{troubled-more, or-false}
use Rattle.plan_sources.proofs.planner.troubled_paths.Goals as goal
use Rattle.plan_sources.proofs.planner.troubled_paths.Goals.{in-Some+in_ok-insert, in_default}

pub loop-line-preserved : goal.loop-line-preserved
loop-line-preserved c = λ path.
    let more
    = troubled-more c.args.unmet.now c.loop-line.line-index c.line-item.result path
    c.loop-line-test.true c.line-item.is in
    elim c.match-path_of.branch [
      | in-Some+in_ok-insert w ↦
          ap (λ ps. is_among ps path) w.paths-is
          ∙ w.in_ok-insert.ensures.among path
          ∙ (λ i. c.loop-line.invariant path i
          || (bytes-sym path w.in-Some.path.now ∙ sym (w.in-Some.ensures path)) i)
          ∙ sym more
      | in_default w ↦
          ap (λ ps. is_among ps path) w.paths-is
          ∙ c.loop-line.invariant path
          ∙ sym (or-false (is_troubled (take c.loop-line.line-index c.args.unmet.now) path))
          ∙ ap (λ b. is_troubled (take c.loop-line.line-index c.args.unmet.now) path || b)
          (sym (w.in_default.ensures path))
          ∙ sym more
    ]
