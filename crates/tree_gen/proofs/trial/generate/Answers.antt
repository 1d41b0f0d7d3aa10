use Rattle.std.proofs.Common.{sym, ap, ◌∙◌}
use Rattle.outside_calls.specs.MemFilesSeen.{with_file}
use Rattle.tree_gen.specs.Trial.{unused}
use Rattle.tree_gen.proofs.TrialLemmas.{trial_more}
use Rattle.tree_gen.proofs.trial.generate.Goals as goal

pub loop-number-preserved : goal.loop-number-preserved
loop-number-preserved c =
    let bytes
    = c.as_bytes.ensures
    ∙ c.in_ok-bytes.ensures.file c.args.seed c.loop-number.invariant.draws in
    record {
      files
          = c.in_ok-put.ensures.ok
          ∙ (λ i. with_file (c.loop-number.invariant.files i) (c.in_ok-path.ensures i)
          (bytes i))
          ∙ ap unused (sym (trial_more c.args.seed c.loop-number.number));
      draws = c.in_ok-bytes.ensures.next c.args.seed c.loop-number.invariant.draws;
    }
