use Rattle.std.proofs.Common.{◌≡◌, ℕ, List, ◌∙◌, length, arith}
use Rattle.std.specs.BTreeMap as tree
use Rattle.std.proofs.lemmas.Result.{IfOk-weaker}
use Rattle.stages_files.specs.Configuration.{by_name, paths_of}
use Rattle.std.proofs.Common.{drop}
use Rattle.stages_files.proofs.ConfigurationSteps.{folders-start, folders-on, folders-end}
use Rattle.stages_files.proofs.ConfigurationSteps.{paths-found}
use Rattle.stages_files.proofs.configuration.chosen_paths.Goals as goal

pub loop-left-init : goal.loop-left-init
loop-left-init c = record {
  files
      = folders-start c.new-found.result.entries c.args.folders.now (length c.args.folders.now)
      c.new-found.ensures.empty (omega arith);
  within = omega arith;
}

pub loop-left-preserved : goal.loop-left-preserved
loop-left-preserved c =
    let folders = c.args.folders.now in
    record {
      files
          = c.in_ok-put_names.ensures (by_name (drop c.loop-left.left folders))
          c.loop-left.invariant.files
          ∙ folders-on folders c.loop-left.left c.index-folders-left.result c.loop-left-test.true
          c.loop-left.invariant.within c.index-folders-left.is;
      within = omega arith;
    }

pub returns : goal.returns
returns c =
    IfOk-weaker c.in_order.result (λ (paths : List (List ℕ)). paths ≡ tree.values c.loop-left.found)
    (λ (paths : List (List ℕ)). paths ≡ paths_of c.args.folders.now)
    (λ paths is. is
    ∙ paths-found c.loop-left.found.entries c.args.folders.now
    (folders-end c.loop-left.found.entries c.args.folders.now c.loop-left.left
    c.loop-left-test.false c.loop-left.invariant.files))
    c.in_order.ensures
