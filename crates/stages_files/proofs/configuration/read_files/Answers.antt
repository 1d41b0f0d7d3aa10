use Rattle.std.proofs.Common.{◌+◌, drop, List, sym, subst}
use Rattle.std.specs.Prelude.{Ok}
use Rattle.std.proofs.lemmas.List.{drop_all}
use Rattle.std.proofs.lemmas.Result.{err_from_is_err_and}
use Rattle.km_names.specs.declared.conf.ConfFile.{ConfFile}
use Rattle.km_course.specs.World.{world}
use Rattle.km_course.specs.Follows.{Follows}
use Rattle.km_course.proofs.Steps.{next, exits, gave}
use Rattle.km_course.proofs.Following.{next-item}
use Rattle.stages_files.proofs.ConfigurationSteps.{files_rest}
use Rattle.stages_files.proofs.configuration.read_files.Goals as goal

pub returns-in_err-read-clause-follows : goal.returns-in_err-read-clause-follows
returns-in_err-read-clause-follows g c = λ out err.
    let p = err_from_is_err_and c.from_residual.result c.from_residual.ensures.1 in
    let paths = c.args.paths.now in
    let i = c.loop-path.path-index in
    c.loop-path.invariant.follows out err _ _
    (subst (λ rest. Follows (λ (x : List ConfFile). x) (files_rest rest c.loop-path.read)
    (world (g.F.Reads.seen c.loop-path.files) out err)
    (world (g.F.Reads.seen c.with_file.new.files) out err) c.from_residual.result)
    (sym (next-item paths i c.path-item.result c.loop-path-test.true c.path-item.is))
    (exits _ _ (files_rest (drop (i + 1) paths)) p.1 p.2 (c.in_err-read.ensures.follows out err)))

pub loop-path-preserved : goal.loop-path-preserved
loop-path-preserved g c = record {
  follows = λ out err new r after.
      let paths = c.args.paths.now in
      let i = c.loop-path.path-index in
      c.loop-path.invariant.follows out err new r
      (subst (λ rest. Follows (λ (x : List ConfFile). x) (files_rest rest c.loop-path.read)
      (world (g.F.Reads.seen c.loop-path.files) out err) new r)
      (sym (next-item paths i c.path-item.result c.loop-path-test.true c.path-item.is))
      (next (files_rest (drop (i + 1) paths)) (c.in_ok-read.ensures.follows out err) after));
  limit = c.in_ok-read.ensures.limit;
}

pub returns-clause-follows : goal.returns-clause-follows
returns-clause-follows g c = λ out err.
    c.loop-path.invariant.follows out err _ _
    (subst (λ rest. Follows (λ (x : List ConfFile). x) (files_rest rest c.loop-path.read)
    (world (g.F.Reads.seen c.loop-path.files) out err)
    (world (g.F.Reads.seen c.loop-path.files) out err) (Ok c.loop-path.read))
    (sym (drop_all c.loop-path.path-index c.args.paths.now c.loop-path-test.false))
    (gave (λ (x : List ConfFile). x) _ c.loop-path.read))
