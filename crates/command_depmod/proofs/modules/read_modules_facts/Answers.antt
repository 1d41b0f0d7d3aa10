use Rattle.std.proofs.Common.{◌+◌, List, [], ◌∷◌, ◌++◌, drop, sym, subst}
use Rattle.std.proofs.lemmas.Result.{err_from_is_err_and}
use Rattle.module_facts.specs.declared.facts.Facts.{Facts}
use Rattle.km_course.specs.World.{world}
use Rattle.km_course.proofs.Steps.{LeadsTo, next, exits, stops, gave, no_memory, leads-start}
use Rattle.km_course.proofs.Steps.{leads-on}
use Rattle.command_depmod.specs.Modules.{adds_facts, reads_modules_facts}
use Rattle.km_course.proofs.Following.{leads-item, leads-done}
use Rattle.command_depmod.proofs.ModuleSteps.{added, the_others, no-facts, facts-more, facts-tree}
use Rattle.command_depmod.proofs.modules.read_modules_facts.Goals as goal

pub loop-path-init : goal.loop-path-init
loop-path-init g c = record {
  leads
      = λ out err. subst
      (λ before. LeadsTo (λ (x : List Facts). x)
      (reads_modules_facts c.args.folder.now c.args.paths.now)
      (world (g.F.Reads.seen c.args.files.now) out err)
      (the_others c.args.folder.now c.args.paths.now before)
      (world (g.F.Reads.seen c.args.files.now) out err)) (sym c.new-tree.ensures)
      (leads-start (λ (x : List Facts). x) _ _);
  facts = rw c.new-tree.ensures (no-facts c.args.paths.now);
}

pub returns-in_err-facts-clause-follows : goal.returns-in_err-facts-clause-follows
returns-in_err-facts-clause-follows g c = λ out err.
    let p = err_from_is_err_and c.from_residual.result c.from_residual.ensures.1 in
    let folder = c.args.folder.now in
    let paths = c.args.paths.now in
    let tree = c.loop-path.tree in
    leads-item (λ (x : List Facts). x) _ _ _ (adds_facts folder) tree paths c.loop-path.path-index
    c.path-item.result c.loop-path-test.true c.path-item.is
    (c.loop-path.invariant.leads out err) _ _
    (exits _ _ (the_others folder (drop (c.loop-path.path-index + 1) paths)) p.1 p.2
    (stops (λ (x : List Facts). x) (added tree) (c.in_err-facts.ensures.follows out err)))

pub returns-in_err-push-clause-follows : goal.returns-in_err-push-clause-follows
returns-in_err-push-clause-follows g c = λ out err.
    let p
    = err_from_is_err_and c.from_residual-in_err-push.result
    c.from_residual-in_err-push.ensures.1 in
    let folder = c.args.folder.now in
    let paths = c.args.paths.now in
    let tree = c.loop-path.tree in
    leads-item (λ (x : List Facts). x) _ _ _ (adds_facts folder) tree paths c.loop-path.path-index
    c.path-item.result c.loop-path-test.true c.path-item.is
    (c.loop-path.invariant.leads out err) _ _
    (exits _ _ (the_others folder (drop (c.loop-path.path-index + 1) paths)) p.1 p.2
    (next (added tree) (c.in_ok-facts.ensures.follows out err)
    (no_memory (λ (x : List Facts). x) (added tree c.in_ok-facts.facts) _)))

pub loop-path-preserved : goal.loop-path-preserved
loop-path-preserved g c =
    let folder = c.args.folder.now in
    let paths = c.args.paths.now in
    let i = c.loop-path.path-index in
    let tree = c.loop-path.tree in
    let facts = c.in_ok-facts.facts in
    record {
      leads = λ out err.
          subst (λ more. LeadsTo (λ (x : List Facts). x) (reads_modules_facts folder paths)
          (world (g.F.Reads.seen c.args.files.now) out err)
          (the_others folder (drop (i + 1) paths) more)
          (world (g.F.Reads.seen c.read_facts.new.files) out err)) (sym c.in_ok-push.ensures.ok)
          (leads-on (λ (x : List Facts). x) _ _ _ _ (adds_facts folder) tree c.path-item.result
          (drop (i + 1) paths) (tree ++ facts ∷ [])
          (leads-item (λ (x : List Facts). x) _ _ _ (adds_facts folder) tree paths i
          c.path-item.result c.loop-path-test.true c.path-item.is
          (c.loop-path.invariant.leads out err))
          (next (added tree) (c.in_ok-facts.ensures.follows out err)
          (gave (λ (x : List Facts). x) _ (tree ++ facts ∷ []))));
      facts
          = facts-more paths i c.path-item.result tree _ facts c.loop-path-test.true c.path-item.is
          c.in_ok-facts.ensures.facts c.in_ok-push.ensures.ok c.loop-path.invariant.facts;
    }

pub returns-clause-follows : goal.returns-clause-follows
returns-clause-follows g c = λ out err.
    leads-done (λ (x : List Facts). x) _ _ _ (adds_facts c.args.folder.now) c.loop-path.tree
    c.args.paths.now c.loop-path.path-index c.loop-path-test.false
    (c.loop-path.invariant.leads out err)

pub returns-clause-tree : goal.returns-clause-tree
returns-clause-tree g c =
    facts-tree c.args.paths.now c.loop-path.path-index c.loop-path.tree c.loop-path-test.false
    c.requires c.loop-path.invariant.facts
