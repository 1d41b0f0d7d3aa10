use Rattle.std.proofs.Common.{List, drop}
use Rattle.module_facts.specs.declared.facts.Facts.{Facts}
use Rattle.outside_calls.specs.OutSeen.{OutSeen}
use Rattle.km_course.specs.World.{world}
use Rattle.km_course.proofs.Steps.{LeadsTo}
use Rattle.command_depmod.specs.Modules.{reads_modules_facts}
use Rattle.command_depmod.proofs.ModuleSteps.{AreFactsOf, the_others}
use Rattle.command_depmod.proofs.modules.read_modules_facts.Given as goal

-- Whatever reads the other modules from here reads all from the start, and the facts so far are
-- those of the first paths.
abbrev pub invariant-loop-path : goal.invariant-loop-path
invariant-loop-path g l = record {
  leads : (out err : OutSeen)
      → LeadsTo (λ (x : List Facts). x) (reads_modules_facts l.folder l.paths)
      (world (g.F.Reads.seen l.fn.files) out err)
      (the_others l.folder (drop l.path-index l.paths) l.tree)
      (world (g.F.Reads.seen l.files) out err);
  facts : AreFactsOf l.paths l.path-index l.tree;
}
