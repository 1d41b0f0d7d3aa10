use Rattle.std.proofs.Common.{◌≡◌, ◌++◌, take}
use Rattle.plan_sources.specs.Kept.{texts}
use Rattle.planned_modules.proofs.needs.push_all.Given as goal

abbrev pub invariant-loop-name : goal.invariant-loop-name
invariant-loop-name l = texts l.names.items ≡ texts l.fn.names.items ++ take l.name-index l.more
