use Rattle.std.specs.Prelude.{All, IsTrue}
use Rattle.km_names.specs.Ascii.{is_graphic}
use Rattle.module_symbols.specs.declared.needs.Need.{Need}
use Rattle.test_relations.proofs.limits.needs.Given as goal

abbrev pub invariant-loop-number : goal.invariant-loop-number
invariant-loop-number l = All (λ (n : Need). IsTrue (is_graphic n.name)) l.needs
