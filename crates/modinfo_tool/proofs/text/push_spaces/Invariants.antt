use Rattle.std.proofs.Common.{◌≡◌, ◌++◌, codes}
use Rattle.std.specs.List.{repeat}
use Rattle.modinfo_tool.proofs.text.push_spaces.Given as goal

abbrev pub invariant-loop-space : goal.invariant-loop-space
invariant-loop-space l = l.text ≡ l.fn.text ++ repeat l._space (codes " ")
