use Rattle.std.proofs.Common.{◌≡◌, take}
use Rattle.modinfo_tool.specs.Show.{ended}
use Rattle.modinfo_tool.proofs.text.lines_text.Given as goal

abbrev pub invariant-loop-line : goal.invariant-loop-line
invariant-loop-line l = l.text ≡ ended l.end (take l.line-index l.lines)
