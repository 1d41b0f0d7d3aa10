use Rattle.std.specs.Io.KnownBytes.{Keeps}
use Rattle.km_outside.proofs.writing.write_some.Given as goal

-- an interrupted write leaves what the writer holds
abbrev pub invariant-loop : goal.invariant-loop
invariant-loop g l = Keeps (g.W.Write.contents l.initial.writer) (g.W.Write.contents l.writer)
