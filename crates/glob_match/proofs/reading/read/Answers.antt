use Rattle.std.proofs.Common.{sym}
use Rattle.glob_match.proofs.reading.read.Goals as goal

pub returns-in-Opened-clause-read : goal.returns-in-Opened-clause-read
returns-in-Opened-clause-read c text pattern t s =
    c.read_opened.ensures.read text pattern (sym t.size_is) (rw (c.in-Opened.is) at s)

pub returns-in-Inside-clause-read : goal.returns-in-Inside-clause-read
returns-in-Inside-clause-read c text pattern t s =
    c.read_inside.ensures.read text pattern t (rw (c.in-Inside.is) at s)
