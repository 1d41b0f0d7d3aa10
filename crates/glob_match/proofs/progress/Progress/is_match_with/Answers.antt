use Rattle.std.proofs.Common.{sym, subst, arith}
use Rattle.glob_match.specs.Words.{HasPlaces}
use Rattle.glob_match.specs.Ends.{is_end, part}
use Rattle.glob_match.proofs.EndLemmas.{matches_with, end_past}
use Rattle.glob_match.proofs.progress.Progress.is_match_with.Goals as goal

pub returns-in_ok-words-in-Outside : goal.returns-in_ok-words-in-Outside
returns-in_ok-words-in-Outside c file text pattern are over s =
    let p = c.args.self.now in
    let more = part file c.args.at c.args.to in
    let known = c.in_ok-words-in-Outside.ensures in
    matches_with text pattern more p.state.first p.state.reached.items p.state.listed.items
    c.meet.result (rw (c.in-Outside.is) at s)
    (λ test h.
    c.meet.ensures test (is_end more text)
    (subst (λ ws. HasPlaces p.state.first ws test) (sym c.deref.ensures.value) h)
    (known.words file text (sym over.size_is) are)
    (λ n le. end_past more text n (omega (arith, le, known.size, over.size_is))))
