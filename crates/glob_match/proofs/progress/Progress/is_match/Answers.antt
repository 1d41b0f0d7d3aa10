use Rattle.std.proofs.Common.{ap, ◌∙◌, inl, inr}
use Rattle.std.proofs.lemmas.Bool.{false≢true}
use Rattle.glob_match.proofs.ReadLemmas.{outside_decides, opened_never, inside_never}
use Rattle.glob_match.proofs.progress.Progress.is_match.Goals as goal

pub returns-in-Outside : goal.returns-in-Outside
returns-in-Outside c text pattern over s =
    let p = c.args.self.now in
    let d
    = outside_decides text pattern p.state.first p.state.reached.items p.state.listed.items
    c.has.result (rw (c.in-Outside.is) at s)
    (λ test h. c.has.ensures test h ∙ ap test over.size_is) in
    (d.0, d.1)

pub returns-in-Opened : goal.returns-in-Opened
returns-in-Opened c text pattern over s =
    let p = c.args.self.now in (
      λ e. absurd (false≢true e),
      λ m. absurd (elim c.in-Opened.is [
        | inl e ↦ opened_never text pattern p.state.first p.state.reached.items p.state.listed.items
            (rw e at s) m
        | inr h ↦ inside_never text pattern p.state.first p.state.reached.items p.state.listed.items
            h.0 h.1 (rw (h.2) at s) m
      ]),
    )
