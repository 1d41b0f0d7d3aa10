use Rattle.std.proofs.Common.{ap, ◌∙◌, ◌+◌, ◌*◌, ◌||◌, arith}
use Rattle.glob_match.specs.Words.{bit, is_between}
use Rattle.glob_match.proofs.set_items.Items.after.Goals as goal

pub returns-clause-listed : goal.returns-clause-listed
returns-clause-listed c test h k i lt low =
    c.add_range.ensures test h k i lt low
    ∙ ap (λ x. bit (test (64 * k + i) || is_between c.args.low c.args.high x))
    (c.requires.own (64 * k + i)
    (omega (arith, lt, low, c.requires.words, c.add_range.auto.words)))
