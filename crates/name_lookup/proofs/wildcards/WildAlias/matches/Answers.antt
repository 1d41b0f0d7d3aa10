use Rattle.std.proofs.Common.{◌≡◌, ◌++◌, true, false, length, take, drop, sym, ap, ◌∙◌}
use Rattle.std.specs.Prelude.{◌&&◌, nat_eq}
use Rattle.std.specs.Cmp.Lexicographic.{pointwise}
use Rattle.glob_match.specs.Decision.{is_match}
use Rattle.name_lookup.proofs.PatternLaws.{match-front}
use Rattle.name_lookup.proofs.wildcards.WildAlias.matches.Goals as goal

pub returns-in-Some : goal.returns-in-Some
returns-in-Some c =
    let front = c.args.self.now.front.now in
    let rest = c.args.self.now.rest.now in
    let x = c.args.name.now in
    let w = c.in-Some.ensures.cases in
    c.matches.ensures.test
    ∙ ap (is_match rest) w.1
    ∙ sym (match-front front rest x c.args.self.now.plain_front
    ∙ ap (λ b. b && is_match rest (drop (length front) x)) w.0)

pub returns-in-None : goal.returns-in-None
returns-in-None c =
    let front = c.args.self.now.front.now in
    let rest = c.args.self.now.rest.now in
    let x = c.args.name.now in
    sym (match-front front rest x c.args.self.now.plain_front
    ∙ ap (λ b. b && is_match rest (drop (length front) x)) c.in-None.ensures.cases)
