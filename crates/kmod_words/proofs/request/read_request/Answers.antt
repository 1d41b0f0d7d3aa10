use Rattle.std.proofs.Common.{List, Bor, map, option_map, ap, ◌∙◌}
use Rattle.std.proofs.lemmas.Result.{IfOk-weaker}
use Rattle.clap.specs.Words.{App, Text, found_of, rows_of}
use Rattle.clap.specs.declared.parser.matches.ArgMatches.{ArgMatches}
use Rattle.kmod_words.specs.Arguments.{command}
use Rattle.kmod_words.specs.Rules.{rule_for}
use Rattle.kmod_words.proofs.RequestLemmas.{asked-some, asked-none}
use Rattle.kmod_words.proofs.request.read_request.Goals as goal

pub returns-in-Some : goal.returns-in-Some
returns-in-Some g c =
    let app : App = command c.args.name.now (map rule_for c.args.arguments.now) in
    let given : List Text = map (λ (t : Bor Text). t.now) c.as_slice.result.now in
    let rows = option_map (λ (m : ArgMatches). rows_of (found_of m)) in
    let words
    = ap (map (λ (t : Bor Text). t.now)) c.as_slice.ensures.value ∙ c.in_ok-texts.ensures in
    let same
    = asked-some g.A.Request.asked app given c.args.words.now words
    (rows c.in_ok-matches.field-0) (rows_of (found_of c.in-Some.matches))
    c.in_ok-matches.ensures (ap rows c.in-Some.is) in
    IfOk-weaker c.from_matches.result _ _ (λ request is. is ∙ same) c.from_matches.ensures

pub returns : goal.returns
returns g c =
    let app : App = command c.args.name.now (map rule_for c.args.arguments.now) in
    let given : List Text = map (λ (t : Bor Text). t.now) c.as_slice.result.now in
    let rows = option_map (λ (m : ArgMatches). rows_of (found_of m)) in
    let words
    = ap (map (λ (t : Bor Text). t.now)) c.as_slice.ensures.value ∙ c.in_ok-texts.ensures in
    asked-none g.A.Request.asked app given c.args.words.now words
    (rows c.in_ok-matches.field-0) c.in_ok-matches.ensures (ap rows c.in-None.is)
