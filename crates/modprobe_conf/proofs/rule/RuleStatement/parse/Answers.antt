use Rattle.std.proofs.Common.{◌≡◌, sym, ap, ◌∙◌, Some}
use Rattle.std.specs.Option.{option_and_then}
use Rattle.std.proofs.lemmas.Result.{IfOk-weaker}
use Rattle.km_names.specs.Space.{first_word, rest_after_word}
use Rattle.modprobe_conf.specs.Rules.{rule_of, command_of, rule_of_command}
use Rattle.modprobe_conf.proofs.rule.RuleStatement.parse.Goals as goal

pub returns-in-Some : goal.returns-in-Some
unfolding rule_of
returns-in-Some c =
    let text = c.args.text.now in
    let command = c.in-Some.command in
    let known : command_of (first_word text) ≡ Some command
    = ap command_of (sym c.split_word.ensures.word) ∙ sym c.in-Some.ensures in
    IfOk-weaker c.rule_of_command.result
    (λ r. r ≡ rule_of_command command c.split_word.result.1.now) (λ r. r ≡ rule_of text)
    (λ r is. is ∙ ap (rule_of_command command) c.split_word.ensures.rest
    ∙ ap (option_and_then (λ k. rule_of_command k (rest_after_word text))) (sym known))
    c.rule_of_command.ensures

pub returns-in-None : goal.returns-in-None
unfolding rule_of
returns-in-None c =
    let text = c.args.text.now in
    ap (option_and_then (λ k. rule_of_command k (rest_after_word text)))
    (c.in-None.ensures ∙ ap command_of c.split_word.ensures.word)
