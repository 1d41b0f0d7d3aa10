use Rattle.std.proofs.Common.{◌++◌, sym, ap, ◌∙◌, append-nil}
use Rattle.km_names.specs.Space.{words}
use Rattle.modprobe_conf.proofs.RuleSteps.{names_from, marker-more, name-more, other-more}
use Rattle.modprobe_conf.proofs.RuleSteps.{none-left}
use Rattle.modprobe_conf.proofs.WordSteps.{words-cut, rest-shorter, no-words}
use Rattle.modprobe_conf.proofs.rule.names_after.Goals as goal

pub loop-marker-smaller-then-is_marker : goal.loop-marker-smaller-then-is_marker
loop-marker-smaller-then-is_marker c =
    rest-shorter c.loop-marker.rest.now _ c.split_word.ensures.rest
    (sym c.is_empty.ensures ∙ c.loop-marker-test.true)

pub loop-marker-preserved-then-is_marker : goal.loop-marker-preserved-then-is_marker
loop-marker-preserved-then-is_marker c =
    let l = c.loop-marker in
    let marker = c.args.marker.now in
    let cut = words-cut l.rest.now _ _ c.split_word.ensures.word c.split_word.ensures.rest in
    ap (λ ns. l.names ++ ns)
    (marker-more marker c.split_word.result.0.now _ l.belongs _
    (sym c.is_marker.ensures ∙ c.if-is_marker.true) c.eq-belongs.ensures
    ∙ ap (names_from marker l.belongs) cut)
    ∙ l.invariant

pub loop-marker-smaller-in_ok-push_name : goal.loop-marker-smaller-in_ok-push_name
loop-marker-smaller-in_ok-push_name c =
    rest-shorter c.loop-marker.rest.now _ c.split_word.ensures.rest
    (sym c.is_empty.ensures ∙ c.loop-marker-test.true)

pub loop-marker-preserved-in_ok-push_name : goal.loop-marker-preserved-in_ok-push_name
loop-marker-preserved-in_ok-push_name c =
    let l = c.loop-marker in
    let marker = c.args.marker.now in
    let after = c.split_word.result.1.now in
    let cut = words-cut l.rest.now _ _ c.split_word.ensures.word c.split_word.ensures.rest in
    ap (λ ns. ns ++ names_from marker l.belongs (words after)) c.in_ok-push_name.ensures
    ∙ name-more l.names marker c.split_word.result.0.now (words after) l.belongs c.requires
    (sym c.is_marker.ensures ∙ c.if-is_marker.false) c.if-belongs.true
    ∙ ap (λ ws. l.names ++ names_from marker l.belongs ws) cut
    ∙ l.invariant

pub loop-marker-smaller : goal.loop-marker-smaller
loop-marker-smaller c =
    rest-shorter c.loop-marker.rest.now _ c.split_word.ensures.rest
    (sym c.is_empty.ensures ∙ c.loop-marker-test.true)

pub loop-marker-preserved : goal.loop-marker-preserved
loop-marker-preserved c =
    let l = c.loop-marker in
    let marker = c.args.marker.now in
    let cut = words-cut l.rest.now _ _ c.split_word.ensures.word c.split_word.ensures.rest in
    ap (λ ns. l.names ++ ns)
    (other-more marker c.split_word.result.0.now _ l.belongs c.requires
    (sym c.is_marker.ensures ∙ c.if-is_marker.false) c.if-belongs.false
    ∙ ap (names_from marker l.belongs) cut)
    ∙ l.invariant

pub returns : goal.returns
returns c =
    let l = c.loop-marker in
    let marker = c.args.marker.now in
    let none = no-words l.rest.now (sym c.is_empty.ensures ∙ c.loop-marker-test.false) in
    sym (append-nil l.names)
    ∙ ap (λ ns. l.names ++ ns)
    (sym (ap (names_from marker l.belongs) none ∙ none-left marker l.belongs))
    ∙ l.invariant
