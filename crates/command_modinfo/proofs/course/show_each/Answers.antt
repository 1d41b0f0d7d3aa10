use Rattle.std.proofs.Common.{◌+◌, drop, sym, subst}
use Rattle.std.specs.Prelude.{Ok, ⊤}
use Rattle.std.proofs.lemmas.List.{drop_all}
use Rattle.std.proofs.lemmas.Result.{err_from_is_err_and}
use Rattle.km_course.specs.World.{world}
use Rattle.km_course.specs.Follows.{Follows}
use Rattle.km_course.proofs.Steps.{next, exits, gave}
use Rattle.command_modinfo.specs.Modinfo.{shows_each}
use Rattle.command_modinfo.proofs.SourceSteps.{next-word, shows_rest}
use Rattle.command_modinfo.proofs.course.show_each.Goals as goal

pub returns-in_err-show_word : goal.returns-in_err-show_word
returns-in_err-show_word g c = λ err.
    let p = err_from_is_err_and c.from_residual.result c.from_residual.ensures.1 in
    let words = c.args.words.now in
    c.loop-word.invariant err _ _
    (subst (λ rest. Follows (λ (x : ⊤). x) (shows_each c.args.source.now c.args.options.now rest)
    (world (g.F.Reads.seen c.loop-word.files) (g.O.Out.seen c.loop-word.out) err)
    (world (g.F.Reads.seen c.show_word.new.files) (g.O.Out.seen c.show_word.new.out) err)
    c.from_residual.result)
    (sym (next-word words c.loop-word.word-index c.word-item.result c.loop-word-test.true
    c.word-item.is))
    (exits _ _ (shows_rest c.args.source.now c.args.options.now
    (drop (c.loop-word.word-index + 1) words)) p.1 p.2 (c.in_err-show_word.ensures err)))

pub loop-word-preserved : goal.loop-word-preserved
loop-word-preserved g c = λ err new r after.
    let words = c.args.words.now in
    c.loop-word.invariant err new r
    (subst (λ rest. Follows (λ (x : ⊤). x) (shows_each c.args.source.now c.args.options.now rest)
    (world (g.F.Reads.seen c.loop-word.files) (g.O.Out.seen c.loop-word.out) err) new r)
    (sym (next-word words c.loop-word.word-index c.word-item.result c.loop-word-test.true
    c.word-item.is))
    (next (shows_rest c.args.source.now c.args.options.now
    (drop (c.loop-word.word-index + 1) words)) (c.in_ok-show_word.ensures err) after))

pub returns : goal.returns
returns g c = λ err.
    c.loop-word.invariant err _ _
    (subst (λ rest. Follows (λ (x : ⊤). x) (shows_each c.args.source.now c.args.options.now rest)
    (world (g.F.Reads.seen c.loop-word.files) (g.O.Out.seen c.loop-word.out) err)
    (world (g.F.Reads.seen c.loop-word.files) (g.O.Out.seen c.loop-word.out) err) (Ok tt))
    (sym (drop_all c.loop-word.word-index c.args.words.now c.loop-word-test.false))
    (gave (λ (x : ⊤). x) _ tt))
