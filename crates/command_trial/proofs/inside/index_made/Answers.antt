use Rattle.std.proofs.Common.{List, ℕ, length, drop, ap, ◌∙◌}
use Rattle.std.specs.Prelude.{⊤}
use Rattle.std.proofs.lemmas.Result.{err_from_is_err_and}
use Rattle.km_course.specs.Conclusion.{conclusion_status}
use Rattle.km_course.specs.Inner.{Left, inner_outcome}
use Rattle.command_depmod.specs.Depmod.{depmod_course}
use Rattle.command_trial.specs.Trial.{inner_room}
use Rattle.command_trial.specs.Words.{depmod_words}
use Rattle.command_trial.proofs.InsideSteps.{by_conclusion, came_inside, stopped}
use Rattle.command_trial.proofs.inside.index_made.Goals as goal

pub returns-in_err-hand_on-clause-left : goal.returns-in_err-hand_on-clause-left
returns-in_err-hand_on-clause-left c =
    let p
    = err_from_is_err_and c.from_residual-in_err-hand_on.result
    c.from_residual-in_err-hand_on.ensures.1 in
    let outcome
    = inner_outcome inner_room ((depmod_course depmod_words).run c.args.files.now.contents)
    c.args.files.now.contents in
    let left : Left
    = record
    { files = c.depmod-outcome.new.files.contents; out = c.depmod-outcome.new.out.bytes } in
    stopped (λ (x : ⊤). left) _ outcome _ _ _ p.1 p.2
    (c.in_err-hand_on.ensures outcome left (by_conclusion c.concluded-conclusion.result outcome left
    _
    (came_inside depmod_course _ depmod_words c.args.files.now c.depmod-outcome.new.files
    c.in_ok-out.out c.in_ok-err.err c.depmod-outcome.new.out c.depmod-outcome.new.err
    c.concluded-conclusion.new.err c.depmod-outcome.result
    (conclusion_status c.concluded-conclusion.result) _
    (c.as_slice.ensures ∙ c.in_ok-words.ensures) c.requires c.in_ok-out.ensures c.in_ok-err.ensures
    c.depmod-outcome.ensures c.concluded-conclusion.ensures
    (c.bytes_from.ensures
    ∙ ap (λ (b : List ℕ). drop (length b) c.bytes.result.now) c.bytes-warned.ensures
    ∙ ap (drop (length c.depmod-outcome.new.err.bytes)) c.bytes.ensures))))

pub returns-clause-left : goal.returns-clause-left
returns-clause-left c =
    let outcome
    = inner_outcome inner_room ((depmod_course depmod_words).run c.args.files.now.contents)
    c.args.files.now.contents in
    let left : Left
    = record
    { files = c.depmod-outcome.new.files.contents; out = c.depmod-outcome.new.out.bytes } in
    c.in_ok-hand_on.ensures outcome left (by_conclusion c.concluded-conclusion.result outcome left _
    (came_inside depmod_course _ depmod_words c.args.files.now c.depmod-outcome.new.files
    c.in_ok-out.out c.in_ok-err.err c.depmod-outcome.new.out c.depmod-outcome.new.err
    c.concluded-conclusion.new.err c.depmod-outcome.result
    (conclusion_status c.concluded-conclusion.result) _
    (c.as_slice.ensures ∙ c.in_ok-words.ensures) c.requires c.in_ok-out.ensures c.in_ok-err.ensures
    c.depmod-outcome.ensures c.concluded-conclusion.ensures
    (c.bytes_from.ensures
    ∙ ap (λ (b : List ℕ). drop (length b) c.bytes.result.now) c.bytes-warned.ensures
    ∙ ap (drop (length c.depmod-outcome.new.err.bytes)) c.bytes.ensures)))
