use Rattle.std.proofs.Common.{drop, length, sym, ap, ◌∙◌}
use Rattle.std.specs.Prelude.{⊤}
use Rattle.std.proofs.lemmas.Result.{err_from_is_err_and}
use Rattle.outside_calls.specs.MemOutSeen.{MemOutSeen, mem_out_seen}
use Rattle.km_course.specs.Conclusion.{conclusion_status}
use Rattle.km_course.specs.Inner.{Left, inner_outcome}
use Rattle.command_modprobe.specs.Modprobe.{modprobe_course}
use Rattle.command_trial.specs.Trial.{inner_room}
use Rattle.command_trial.specs.Words.{modprobe_words}
use Rattle.command_trial.proofs.InsideSteps.{by_conclusion, came_inside, stopped}
use Rattle.command_trial.proofs.inside.load_made.Goals as goal

pub returns-in_err-hand_on : goal.returns-in_err-hand_on
returns-in_err-hand_on c =
    let p
    = err_from_is_err_and c.from_residual-in_err-hand_on.result
    c.from_residual-in_err-hand_on.ensures.1 in
    let outcome
    = inner_outcome inner_room
    ((modprobe_course (modprobe_words c.args.count)).run c.args.files.now.contents)
    c.args.files.now.contents in
    let left : Left
    = record {
      files = c.modprobe-outcome.new.files.contents;
      out = c.modprobe-outcome.new.out.bytes;
    } in
    stopped (λ (x : ⊤). left) _ outcome _ _ _ p.1 p.2
    (c.in_err-hand_on.ensures outcome left (by_conclusion c.concluded-conclusion.result outcome left
    _
    (came_inside modprobe_course _ (modprobe_words c.args.count) c.args.files.now
    c.modprobe-outcome.new.files c.in_ok-out.out c.in_ok-err.err c.modprobe-outcome.new.out
    c.in_ok-err.err c.concluded-conclusion.new.err c.modprobe-outcome.result
    (conclusion_status c.concluded-conclusion.result) _
    (c.as_slice.ensures ∙ c.in_ok-words.ensures) c.requires c.in_ok-out.ensures c.in_ok-err.ensures
    (c.modprobe-outcome.ensures (mem_out_seen c.in_ok-err.err)) c.concluded-conclusion.ensures
    (c.bytes.ensures
    ∙ sym (ap
    (λ (o : MemOutSeen). drop (length o.bytes) c.concluded-conclusion.new.err.bytes)
    c.in_ok-err.ensures)))))

pub returns : goal.returns
returns c =
    let outcome
    = inner_outcome inner_room
    ((modprobe_course (modprobe_words c.args.count)).run c.args.files.now.contents)
    c.args.files.now.contents in
    let left : Left
    = record {
      files = c.modprobe-outcome.new.files.contents;
      out = c.modprobe-outcome.new.out.bytes;
    } in
    c.in_ok-hand_on.ensures outcome left (by_conclusion c.concluded-conclusion.result outcome left _
    (came_inside modprobe_course _ (modprobe_words c.args.count) c.args.files.now
    c.modprobe-outcome.new.files c.in_ok-out.out c.in_ok-err.err c.modprobe-outcome.new.out
    c.in_ok-err.err c.concluded-conclusion.new.err c.modprobe-outcome.result
    (conclusion_status c.concluded-conclusion.result) _
    (c.as_slice.ensures ∙ c.in_ok-words.ensures) c.requires c.in_ok-out.ensures c.in_ok-err.ensures
    (c.modprobe-outcome.ensures (mem_out_seen c.in_ok-err.err)) c.concluded-conclusion.ensures
    (c.bytes.ensures
    ∙ sym (ap
    (λ (o : MemOutSeen). drop (length o.bytes) c.concluded-conclusion.new.err.bytes)
    c.in_ok-err.ensures))))
