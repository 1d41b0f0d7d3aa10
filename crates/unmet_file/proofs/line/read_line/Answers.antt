use Rattle.std.proofs.Common.{◌≡◌, ◌∙◌}
use Rattle.std.proofs.lemmas.Result.{IfOk-weaker}
use Rattle.unmet_file.specs.Line.{unmet_line}
use Rattle.unmet_file.specs.Forms.{stated}
use Rattle.unmet_file.proofs.FormSteps.{form-states, no-form}
use Rattle.unmet_file.proofs.line.read_line.Goals as goal

pub returns-in-Some : goal.returns-in-Some
returns-in-Some c =
    IfOk-weaker c.stated.result
    (λ unbound. unbound ≡ stated c.in-Some.form c.split_at_byte.result.1.now)
    (λ unbound. unbound ≡ unmet_line c.args.line.now)
    (λ unbound is. is
    ∙ form-states c.args.line.now c.split_at_byte.result.0.now c.split_at_byte.result.1.now
    c.in-Some.form c.split_at_byte.ensures.before c.split_at_byte.ensures.after
    c.in-Some.ensures) c.stated.ensures

pub returns-in-None : goal.returns-in-None
returns-in-None c =
    no-form c.args.line.now c.split_at_byte.result.0.now c.split_at_byte.ensures.before
    c.in-None.ensures
