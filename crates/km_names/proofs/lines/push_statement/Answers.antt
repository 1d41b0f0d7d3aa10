use Rattle.std.proofs.Common.{◌≡◌, ◌∙◌, true}
use Rattle.std.proofs.lemmas.Result.{on_ok_weaker}
use Rattle.km_names.specs.Lines.{is_statement}
use Rattle.km_names.proofs.LineSteps.{nothing-pushed, something-pushed, nothing-first}
use Rattle.km_names.proofs.LineSteps.{comment-first, other-first}
use Rattle.km_names.proofs.lines.push_statement.Goals as goal

pub returns-in-None : goal.returns-in-None
returns-in-None c =
    record {
      ok
          = nothing-pushed _ _ _ _ c.trimmed-text.ensures (nothing-first _ c.in-None.ensures.value);
    }

pub returns-in-Some-eq35 : goal.returns-in-Some-eq35
returns-in-Some-eq35 c =
    record {
      ok
          = nothing-pushed _ _ _ _ c.trimmed-text.ensures
          (comment-first _ _ c.in-Some-eq35.ensures.value c.in-Some-eq35.field-0-test);
    }

pub returns-in_ok-from_slice-in-Some : goal.returns-in_ok-from_slice-in-Some
returns-in_ok-from_slice-in-Some c =
    let on : is_statement c.trimmed-text.result.now ≡ true
    = other-first _ _ c.in-Some.ensures.value c.in-Some.field-0-test.1 in
    record {
      ok
          = on_ok_weaker c.push.result
          (λ pushed. pushed
          ∙ something-pushed _ _ _ _ _ c.trimmed-text.ensures on
          c.in_ok-from_slice-in-Some.ensures) c.push.ensures.ok;
    }
