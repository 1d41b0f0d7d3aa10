use Rattle.std.proofs.Common.{◌≡◌, ◌++◌, [], codes, IfOk, append-nil, subst, ◌∙◌}
use Rattle.std.specs.Fmt.{decimal}
use Rattle.km_course.proofs.refusal.bad_line.Goals as goal

pub returns : goal.returns
returns c =
    let said : c.as_bytes-2.result.now ++ [] ≡ decimal c.args.number
    = append-nil c.as_bytes-2.result.now ∙ c.as_bytes-2.ensures.value ∙ c.in_ok-number.ensures.ok in
    subst (λ text. IfOk c.concat.result (λ t. t ≡ text))
    (λ i. c.as_bytes.ensures i ++ (codes ": bad line " ++ said i)) c.concat.ensures
