use Rattle.std.proofs.Common.{◌≡◌, ◌==◌, ◌+◌, ◌∙◌, drop, sym, ap, subst, arith}
use Rattle.std.specs.Prelude.{◌&&◌, IfOk}
use Rattle.std.specs.List.{after_first}
use Rattle.std.proofs.lemmas.List.{take_rest}
use Rattle.dependency_lines.specs.GoodPaths.{are_good_needs}
use Rattle.dependency_lines.proofs.Lines.{after-rest, any-long, line-begins}
use Rattle.dependency_lines.proofs.Own.{begins-colon}
use Rattle.dependency_lines.proofs.line.is_line.Goals as goal

pub returns-in_default-clause-good : goal.returns-in_default-clause-good
returns-in_default-clause-good g c =
    let has = g.K.KnownNames.has c.args.known.now in
    let line = c.args.line.now in
    let begins = rw c.in_default.is at c.own_length.ensures in
    sym (line-begins has c.args.name.now line
    ∙ ap (λ b. b && are_good_needs has (after_first (λ b. b == 58) line)) begins)

pub slice_bounds-are_found_good-count : goal.slice_bounds-are_found_good-count
slice_bounds-are_found_good-count g c =
    let w = c.in-Some.ensures in
    let long
    = any-long (λ b. b == 58) c.args.line.now (begins-colon c.args.name.now c.args.line.now w.0) in
    omega (arith, long, w.1)

pub slice_bounds-are_found_good-start : goal.slice_bounds-are_found_good-start
slice_bounds-are_found_good-start g c =
    let w = c.in-Some.ensures in
    let long
    = any-long (λ b. b == 58) c.args.line.now (begins-colon c.args.name.now c.args.line.now w.0) in
    omega (arith, long, w.1)

pub returns-clause-good : goal.returns-clause-good
returns-clause-good g c =
    let has = g.K.KnownNames.has c.args.known.now in
    let line = c.args.line.now in
    let w = c.in-Some.ensures in
    let colon = begins-colon c.args.name.now line w.0 in
    subst (λ b. IfOk c.are_found_good.result (λ good. good ≡ b))
    (ap (are_good_needs has) (take_rest line (c.in-Some.length + 1))
    ∙ ap (λ n. are_good_needs has (drop (n + 1) line)) w.1
    ∙ ap (are_good_needs has) (after-rest (λ b. b == 58) line colon)
    ∙ sym (line-begins has c.args.name.now line
    ∙ ap (λ b. b && are_good_needs has (after_first (λ b. b == 58) line)) w.0))
    c.are_found_good.ensures.good
