use Rattle.std.proofs.Common.{◌≡◌, ◌==◌, ℕ, cond, length, get_or, sym, ap, ◌∙◌, arith}
use Rattle.std.proofs.lemmas.Bool.{false_from_ne_true}
use Rattle.std.proofs.lemmas.List.{get_or-map, length-map}
use Rattle.std.proofs.lemmas.Slice.Eq.{bytes_eq-Decides}
use Rattle.km_names.specs.Path.{underscored}
use Rattle.dependency_lines.proofs.Kept.{same-lists}
use Rattle.dependency_lines.proofs.path_name.has_name.Goals as goal

pub returns-then-with_underscore-name : goal.returns-then-with_underscore-name
returns-then-with_underscore-name c =
    let text = c.args.text.now in
    let name = c.args.name.now in
    let i = c.loop-i.i in
    let f = λ (b : ℕ). cond (b == 45) 95 b in
    let read : get_or (underscored text) i 0 ≡ f (get_or text i 0)
    = get_or-map f text i 0 0 c.loop-i-test.true in
    sym (false_from_ne_true _
    (λ t. c.if-with_underscore-name.true
    (c.with_underscore.ensures ∙ sym read
    ∙ ap (λ xs. get_or xs i 0) ((bytes_eq-Decides (underscored text) name).0 t))))

pub returns : goal.returns
returns c =
    let text = c.args.text.now in
    let name = c.args.name.now in
    let f = λ (b : ℕ). cond (b == 45) 95 b in
    let long : length (underscored text) ≡ length text = length-map text f in
    sym ((bytes_eq-Decides (underscored text) name).1
    (same-lists (underscored text) name (omega (arith, long, c.if-text-name.false))
    (λ k l. c.loop-i.invariant k (omega (arith, l, long, c.loop-i-test.false)))))
