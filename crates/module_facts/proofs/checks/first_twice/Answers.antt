use Rattle.std.proofs.Common.{◌≡◌, true, false, cond, ltb, Some, drop, find, ◌+◌, ap, sym, ◌∙◌}
use Rattle.std.proofs.Common.{arith}
use Rattle.module_facts.specs.Faults.{is_twice}
use Rattle.module_facts.specs.Times.{is_repeated, times}
use Rattle.module_facts.proofs.FindLemmas.{find-item}
use Rattle.module_facts.proofs.TimesLemmas.{seen-twice}
use Rattle.module_facts.proofs.checks.first_twice.Goals as goal

pub returns-then-is_repeated : goal.returns-then-is_repeated
unfolding is_twice
returns-then-is_repeated c =
    let exports = c.args.exports.now in
    let i = c.loop-export.export-index in
    let e = c.export-item.result in
    let number : c.is_repeated.result ≡ ltb 1 (times exports e.name) =
    rw c.as_bytes.ensures at c.is_repeated.ensures
    ∙ ap is_repeated (c.in_ok-table.ensures.at e.name) ∙ seen-twice (times exports e.name) in
    let twice : is_twice exports e ≡ true = sym number ∙ c.if-is_repeated.true in
    sym
    (c.loop-export.invariant
    ∙ find-item (is_twice exports) exports i e c.loop-export-test.true c.export-item.is
    ∙ ap (λ b. cond b (Some e) (find (is_twice exports) (drop (i + 1) exports))) twice)

pub loop-export-preserved : goal.loop-export-preserved
unfolding is_twice
loop-export-preserved c =
    let exports = c.args.exports.now in
    let i = c.loop-export.export-index in
    let e = c.export-item.result in
    let number : c.is_repeated.result ≡ ltb 1 (times exports e.name) =
    rw c.as_bytes.ensures at c.is_repeated.ensures
    ∙ ap is_repeated (c.in_ok-table.ensures.at e.name) ∙ seen-twice (times exports e.name) in
    let once : is_twice exports e ≡ false = sym number ∙ c.if-is_repeated.false in
    c.loop-export.invariant
    ∙ find-item (is_twice exports) exports i e c.loop-export-test.true c.export-item.is
    ∙ ap (λ b. cond b (Some e) (find (is_twice exports) (drop (i + 1) exports))) once
