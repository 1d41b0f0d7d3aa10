use Rattle.std.proofs.Common.{◌≡◌, ◌+◌, Some, take, is_some, ap, sym, ◌∙◌, arith}
use Rattle.std.proofs.lemmas.List.{take_all}
use Rattle.std.specs.Cmp.Lexicographic.{bytes_decides}
use Rattle.module_facts.specs.Times.{seen, times}
use Rattle.module_facts.proofs.TimesLemmas.{seen-again, seen-first, seen-more}
use Rattle.module_facts.proofs.checks.seen_names.Goals as goal
use Rattle.module_facts.proofs.checks.seen_names.Goals.{then-is_some, else-is_some}

pub loop-export-preserved : goal.loop-export-preserved
loop-export-preserved c = λ name.
    let exports = c.args.exports.now in
    let i = c.loop-export.export-index in
    let e = c.export-item.result in
    let n = times (take i exports) e.name in
    let found : c.get.result ≡ seen n
    = rw c.as_bytes-name.ensures at c.get.ensures ∙ c.loop-export.invariant e.name in
    let was : is_some (seen n) ≡ c.is_some.result = sym (c.is_some.ensures ∙ ap is_some found) in
    let next : Some c.if-is_some.times ≡ seen (n + 1) =
    elim c.if-is_some.branch [
      | then-is_some w ↦ rw w.times-is (seen-again n (was ∙ w.if-is_some.true))
      | else-is_some w ↦ rw w.times-is (seen-first n (was ∙ w.if-is_some.false))
    ] in
    rw c.as_bytes-name.ensures at (c.in_ok-put.ensures name)
    ∙ seen-more exports i e name c.if-is_some.times _ c.loop-export-test.true c.export-item.is
    (c.loop-export.invariant name)
    (λ same. next
    ∙ ap (λ m. seen (times (take i exports) m + 1)) ((bytes_decides e.name name).0 same))

pub returns : goal.returns
returns c =
    let exports = c.args.exports.now in
    let all = take_all c.loop-export.export-index exports (omega arith) in
    record { at = λ name. c.loop-export.invariant name ∙ ap (λ es. seen (times es name)) all }
