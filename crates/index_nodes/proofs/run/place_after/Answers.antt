use Rattle.std.proofs.Common.{◌≡◌, sym, ap, ◌∙◌, ◌++◌, [], ◌+◌, ◌-◌, arith, drop, append-nil}
use Rattle.std.proofs.lemmas.Bool.{and_parts}
use Rattle.index_format.specs.Node.{values_in}
use Rattle.index_format.specs.Check.{whole_values}
use Rattle.index_nodes.specs.Places.{values_left}
use Rattle.index_nodes.specs.Runs.{after_values, run_values}
use Rattle.index_nodes.proofs.ReadLemmas.{if_none, if_some}
use Rattle.index_nodes.proofs.RunLemmas.{values_parts, whole_parts}
use Rattle.index_nodes.proofs.run.place_after.Goals as goal

pub returns-then-at-run-clause-none : goal.returns-then-at-run-clause-none
returns-then-at-run-clause-none c =
    let b = c.args.bytes.now in
    let at = c.args.at.now in
    let run = c.args.run.now in
    let sum : run.count ≡ at.left + (run.count - at.left) = omega (arith, c.if-at-run.true) in (
      values_in (run.count - at.left) (after_values at.left (drop at.start b)),
      sym (ap (λ k. values_in run.count (drop k b)) c.requires.start
          ∙ values_parts at.left (run.count - at.left) run.count (drop at.start b) sum),
    )

pub place_at-requires-clause-whole : goal.place_at-requires-clause-whole
place_at-requires-clause-whole c =
    let b = c.args.bytes.now in
    let at = c.args.at.now in
    let run = c.args.run.now in
    let sum : at.left ≡ run.count + (at.left - run.count) = omega (arith, c.if-at-run.false) in
    let ends : drop run.end b ≡ after_values run.count (drop at.start b)
    = c.requires.run.end ∙ ap (λ k. after_values run.count (drop k b)) c.requires.start in
    ap (whole_values (at.left - run.count)) ends
    ∙ (and_parts _ _
    (sym (whole_parts run.count (at.left - run.count) at.left (drop at.start b) sum)
    ∙ c.requires.place.place.whole)).1

pub returns-clause-none : goal.returns-clause-none
returns-clause-none c =
    let b = c.args.bytes.now in
    let at = c.args.at.now in
    let run = c.args.run.now in
    let sum : at.left ≡ run.count + (at.left - run.count) = omega (arith, c.if-at-run.false) in
    let ends : drop run.end b ≡ after_values run.count (drop at.start b)
    = c.requires.run.end ∙ ap (λ k. after_values run.count (drop k b)) c.requires.start in
    let parts
    = values_parts run.count (at.left - run.count) at.left (drop at.start b) sum
    ∙ (λ i. values_in run.count (drop (sym c.requires.start i) b)
    ++ values_in (at.left - run.count) (sym ends i)) in
    if_none c.place_at.result
    (λ e. (
      [],
      append-nil (values_left b at) ∙ parts ∙ ap (λ vs. run_values b run ++ vs) e
          ∙ append-nil (run_values b run),
    )) c.place_at.ensures.none

pub returns-clause-some : goal.returns-clause-some
returns-clause-some c =
    let b = c.args.bytes.now in
    let at = c.args.at.now in
    let run = c.args.run.now in
    let sum : at.left ≡ run.count + (at.left - run.count) = omega (arith, c.if-at-run.false) in
    let ends : drop run.end b ≡ after_values run.count (drop at.start b)
    = c.requires.run.end ∙ ap (λ k. after_values run.count (drop k b)) c.requires.start in
    let parts
    = values_parts run.count (at.left - run.count) at.left (drop at.start b) sum
    ∙ (λ i. values_in run.count (drop (sym c.requires.start i) b)
    ++ values_in (at.left - run.count) (sym ends i)) in
    if_some c.place_at.result _
    (λ next. values_left b at ≡ run_values b run ++ values_left b next)
    (λ next e. parts ∙ ap (λ vs. run_values b run ++ vs) (sym e)) c.place_at.ensures.some
