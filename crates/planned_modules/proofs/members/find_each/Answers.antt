use Rattle.std.proofs.Common.{◌≡◌, ◌==◌, ◌+◌, ◌++◌, ◌∷◌, [], true, false, Some, None, ap, sym, ◌∙◌}
use Rattle.std.proofs.Common.{inr, take, arith}
use Rattle.std.proofs.lemmas.List.{take_all}
use Rattle.std.specs.List.{find}
use Rattle.std.specs.Option.{option_map}
use Rattle.std.proofs.lemmas.Bool.{eq-eqb, eqb-true, false_from_ne_true}
use Rattle.name_lookup.specs.Found.{found}
use Rattle.planned_modules.specs.Members.{unfound, founds_of, is_unfound}
use Rattle.plan_sources.specs.Planner.{sources_of}
use Rattle.dependency_lines.proofs.Finds.{plain-here, plain-more}
use Rattle.planned_modules.proofs.Finds.{map-more}
use Rattle.planned_modules.proofs.members.find_each.Goals as goal

pub returns-then-found-eq0-clause-err : goal.returns-then-found-eq0-clause-err
returns-then-found-eq0-clause-err c =
    let p = is_unfound (sources_of c.args.planner.now) in
    let e = c.as_slice-name-items.ensures in
    let none : find (is_unfound (sources_of c.args.planner.now))
    (take c.loop-name.name-index c.as_slice-name-items.result.now)
    ≡ None
    = ap (λ ys. find (is_unfound (sources_of c.args.planner.now))
    (take c.loop-name.name-index ys)) e
    ∙ c.loop-name.invariant.passed in
    let zero : (c.in_ok-found.found.list == 0) ≡ true
    = eq-eqb c.in_ok-found.found.list 0 c.if-found-eq0.true in
    inr (ap (option_map unfound)
    (ap (find p) (sym e)
    ∙ plain-here p c.as_slice-name-items.result.now c.loop-name.name-index
    c.name-item.result c.loop-name-test.true c.name-item.is none
    (ap (λ f. f.list == 0) (sym c.in_ok-found.ensures) ∙ zero))
    ∙ ap (λ o. Some o) (sym c.in_ok-not_found.ensures))

pub loop-name-preserved : goal.loop-name-preserved
loop-name-preserved c =
    let p = is_unfound (sources_of c.args.planner.now) in
    let s = sources_of c.args.planner.now in
    let i = c.loop-name.name-index in
    let e = c.as_slice-name-items.ensures in
    let none : find (is_unfound (sources_of c.args.planner.now))
    (take c.loop-name.name-index c.as_slice-name-items.result.now)
    ≡ None
    = ap (λ ys. find (is_unfound (sources_of c.args.planner.now))
    (take c.loop-name.name-index ys)) e
    ∙ c.loop-name.invariant.passed in
    let some : (c.in_ok-found.found.list == 0) ≡ false
    = false_from_ne_true _ (λ t. c.if-found-eq0.false (eqb-true c.in_ok-found.found.list 0 t))
    in
    record {
      founds =
          c.in_ok-push.ensures.items
          ∙ (λ j. (c.loop-name.invariant.founds ∙ ap (λ ys. founds_of s (take i ys)) (sym e)) j
          ++ c.in_ok-found.ensures j ∷ [])
          ∙ sym (map-more (found s.rules s.maps s.use_blacklist) c.as_slice-name-items.result.now i
          c.name-item.result c.loop-name-test.true c.name-item.is)
          ∙ ap (λ ys. founds_of s (take (i + 1) ys)) e;
      passed =
          ap (λ ys. find p (take (i + 1) ys)) (sym e)
          ∙ plain-more p c.as_slice-name-items.result.now i c.name-item.result c.loop-name-test.true
          c.name-item.is none (ap (λ f. f.list == 0) (sym c.in_ok-found.ensures) ∙ some);
    }

pub returns-clause-found : goal.returns-clause-found
returns-clause-found c =
    let s = sources_of c.args.planner.now in
    let i = c.loop-name.name-index in
    let items = c.as_slice-name-items.result.now in
    c.loop-name.invariant.founds
    ∙ ap (λ ys. founds_of s (take i ys)) (sym c.as_slice-name-items.ensures)
    ∙ ap (founds_of s) (take_all i items (omega (arith, c.loop-name-test.false))
    ∙ c.as_slice-name-items.ensures)

pub returns-clause-passed : goal.returns-clause-passed
returns-clause-passed c =
    let p = is_unfound (sources_of c.args.planner.now) in
    let i = c.loop-name.name-index in
    let items = c.as_slice-name-items.result.now in
    sym (ap (find p) (take_all i items (omega (arith, c.loop-name-test.false))
    ∙ c.as_slice-name-items.ensures))
    ∙ ap (λ ys. find p (take i ys)) c.as_slice-name-items.ensures
    ∙ c.loop-name.invariant.passed
