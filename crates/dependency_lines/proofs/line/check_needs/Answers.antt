use Rattle.std.proofs.Common.{◌≡◌, ℕ, ◌+◌, ◌<◌, Bool, true, false, List, [], length, take, get_or}
use Rattle.std.proofs.Common.{Some, None, refl, ap, sym, ◌∙◌, inr, arith}
use Rattle.std.specs.Prelude.{◌&&◌, ◌==◌, not}
use Rattle.std.specs.List.{after_first, find}
use Rattle.std.specs.Option.{option_map}
use Rattle.std.proofs.lemmas.List.{get_or_default}
use Rattle.index_format.specs.Listing.{KeyValue}
use Rattle.dependency_lines.specs.GoodPaths.{are_good_needs, begins_line, is_good}
use Rattle.dependency_lines.specs.Modules.{bad_among, is_line_of, module_at}
use Rattle.dependency_lines.specs.declared.fault.LineFault.TheVariants.{BadLine}
use Rattle.dependency_lines.proofs.Finds.{plain-here, plain-more, option-none}
use Rattle.dependency_lines.proofs.Lines.{line-begins}
use Rattle.dependency_lines.proofs.line.check_needs.Goals as goal

module _ (has : List ℕ → Bool) (vs : List KeyValue) (i : ℕ) (good : Bool) (low : i < length vs)
    (none : bad_among has (take i vs) ≡ None)
    (begins : begins_line (module_at vs i).0 (module_at vs i).1.1 ≡ true)
    (needs : good ≡ are_good_needs has (after_first (λ b. b == 58) (module_at vs i).1.1)) where
  abbrev test : KeyValue → Bool
  test m = not (is_line_of has m.0 m.1.1)

  is : is_line_of has (module_at vs i).0 (module_at vs i).1.1 ≡ good
  is =
      line-begins has (module_at vs i).0 (module_at vs i).1.1
      ∙ ap (λ b. b && are_good_needs has (after_first (λ b. b == 58) (module_at vs i).1.1)) begins
      ∙ sym needs

  own : module_at vs i ≡ get_or vs i (module_at vs i)
  own = get_or_default vs i ([], (0, [])) (module_at vs i) low

  before : find test (take i vs) ≡ None
  before = option-none (λ (m : KeyValue). m.0) (find test (take i vs)) none

  here : good ≡ false → bad_among has vs ≡ Some (module_at vs i).0
  here bad
      = ap (option_map (λ (m : KeyValue). m.0))
      (plain-here test vs i (module_at vs i) low own before (ap not (is ∙ bad)))

  more : good ≡ true → bad_among has (take (i + 1) vs) ≡ None
  more fine
      = ap (option_map (λ (m : KeyValue). m.0))
      (plain-more test vs i (module_at vs i) low own before (ap not (is ∙ fine)))

pub loop-place-init : goal.loop-place-init
loop-place-init g c =
    let has = g.K.KnownNames.has c.args.known.now in
    record {
      none = refl;
      paths = c.in_ok-paths.ensures (is_good has);
      lists = c.in_ok-lists.ensures (are_good_needs has);
    }

pub returns-then-not-branch-clause-err : goal.returns-then-not-branch-clause-err
returns-then-not-branch-clause-err g c =
    let has = g.K.KnownNames.has c.args.known.now in
    let vs = c.args.lines.now in
    let low : c.loop-place.place < length vs
    = omega (arith, c.loop-place-test.true, c.len-place-end.ensures) in
    let needs
    = c.in_ok-are_found_good.ensures.good ∙ ap (are_good_needs has) c.needs-needs.ensures in
    inr (ap (option_map BadLine)
    (here has vs c.loop-place.place c.in_ok-are_found_good.field-0 low
    c.loop-place.invariant.none (c.requires.begin c.loop-place.place ([], (0, [])) low) needs
    c.if-not-branch.true)
    ∙ ap (λ n. Some (BadLine n)) (sym (c.in_ok-from_slice.ensures ∙ c.name.ensures)))

pub loop-place-preserved : goal.loop-place-preserved
loop-place-preserved g c =
    let has = g.K.KnownNames.has c.args.known.now in
    let vs = c.args.lines.now in
    let low : c.loop-place.place < length vs
    = omega (arith, c.loop-place-test.true, c.len-place-end.ensures) in
    let needs
    = c.in_ok-are_found_good.ensures.good ∙ ap (are_good_needs has) c.needs-needs.ensures in
    record {
      none
          = more has vs c.loop-place.place c.in_ok-are_found_good.field-0 low
          c.loop-place.invariant.none (c.requires.begin c.loop-place.place ([], (0, [])) low) needs
          c.if-not-branch.false;
      paths = c.in_ok-are_found_good.ensures.paths;
      lists = c.in_ok-are_found_good.ensures.lists;
    }
