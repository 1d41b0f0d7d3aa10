use Rattle.std.proofs.Common.{◌+◌, ◌^◌, Some, refl, sym, ap, ◌∙◌, arith, take_all}
use Rattle.std.proofs.lemmas.Bool.{lt-ltb}
use Rattle.std.specs.Str.Parse.{digits_value}
use Rattle.param_apply.specs.Numbers.{below}
use Rattle.param_apply.proofs.NumberLemmas.{below-in, below-out, digit-tested, digits_value-next}
use Rattle.param_apply.proofs.NumberLemmas.{digits_value-part}
use Rattle.param_apply.proofs.number.digits_value.Goals as goal

pub with_digit-next-requires-clause-digit : goal.with_digit-next-requires-clause-digit
with_digit-next-requires-clause-digit c =
    lt-ltb _ 16 (omega (
      arith,
      digit-tested c.args.radix c.args.digits.now c.loop-i.i c.loop-i-test.true
          c.requires.digits,
      c.requires.radix,
    ))

pub returns-then-next-ge-NUMBERS : goal.returns-then-next-ge-NUMBERS
returns-then-next-ge-NUMBERS c =
    let ds = c.args.digits.now in
    let next
    = c.with_digit-next.ensures
    ∙ digits_value-next c.args.radix ds c.loop-i.i c.loop-i.number _ c.loop-i-test.true
    c.loop-i.invariant.value refl in
    let part
    = digits_value-part c.args.radix ds (c.loop-i.i + 1) c.with_digit-next.result
    c.requires.some next in
    sym (below-out (2 ^ 64) (digits_value c.args.radix ds) (omega (arith, part)))

pub loop-i-preserved : goal.loop-i-preserved
loop-i-preserved c = record {
  value
      = c.with_digit-next.ensures
      ∙ digits_value-next c.args.radix c.args.digits.now c.loop-i.i c.loop-i.number _
      c.loop-i-test.true c.loop-i.invariant.value refl;
  small = omega arith;
}

pub returns : goal.returns
returns c =
    let ds = c.args.digits.now in
    let whole
    = c.loop-i.invariant.value
    ∙ ap (digits_value c.args.radix) (take_all c.loop-i.i ds (omega arith)) in
    sym (ap (λ n. below (2 ^ 64) (Some n)) (sym whole)
    ∙ below-in (2 ^ 64) c.loop-i.number (omega arith))
