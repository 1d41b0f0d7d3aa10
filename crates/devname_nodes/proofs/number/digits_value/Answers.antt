use Rattle.std.proofs.Common.{◌+◌, ◌^◌, ◌≤◌, length, refl, arith}
use Rattle.std.proofs.Math.Nat.{pow-le-pow_right}
use Rattle.km_names.proofs.Digits.{digit-tested, digits_value-next, digits_value-small}
use Rattle.devname_nodes.proofs.number.digits_value.Goals as goal

pub overflow_mul-number : goal.overflow_mul-number
overflow_mul-number c =
    let most = pow-le-pow_right {n = 10} (omega arith) c.requires.few in
    let few : 10 ^ length c.args.digits.now ≤ 2 ^ 64 = omega (arith, most) in
    let next
    = digits_value-next 10 c.args.digits.now c.loop-i.i c.loop-i.number _ c.loop-i-test.true
    c.loop-i.invariant refl in
    let small
    = digits_value-small 10 c.args.digits.now (c.loop-i.i + 1) (omega arith) few
    c.requires.digits in
    omega arith

pub digit_value-requires : goal.digit_value-requires
digit_value-requires c =
    digit-tested 10 c.args.digits.now c.loop-i.i c.loop-i-test.true c.requires.digits

pub overflow_add-number : goal.overflow_add-number
overflow_add-number c =
    let most = pow-le-pow_right {n = 10} (omega arith) c.requires.few in
    let few : 10 ^ length c.args.digits.now ≤ 2 ^ 64 = omega (arith, most) in
    let next
    = digits_value-next 10 c.args.digits.now c.loop-i.i c.loop-i.number c.digit_value.result
    c.loop-i-test.true c.loop-i.invariant c.digit_value.ensures in
    let small
    = digits_value-small 10 c.args.digits.now (c.loop-i.i + 1) (omega arith) few
    c.requires.digits in
    omega arith

pub loop-i-preserved : goal.loop-i-preserved
loop-i-preserved c =
    digits_value-next 10 c.args.digits.now c.loop-i.i c.loop-i.number c.digit_value.result
    c.loop-i-test.true c.loop-i.invariant c.digit_value.ensures
