use Rattle.std.proofs.Common.{add-one, arith}
use Rattle.std.proofs.Math.Nat.{pow-suc}
use Rattle.y4m_header.proofs.Numbers.{digits_value-take, tens}
use Rattle.y4m_header.proofs.text.digits_value.Goals as goal

pub overflow_mul-value : goal.overflow_mul-value
overflow_mul-value c = let far = tens c.loop-digit.digit-index (omega arith) in omega arith

pub overflow_add-value : goal.overflow_add-value
overflow_add-value c =
    let far = tens c.loop-digit.digit-index (omega arith) in
    omega (arith, c.type_inv.digits c.loop-digit.digit-index)

pub loop-digit-preserved : goal.loop-digit-preserved
loop-digit-preserved c =
    let i = c.loop-digit.digit-index in
    let more = digits_value-take c.args.digits.now i c.requires.digits c.loop-digit-test.true in
    let digit = c.requires.digits i 0 c.loop-digit-test.true in
    record { is = omega (arith, more); small = rw (add-one, pow-suc) (omega (arith, digit.1)) }
