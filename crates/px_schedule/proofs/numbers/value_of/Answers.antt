use Rattle.std.proofs.Common.{◌<◌, ◌≤◌, ◌+◌, ◌*◌, ◌-◌, ◌^◌, length, get_or, refl, arith}
use Rattle.px_schedule.proofs.DigitFacts.{front_too_large, value_more}
use Rattle.px_schedule.proofs.numbers.value_of.Goals as goal

-- the digits so far, times ten, are too large
pub returns-in_err-checked_mul : goal.returns-in_err-checked_mul
returns-in_err-checked_mul c =
    let within : c.loop-digit.digit-index < length c.args.digits.now = c.loop-digit-test.true in
    let large : 2 ^ 64 ≤ c.loop-digit.number * 10 + (get_or c.args.digits.now c.loop-digit.digit-index 0 - 48) = omega (arith, c.in_err-checked_mul.ensures) in
    rw c.from_residual.ensures (front_too_large c.args.digits.now c.loop-digit.digit-index _ c.loop-digit.number within c.requires refl c.loop-digit.invariant.value large)

-- the digits so far with this one are too large
pub returns-in_err-number : goal.returns-in_err-number
returns-in_err-number c =
    let within : c.loop-digit.digit-index < length c.args.digits.now = c.loop-digit-test.true in
    let large : 2 ^ 64 ≤ c.loop-digit.number * 10 + (get_or c.args.digits.now c.loop-digit.digit-index 0 - 48) = omega (arith, c.in_err-number.ensures, c.in_ok-checked_mul.ensures, c.from.ensures) in
    rw c.from_residual-in_err-number.ensures (front_too_large c.args.digits.now c.loop-digit.digit-index _ c.loop-digit.number within c.requires refl c.loop-digit.invariant.value large)

-- one digit more
pub loop-digit-preserved : goal.loop-digit-preserved
loop-digit-preserved c =
    let within : c.loop-digit.digit-index < length c.args.digits.now = c.loop-digit-test.true in
    let more = value_more c.args.digits.now c.loop-digit.digit-index (get_or c.args.digits.now c.loop-digit.digit-index 0) c.loop-digit.number within c.requires refl c.loop-digit.invariant.value in
    record {
      value = omega (arith, more, c.in_ok-number.ensures, c.in_ok-checked_mul.ensures, c.from.ensures);
      small = omega (arith, c.in_ok-number.ensures);
    }
