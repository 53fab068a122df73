use Rattle.std.proofs.Common.{◌≡◌, ◌<◌, length, subst, sym, refl, [], arith}
use Rattle.px_schedule.specs.declared.value_end.ValueEnd.TheVariants.{NoMemory}
use Rattle.px_drive.specs.Arguments.{AreValuesOf, IsValueOf, none}
use Rattle.px_drive.proofs.ArgumentFacts.{one_value_more, first_bad}
use Rattle.px_drive.proofs.arguments.read_values.Goals as goal

pub loop-number-init : goal.loop-number-init
loop-number-init c = subst (AreValuesOf c.args.checked.now [] []) (sym c.new-values.ensures) none

pub returns-in-Err-Fault : goal.returns-in-Err-Fault
returns-in-Err-Fault c =
    let less : c.loop-number.number < length c.args.words.now = c.loop-number-test.true in (
      refl,
      first_bad c.args.checked.now c.args.types.now c.args.words.now c.loop-number.number c.index-types-number.result c.index-words-number.result c.loop-number.values
          (omega (arith, less, c.requires.as_many)) less c.index-types-number.is c.index-words-number.is c.loop-number.invariant
          (λ v is. let fault = c.in-Err-Fault.field-0-is in let differ : c.in-Err-Fault.field-0 ≡ NoMemory = c.in-Err-Fault.ensures.only v (subst (λ w. IsValueOf c.args.checked.now c.index-types-number.result w v) (sym c.as_str.ensures) is) in cc),
    )

pub loop-number-preserved : goal.loop-number-preserved
loop-number-preserved c =
    let less : c.loop-number.number < length c.args.words.now = c.loop-number-test.true in
    one_value_more c.args.checked.now c.args.types.now c.args.words.now c.loop-number.number c.index-types-number.result c.index-words-number.result c.in-Ok.value c.loop-number.values c.push.new.self
    (omega (arith, less, c.requires.as_many)) less c.index-types-number.is c.index-words-number.is c.loop-number.invariant
    (subst (λ w. IsValueOf c.args.checked.now c.index-types-number.result w c.in-Ok.value) c.as_str.ensures c.in-Ok.ensures.is) c.in_ok-push-in-Ok.ensures.ok
