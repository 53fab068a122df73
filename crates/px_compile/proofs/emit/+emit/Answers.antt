use Rattle.std.proofs.Common.{◌≡◌, ◌<◌, ◌-◌, ◌∙◌, suc, length, arith}
use Rattle.px_compile.proofs.CodeSteps.{arm_stands}
use Rattle.px_compile.proofs.emit.+emit.Goals as goal

pub emit_arms-loop-con-preserved : goal.emit_arms-loop-con-preserved
emit_arms-loop-con-preserved t c =
    let next : c.loop-con.con ≡ suc (c.loop-con.con - 1) = omega (arith, c.loop-con-test.true) in
    let within : c.loop-con.con - 1 < length c.args.arms.now = omega (arith, c.loop-con-test.true, c.loop-con.auto.con) in
    let before : c.len.result ≡ length c.args.code.now.items = omega (arith, c.len.ensures, c.args.code.now.ok) in
    let after : c.len-in-loop-con.result ≡ length c.emit_term.new.code.items = omega (arith, c.len-in-loop-con.ensures, c.emit_term.new.code.ok) in
    let inner = c.in_ok-within.field-0 in
    arm_stands c.args.scope.now.program.now c.args.datatype c.args.arms.now c.args.scope.now.locals c.args.code.now.items
    (c.loop-con.con - 1) c.loop-con.con c.loop-con.code.items c.loop-con.places.items c.loop-con.invariant next within
    c.index-arms-con.result c.index-arms-con.is c.in_ok-fields.fields c.in_ok-end.end inner.locals c.in_ok-number.field-0
    (c.in_ok-fields.ensures ∙ c.field_count.ensures) (c.in_ok-end.ensures ∙ before) c.in_ok-within.ensures.locals
    c.put.new.code.items c.put-in-loop-con.new.code.items c.emit_term.new.code.items
    c.in_ok-put.ensures c.in_ok-put-2.ensures inner.program.now c.in_ok-within.ensures.program
    c.in_ok-emit_term.ensures (c.in_ok-number.ensures ∙ after) c.push.new.self.items c.in_ok-push.ensures.items
