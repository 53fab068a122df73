use Rattle.std.proofs.Common.{refl}
use Rattle.std.proofs.lemmas.List.{drop_all}
use Rattle.px_evaluate.proofs.Loops.{drop_at, all_meant, meant_next}
use Rattle.px_evaluate.proofs.functions.all_meant.Goals as goal

pub loop-fun-preserved : goal.loop-fun-preserved
loop-fun-preserved c =
    meant_next c.args.scope.now.types.now c.args.scope.now.funs.now c.args.funs.now _ c.loop-fun.found c.loop-fun.invariant c.fun-item.result _
    (drop_at c.args.funs.now c.args.funs.now c.loop-fun.fun-index c.fun-item.result refl c.loop-fun-test.true c.fun-item.is)
    c.in_ok-one.field-0 c.in_ok-one.ensures c.in-Some.one c.in-Some.is c.push.new.self c.in_ok-push.ensures.ok

pub returns : goal.returns
returns c =
    all_meant c.args.scope.now.types.now c.args.scope.now.funs.now c.args.funs.now _ c.loop-fun.found c.loop-fun.invariant
    (drop_all c.loop-fun.fun-index c.args.funs.now c.loop-fun-test.false)
