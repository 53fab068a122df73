use Rattle.std.proofs.Common.{refl}
use Rattle.std.proofs.lemmas.Bool.{false≢true}
use Rattle.std.proofs.lemmas.Option.{slice_get_read}
use Rattle.px_descent.specs.Around.{bound_of}
use Rattle.px_descent.proofs.Lowering.{lowers_here, none_more, none_at_all}
use Rattle.px_descent.proofs.stuck.lowers_kept.Goals as goal

pub returns-then-lowers_at : goal.returns-then-lowers_at
returns-then-lowers_at c =
    let s = c.args.search.now in
    let there = slice_get_read c.args.args.now _ c.loop-index.index c.index-args-index.result refl c.loop-index-test.true c.index-args-index.is in
    let found = lowers_here s.program.now s.def s.definition.now c.args.args.now (bound_of c.args.around.now) c.loop-index.index
    c.index-args-index.result c.lowers_at.result there c.lowers_at.ensures c.if-lowers_at.true in
    ((λ _. found), (λ _. refl))

pub loop-index-preserved : goal.loop-index-preserved
loop-index-preserved c =
    let s = c.args.search.now in
    let there = slice_get_read c.args.args.now _ c.loop-index.index c.index-args-index.result refl c.loop-index-test.true c.index-args-index.is in
    none_more s.program.now s.def s.definition.now c.args.args.now (bound_of c.args.around.now) c.loop-index.index c.index-args-index.result
    c.lowers_at.result there c.lowers_at.ensures c.if-lowers_at.false c.loop-index.invariant

pub returns : goal.returns
returns c =
    let s = c.args.search.now in
    let none = none_at_all s.program.now s.def s.definition.now c.args.args.now (bound_of c.args.around.now) c.loop-index.index
    c.loop-index-test.false c.loop-index.invariant in
    ((λ it. absurd (false≢true it)), (λ found. absurd (none found)))
