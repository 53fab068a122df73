use Rattle.px_terms.specs.Descent.{walk}
use Rattle.px_descent.specs.Around.{bound_of}
use Rattle.px_descent.proofs.Lowering.{own_position, other_position, no_position}
use Rattle.px_descent.proofs.stuck.lowers_at.Goals as goal

pub returns-then-own-position : goal.returns-then-own-position
returns-then-own-position c =
    let s = c.args.search.now in
    own_position s.program.now s.def s.definition.now c.in-Below.own c.args.position
    (walk s.program.now s.def c.args.arg.now (bound_of c.args.around.now)).stands c.is_kept.result
    c.if-own-position.true (c.in-Below.ensures s.program.now s.def) c.is_kept.ensures

pub returns-else-own-position : goal.returns-else-own-position
returns-else-own-position c =
    let s = c.args.search.now in
    other_position s.program.now s.def s.definition.now c.in-Below.own c.args.position
    (walk s.program.now s.def c.args.arg.now (bound_of c.args.around.now)).stands
    c.if-own-position.false (c.in-Below.ensures s.program.now s.def)

pub returns-in_default : goal.returns-in_default
returns-in_default c =
    let s = c.args.search.now in
    no_position s.program.now s.def s.definition.now c.standing.result c.args.position
    (walk s.program.now s.def c.args.arg.now (bound_of c.args.around.now)).stands
    c.in_default.not-Below (c.standing.ensures s.program.now s.def)
