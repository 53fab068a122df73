use Rattle.px_types.proofs.DatatypeSteps.{datatype_back, own_answers}
use Rattle.px_types.proofs.datatypes.type_own.Goals as goal

pub returns-clause-same : goal.returns-clause-same
returns-clause-same c = datatype_back c.args.program.now c.push.new.self c.take_last.new.items _ c.take_last.result c.in_ok-push.ensures.ok c.take_last.ensures

pub returns-clause-answers : goal.returns-clause-answers
returns-clause-answers c =
    own_answers c.args.program.now c.args.raw.now c.push.new.self c.new.result c.type_cons-cons.result c.new.ensures c.in_ok-push.ensures.ok
    c.type_cons-cons.ensures
