use Rattle.std.proofs.Common.{◌∙◌}
use Rattle.px_types.proofs.HeadSteps.{other_called, earlier_called, itself_called, later_called, behind_called}
use Rattle.px_types.proofs.heads.can_call.Goals as goal

pub returns-then-number-own : goal.returns-then-number-own
returns-then-number-own c =
    earlier_called c.args.env.now.program.now c.args.env.now.place c.args.head c.in-Def.number c.in-Def.is c.in-Body.own c.in-Body.is c.args.types.now
    c.if-number-own.true

pub returns-then-number-own-2 : goal.returns-then-number-own-2
returns-then-number-own-2 c =
    itself_called c.args.env.now.program.now c.args.env.now.place c.args.head c.in-Def.number c.in-Def.is c.in-Body.own c.in-Body.is c.args.types.now
    c.are_its_own.result c.if-number-own.false c.if-number-own-2.true c.are_its_own.ensures

pub returns-else-number-own-2 : goal.returns-else-number-own-2
returns-else-number-own-2 c =
    later_called c.args.env.now.program.now c.args.env.now.place c.args.head c.in-Def.number c.in-Def.is c.in-Body.own c.in-Body.is c.args.types.now
    c.if-number-own.false c.if-number-own-2.false

pub returns-in-Behind : goal.returns-in-Behind
returns-in-Behind c =
    c.is_behind.ensures ∙ behind_called c.args.env.now.program.now c.args.env.now.place c.args.head c.in-Def.number c.in-Def.is c.in-Behind.count c.in-Behind.is
    c.args.types.now

pub returns-in-Wle : goal.returns-in-Wle
returns-in-Wle c = other_called c.args.env.now.program.now c.args.env.now.place c.args.head c.args.types.now c.in-Wle.is
