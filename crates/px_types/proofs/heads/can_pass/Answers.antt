use Rattle.std.proofs.Common.{◌∙◌}
use Rattle.px_types.proofs.HeadSteps.{other_passed, body_passed, behind_passed}
use Rattle.px_types.proofs.heads.can_pass.Goals as goal

pub returns-in-Body : goal.returns-in-Body
returns-in-Body c = body_passed c.args.env.now.program.now c.args.env.now.place c.args.head c.in-Def.number c.in-Def.is c.in-Body.own c.in-Body.is

pub returns-in-Behind : goal.returns-in-Behind
returns-in-Behind c =
    c.is_behind.ensures ∙ behind_passed c.args.env.now.program.now c.args.env.now.place c.args.head c.in-Def.number c.in-Def.is c.in-Behind.count c.in-Behind.is

pub returns-in-Wle : goal.returns-in-Wle
returns-in-Wle c = other_passed c.args.env.now.program.now c.args.env.now.place c.args.head c.in-Wle.is
