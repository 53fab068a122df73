use Rattle.std.proofs.Common.{Some, None, sym, ◌∙◌, ap}
use Rattle.px_base.specs.declared.head.Head.{Head}
use Rattle.px_types.specs.Outcome.{is_said}
use Rattle.px_types.specs.Envs.{env_of}
use Rattle.px_types.proofs.SaidSteps.{def_said, none_has, at_most_said, equal_said}
use Rattle.px_types.proofs.said.said.Goals as goal

pub returns-in-Some : goal.returns-in-Some
returns-in-Some c p =
    def_said (env_of c.args.env.now) c.args.env.now.known.now c.as_slice.result.now c.in-Def.number c.args.head (Some c.in-Some.set.now) c.args.env.now.knows
    c.as_slice.ensures c.in-Def.is c.in-Some.ensures p

pub returns-in-None : goal.returns-in-None
returns-in-None c p =
    none_has p ∙ def_said (env_of c.args.env.now) c.args.env.now.known.now c.as_slice.result.now c.in-Def.number c.args.head None c.args.env.now.knows
    c.as_slice.ensures c.in-Def.is c.in-None.ensures p

pub returns-in-Wle : goal.returns-in-Wle
returns-in-Wle c p =
    at_most_said (env_of c.args.env.now) c.at_most_properties.result c.at_most_properties.ensures p ∙ ap (λ (h : Head). is_said (env_of c.args.env.now) h p)
    (sym c.in-Wle.is)

pub returns-in-Weq : goal.returns-in-Weq
returns-in-Weq c p =
    equal_said (env_of c.args.env.now) c.equal_properties.result c.equal_properties.ensures p ∙ ap (λ (h : Head). is_said (env_of c.args.env.now) h p)
    (sym c.in-Weq.is)
