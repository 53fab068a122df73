use Rattle.std.proofs.Common.{sym, ◌∙◌}
use Rattle.px_terms.specs.Types.{fn_type_instance}
use Rattle.px_types.specs.Envs.{called_in, wanted_of}
use Rattle.px_types.proofs.AlikeSteps.{takes_some, other_params, result_tells, mapped_none, none_mapped, not_of}
use Rattle.px_types.proofs.alike.is_alike.Goals as goal

pub returns-then-len-ne0 : goal.returns-then-len-ne0
returns-then-len-ne0 c =
    takes_some (called_in c.args.own.now) (wanted_of c.args.wanted.now)
    (λ none. c.if-len-ne0.true (c.len.ensures ∙ mapped_none (fn_type_instance c.args.own.now.types.now) c.args.own.now.takes.now none))

pub returns-then-not-all_meet : goal.returns-then-not-all_meet
returns-then-not-all_meet c = other_params (called_in c.args.own.now) (wanted_of c.args.wanted.now) (not_of c.all_meet.result c.all_meet.ensures c.if-not-all_meet.true)

pub returns : goal.returns
returns c =
    result_tells (called_in c.args.own.now) (wanted_of c.args.wanted.now) c.meets.result
    (none_mapped (fn_type_instance c.args.own.now.types.now) c.args.own.now.takes.now (sym c.len.ensures ∙ c.if-len-ne0.false))
    (c.all_meet.ensures.0 c.if-not-all_meet.false) c.meets.ensures
