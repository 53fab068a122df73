use Rattle.std.proofs.Common.{◌≡◌, List, Ok, reverse, refl, sym, ◌∙◌, subst, arith}
use Rattle.std.proofs.lemmas.List.{length-map}
use Rattle.px_base.specs.declared.raw.RawTerm.{RawTerm}
use Rattle.px_terms.specs.declared.types.Ty.{Ty}
use Rattle.px_terms.specs.declared.term.Term.TheVariants as term
use Rattle.px_terms.specs.Types.{ty_instance, tys_instance}
use Rattle.px_types.specs.Answers.{EndsAs}
use Rattle.px_types.specs.Envs.{env_of, tys_of, chosen_in}
use Rattle.px_types.specs.Outcome.{term_found, no_arms}
use Rattle.px_types.proofs.Stages.{end_is}
use Rattle.px_types.proofs.TwoLoops.{two_start, two_next, two_fails, two_end, two_short, mapped_at, mapped_past, along_next, along_fails, along_end}
use Rattle.px_types.proofs.ArmSteps.{arm_here, arms_here, around, shrinks, pattern_fails, body_fails, disagrees, arm_found_is}
use Rattle.px_types.proofs.TermSteps.{answers_as, variable_fails, variable_typed, free_is, bound_is, literal_is, con_is, call_is, scrutinee_fails}
use Rattle.px_types.proofs.TermSteps.{match_answers, part_here, parts_here, part_unmet, part_untyped, part_other, part_typed}
use Rattle.px_types.proofs.terms.+type_term.Goals as goal

pub type_arms-returns-in_err-con-clause-answers : goal.type_arms-returns-in_err-con-clause-answers
type_arms-returns-in_err-con-clause-answers t c =
    let E = env_of c.args.env.now in
    let b = reverse c.args.bound.now in
    let on = chosen_in c.args.on.now in
    let first = no_arms c.args.on.now.datatype.now in
    answers_as _ _ c.from_residual-in_err-con.result (arms_here E b on first c.args.arms.now)
    (end_is _ c.from_residual-in_err-con.result c.in_err-con.field-0.0 c.from_residual-in_err-con.ensures.1
    (along_fails (arm_here E b on) first c.args.arms.now c.as_slice-arm-items.result.now c.as_slice-arm-items.ensures c.loop-arm.slots c.loop-arm.arm-index
    c.arm-item.result c.in_err-con.field-0.0 c.loop-arm-test.true c.arm-item.is
    (pattern_fails E b on c.loop-arm.slots c.arm-item.result c.in_err-con.field-0.0 c.in_err-con.ensures.answers) c.loop-arm.invariant.rest))

pub type_arms-returns-in_err-found-clause-answers : goal.type_arms-returns-in_err-found-clause-answers
type_arms-returns-in_err-found-clause-answers t c =
    let E = env_of c.args.env.now in
    let b = reverse c.args.bound.now in
    let on = chosen_in c.args.on.now in
    let first = no_arms c.args.on.now.datatype.now in
    let end = c.in_err-found.field-0.0 in
    let fields = tys_instance c.args.on.now.types.now c.in_ok-con.con.now.fields in
    let outer = around c.args.bound.now c.loop-arm.bound c.bind.new.bound fields c.loop-arm.invariant.kept c.in_ok-bind.ensures in
    answers_as _ _ c.from_residual-in_err-found.result (arms_here E b on first c.args.arms.now)
    (end_is _ c.from_residual-in_err-found.result end c.from_residual-in_err-found.ensures.1
    (along_fails (arm_here E b on) first c.args.arms.now c.as_slice-arm-items.result.now c.as_slice-arm-items.ensures c.loop-arm.slots c.loop-arm.arm-index
    c.arm-item.result end c.loop-arm-test.true c.arm-item.is
    (body_fails E b on c.loop-arm.slots c.arm-item.result c.in_ok-con.con.now c.in_ok-con.ensures.answers end
    (subst (λ (bound : List Ty). EndsAs (term_found E c.arm-item.result.body bound) end) outer c.in_err-found.ensures.answers)) c.loop-arm.invariant.rest))

pub type_arms-returns-in_err-slots-2-clause-answers : goal.type_arms-returns-in_err-slots-2-clause-answers
type_arms-returns-in_err-slots-2-clause-answers t c =
    let E = env_of c.args.env.now in
    let b = reverse c.args.bound.now in
    let on = chosen_in c.args.on.now in
    let first = no_arms c.args.on.now.datatype.now in
    let end = c.in_err-slots-2.field-0.0 in
    let fields = tys_instance c.args.on.now.types.now c.in_ok-con.con.now.fields in
    let outer = around c.args.bound.now c.loop-arm.bound c.bind.new.bound fields c.loop-arm.invariant.kept c.in_ok-bind.ensures in
    answers_as _ _ c.from_residual-in_err-slots-2.result (arms_here E b on first c.args.arms.now)
    (end_is _ c.from_residual-in_err-slots-2.result end c.from_residual-in_err-slots-2.ensures.1
    (along_fails (arm_here E b on) first c.args.arms.now c.as_slice-arm-items.result.now c.as_slice-arm-items.ensures c.loop-arm.slots c.loop-arm.arm-index
    c.arm-item.result end c.loop-arm-test.true c.arm-item.is
    (disagrees E b on c.loop-arm.slots c.arm-item.result c.in_ok-con.con.now c.in_ok-con.ensures.answers c.in_ok-found.found
    (subst (λ (bound : List Ty). term_found E c.arm-item.result.body bound ≡ Ok c.in_ok-found.found) outer c.in_ok-found.ensures.answers) end
    c.in_err-slots-2.ensures) c.loop-arm.invariant.rest))

pub type_arms-loop-arm-preserved : goal.type_arms-loop-arm-preserved
type_arms-loop-arm-preserved t c =
    let E = env_of c.args.env.now in
    let b = reverse c.args.bound.now in
    let on = chosen_in c.args.on.now in
    let first = no_arms c.args.on.now.datatype.now in
    let fields = tys_instance c.args.on.now.types.now c.in_ok-con.con.now.fields in
    let outer = around c.args.bound.now c.loop-arm.bound c.bind.new.bound fields c.loop-arm.invariant.kept c.in_ok-bind.ensures in
    record {
      rest = along_next (arm_here E b on) first c.args.arms.now c.as_slice-arm-items.result.now c.as_slice-arm-items.ensures c.loop-arm.slots
          c.in_ok-slots-2.slots c.loop-arm.arm-index c.arm-item.result c.loop-arm-test.true c.arm-item.is
          (arm_found_is E b on c.loop-arm.slots c.arm-item.result c.in_ok-con.con.now c.in_ok-con.ensures.answers c.in_ok-found.found
          (subst (λ (bound : List Ty). term_found E c.arm-item.result.body bound ≡ Ok c.in_ok-found.found) outer c.in_ok-found.ensures.answers)
          c.in_ok-slots-2.slots c.in_ok-slots-2.ensures) c.loop-arm.invariant.rest;
      kept = c.unbind.ensures ∙ shrinks c.loop-arm.bound fields c.type_term.new.bound c.len.result (c.in_ok-found.ensures.bound ∙ c.in_ok-bind.ensures)
          (length-map c.in_ok-con.con.now.fields (ty_instance c.args.on.now.types.now) ∙ sym c.len.ensures) ∙ c.loop-arm.invariant.kept;
    }

pub type_arms-returns-clause-answers : goal.type_arms-returns-clause-answers
type_arms-returns-clause-answers t c =
    let E = env_of c.args.env.now in
    let b = reverse c.args.bound.now in
    let on = chosen_in c.args.on.now in
    let first = no_arms c.args.on.now.datatype.now in
    arms_here E b on first c.args.arms.now ∙ along_end (arm_here E b on) first c.args.arms.now c.as_slice-arm-items.result.now c.as_slice-arm-items.ensures
    c.loop-arm.slots c.loop-arm.arm-index c.loop-arm-test.false c.loop-arm.invariant.rest

pub type_parts-loop-number-init : goal.type_parts-loop-number-init
type_parts-loop-number-init t c = record {
  rest = two_start (part_here (env_of c.args.env.now) (reverse c.args.bound.now)) c.args.raws.now c.as_slice-raw-items.result.now (tys_of c.args.wanted.now)
      c.as_slice-raw-items.ensures c.new-terms.result c.new-terms.ensures;
  kept = refl;
}

pub type_parts-returns-in_default-clause-answers : goal.type_parts-returns-in_default-clause-answers
type_parts-returns-in_default-clause-answers t c =
    let E = env_of c.args.env.now in
    let b = reverse c.args.bound.now in
    let none = mapped_past (ty_instance c.args.wanted.now.types.now) c.args.wanted.now.tys.now c.as_slice.result.now c.loop-number.number c.as_slice.ensures
    c.in_default.ensures in
    parts_here E b c.args.raws.now (tys_of c.args.wanted.now)
    ∙ two_short (part_here E b) c.args.raws.now c.as_slice-raw-items.result.now (tys_of c.args.wanted.now) c.as_slice-raw-items.ensures c.loop-number.number
    c.loop-number.terms none c.loop-number.invariant.rest

pub type_parts-returns-in_err-need-clause-answers : goal.type_parts-returns-in_err-need-clause-answers
type_parts-returns-in_err-need-clause-answers t c =
    let E = env_of c.args.env.now in
    let b = reverse c.args.bound.now in
    let T = ty_instance c.args.wanted.now.types.now c.in-Some.wanted_ty.now in
    let has = mapped_at (ty_instance c.args.wanted.now.types.now) c.args.wanted.now.tys.now c.as_slice.result.now c.loop-number.number c.in-Some.wanted_ty.now
    c.as_slice.ensures c.in-Some.ensures in
    let end = c.in_err-need.field-0.0 in
    answers_as _ _ c.from_residual.result (parts_here E b c.args.raws.now (tys_of c.args.wanted.now))
    (end_is _ c.from_residual.result end c.from_residual.ensures.1
    (two_fails (part_here E b) c.args.raws.now c.as_slice-raw-items.result.now (tys_of c.args.wanted.now) c.as_slice-raw-items.ensures c.loop-number.number
    c.raw-item.result T c.loop-number.terms end c.loop-number-test.true c.raw-item.is has
    (part_unmet E b c.raw-item.result T c.instance_met-is_met.result c.instance_met-is_met.ensures end c.in_err-need.ensures) c.loop-number.invariant.rest))

pub type_parts-returns-in_err-term-clause-answers : goal.type_parts-returns-in_err-term-clause-answers
type_parts-returns-in_err-term-clause-answers t c =
    let E = env_of c.args.env.now in
    let b = reverse c.args.bound.now in
    let T = ty_instance c.args.wanted.now.types.now c.in-Some.wanted_ty.now in
    let has = mapped_at (ty_instance c.args.wanted.now.types.now) c.args.wanted.now.tys.now c.as_slice.result.now c.loop-number.number c.in-Some.wanted_ty.now
    c.as_slice.ensures c.in-Some.ensures in
    let end = c.in_err-term.field-0.0 in
    answers_as _ _ c.from_residual-in_err-term.result (parts_here E b c.args.raws.now (tys_of c.args.wanted.now))
    (end_is _ c.from_residual-in_err-term.result end c.from_residual-in_err-term.ensures.1
    (two_fails (part_here E b) c.args.raws.now c.as_slice-raw-items.result.now (tys_of c.args.wanted.now) c.as_slice-raw-items.ensures c.loop-number.number
    c.raw-item.result T c.loop-number.terms end c.loop-number-test.true c.raw-item.is has
    (part_untyped E b c.raw-item.result T c.instance_met-is_met.result c.instance_met-is_met.ensures c.in_ok-need.field-0 c.in_ok-need.ensures end
    (subst (λ (bound : List Ty). EndsAs (term_found E c.raw-item.result (reverse bound)) end) c.loop-number.invariant.kept
    c.in_err-term.ensures.answers)) c.loop-number.invariant.rest))

pub type_parts-returns-in_err-need-2-clause-answers : goal.type_parts-returns-in_err-need-2-clause-answers
type_parts-returns-in_err-need-2-clause-answers t c =
    let E = env_of c.args.env.now in
    let b = reverse c.args.bound.now in
    let T = ty_instance c.args.wanted.now.types.now c.in-Some.wanted_ty.now in
    let has = mapped_at (ty_instance c.args.wanted.now.types.now) c.args.wanted.now.tys.now c.as_slice.result.now c.loop-number.number c.in-Some.wanted_ty.now
    c.as_slice.ensures c.in-Some.ensures in
    let end = c.in_err-need-2.field-0.0 in
    answers_as _ _ c.from_residual-in_err-need-2.result (parts_here E b c.args.raws.now (tys_of c.args.wanted.now))
    (end_is _ c.from_residual-in_err-need-2.result end c.from_residual-in_err-need-2.ensures.1
    (two_fails (part_here E b) c.args.raws.now c.as_slice-raw-items.result.now (tys_of c.args.wanted.now) c.as_slice-raw-items.ensures c.loop-number.number
    c.raw-item.result T c.loop-number.terms end c.loop-number-test.true c.raw-item.is has
    (part_other E b c.raw-item.result T c.instance_met-is_met.result c.instance_met-is_met.ensures c.in_ok-need.field-0 c.in_ok-need.ensures
    c.in_ok-term.field-0
    (subst (λ (bound : List Ty). term_found E c.raw-item.result (reverse bound) ≡ Ok c.in_ok-term.field-0) c.loop-number.invariant.kept
    c.in_ok-term.ensures.answers) c.is_instance-is_wanted.result c.is_instance-is_wanted.ensures end c.in_err-need-2.ensures) c.loop-number.invariant.rest))

pub type_parts-loop-number-preserved : goal.type_parts-loop-number-preserved
type_parts-loop-number-preserved t c =
    let E = env_of c.args.env.now in
    let b = reverse c.args.bound.now in
    let T = ty_instance c.args.wanted.now.types.now c.in-Some.wanted_ty.now in
    let has = mapped_at (ty_instance c.args.wanted.now.types.now) c.args.wanted.now.tys.now c.as_slice.result.now c.loop-number.number c.in-Some.wanted_ty.now
    c.as_slice.ensures c.in-Some.ensures in
    record {
      rest = two_next (part_here E b) c.args.raws.now c.as_slice-raw-items.result.now (tys_of c.args.wanted.now) c.as_slice-raw-items.ensures
          c.loop-number.number c.raw-item.result T c.loop-number.terms c.push.new.self c.in_ok-term.field-0.term c.loop-number-test.true c.raw-item.is has
          (part_typed E b c.raw-item.result T c.instance_met-is_met.result c.instance_met-is_met.ensures c.in_ok-need.field-0 c.in_ok-need.ensures
          c.in_ok-term.field-0
          (subst (λ (bound : List Ty). term_found E c.raw-item.result (reverse bound) ≡ Ok c.in_ok-term.field-0) c.loop-number.invariant.kept
          c.in_ok-term.ensures.answers) c.is_instance-is_wanted.result c.is_instance-is_wanted.ensures c.in_ok-need-2.field-0 c.in_ok-need-2.ensures)
          c.in_ok-push.ensures.ok c.loop-number.invariant.rest;
      kept = c.in_ok-term.ensures.bound ∙ c.loop-number.invariant.kept;
    }

pub type_parts-returns-clause-answers : goal.type_parts-returns-clause-answers
type_parts-returns-clause-answers t c =
    let E = env_of c.args.env.now in
    let b = reverse c.args.bound.now in
    parts_here E b c.args.raws.now (tys_of c.args.wanted.now)
    ∙ two_end (part_here E b) c.args.raws.now c.as_slice-raw-items.result.now (tys_of c.args.wanted.now) c.as_slice-raw-items.ensures c.loop-number.number
    c.loop-number.terms c.loop-number-test.false c.loop-number.invariant.rest

pub type_term-returns-in_err-ty-in-Bound-clause-answers : goal.type_term-returns-in_err-ty-in-Bound-clause-answers
type_term-returns-in_err-ty-in-Bound-clause-answers t c =
    let n = c.in-Bound.number in
    variable_fails (env_of c.args.env.now) c.args.raw.now.at (term.Bound n) c.in-Bound.types _ _ c.nearest.ensures
    (bound_is (env_of c.args.env.now) c.args.raw.now (reverse c.args.bound.now) n c.in-Bound.types c.in-Bound.is) c.from_residual.result
    c.in_err-ty-in-Bound.field-0.0 c.from_residual.ensures.1 c.in_err-ty-in-Bound.ensures

pub type_term-returns-in_err-found-in-Match-clause-answers : goal.type_term-returns-in_err-found-in-Match-clause-answers
type_term-returns-in_err-found-in-Match-clause-answers t c =
    let E = env_of c.args.env.now in
    let b = reverse c.args.bound.now in
    let end = c.in_err-found-in-Match.field-0.0 in
    end_is (term_found E c.args.raw.now b) c.from_residual-in_err-found-in-Match.result end c.from_residual-in_err-found-in-Match.ensures.1
    (scrutinee_fails E c.args.raw.now b c.in-Match.on c.in-Match.arms end c.in-Match.is
    (subst (λ (on : RawTerm). EndsAs (term_found E on b) end) c.get-in-Match.ensures c.in_err-found-in-Match.ensures.answers))

pub type_term-returns-in-Free-clause-answers : goal.type_term-returns-in-Free-clause-answers
type_term-returns-in-Free-clause-answers t c =
    answers_as _ _ c.type_free.result (free_is (env_of c.args.env.now) c.args.raw.now (reverse c.args.bound.now) c.in-Free.number c.in-Free.types c.in-Free.is)
    c.type_free.ensures

pub type_term-returns-in_ok-ty-in-Bound-clause-answers : goal.type_term-returns-in_ok-ty-in-Bound-clause-answers
type_term-returns-in_ok-ty-in-Bound-clause-answers t c =
    let n = c.in-Bound.number in
    variable_typed (env_of c.args.env.now) c.args.raw.now.at (term.Bound n) c.in-Bound.types _ _ c.nearest.ensures
    (bound_is (env_of c.args.env.now) c.args.raw.now (reverse c.args.bound.now) n c.in-Bound.types c.in-Bound.is) c.in_ok-ty-in-Bound.ty
    c.in_ok-ty-in-Bound.ensures

pub type_term-returns-in-Lit-clause-answers : goal.type_term-returns-in-Lit-clause-answers
type_term-returns-in-Lit-clause-answers t c =
    literal_is (env_of c.args.env.now) c.args.raw.now (reverse c.args.bound.now) c.in-Lit.word c.in-Lit.is (omega arith)

pub type_term-returns-in-Con-clause-answers : goal.type_term-returns-in-Con-clause-answers
type_term-returns-in-Con-clause-answers t c =
    answers_as _ _ c.type_con.result (con_is (env_of c.args.env.now) c.args.raw.now (reverse c.args.bound.now) c.in-Con.datatype c.in-Con.con c.in-Con.types
    c.in-Con.fields c.in-Con.is) c.type_con.ensures.answers

pub type_term-returns-in-Call-clause-answers : goal.type_term-returns-in-Call-clause-answers
type_term-returns-in-Call-clause-answers t c =
    answers_as _ _ c.type_call.result (call_is (env_of c.args.env.now) c.args.raw.now (reverse c.args.bound.now) c.in-Call.fun c.in-Call.funs c.in-Call.args
    c.in-Call.is) c.type_call.ensures.answers

pub type_term-returns-in_ok-found-in-Match-clause-answers : goal.type_term-returns-in_ok-found-in-Match-clause-answers
type_term-returns-in_ok-found-in-Match-clause-answers t c =
    let E = env_of c.args.env.now in
    let b = reverse c.args.bound.now in
    let found = c.in_ok-found-in-Match.found in
    let typed = subst (λ (on : RawTerm). term_found E on b ≡ Ok found) c.get-in-Match.ensures c.in_ok-found-in-Match.ensures.answers in
    match_answers E c.args.raw.now b c.in-Match.on c.get.result.now c.in-Match.arms found c.type_term.new.bound c.args.bound.now c.type_match.result
    c.in-Match.is typed c.get.ensures c.in_ok-found-in-Match.ensures.bound refl c.type_match.ensures.answers
