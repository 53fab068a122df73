use Rattle.std.proofs.Common.{List, ◌++◌, None, Some, reverse, slice_get, refl, sym, ap, ◌∙◌, arith}
use Rattle.std.proofs.lemmas.List.{drop_all}
use Rattle.px_terms.specs.declared.term.Term.{out-Term}
use Rattle.px_terms.specs.declared.program.Def.{Def}
use Rattle.px_evaluate.specs.Finding.{IsCallee}
use Rattle.px_evaluate.proofs.Found.{found_is, ok_alike}
use Rattle.px_evaluate.proofs.Loops.{drop_at, next_absent, next_too_many, continues_next, all_found}
use Rattle.px_evaluate.proofs.Rules.{out_of_fuel, call_unseen, call_absent, call_found, body_absent, body_found, bound_is, match_unseen, match_stuck, match_absent, match_found}
use Rattle.px_evaluate.proofs.Rules.{lit_chooses, con_chooses}
use Rattle.px_evaluate.proofs.Layers.{free_here, bound_here, lit_here, con_here, no_call_here, call_here, match_here}
use Rattle.px_evaluate.proofs.evaluation.+evaluate.Goals as goal

pub all_values-returns-in_default : goal.all_values-returns-in_default
all_values-returns-in_default t c =
    let s = c.args.scope.now in
    next_absent c.args.fuel s.program.now s.types.now s.funs.now s.values.now _ c.args.terms.now _ c.loop-t.found c.loop-t.calls c.loop-t.invariant c.t-item.result _
    (drop_at c.args.terms.now c.args.terms.now c.loop-t.t-index c.t-item.result refl c.loop-t-test.true c.t-item.is)
    c.in_ok-one.field-0 c.in_ok-one.ensures c.in_default.is

pub all_values-returns-in_default-checked_add : goal.all_values-returns-in_default-checked_add
all_values-returns-in_default-checked_add t c =
    let s = c.args.scope.now in
    next_too_many c.args.fuel s.program.now s.types.now s.funs.now s.values.now _ c.args.terms.now _ c.loop-t.found c.loop-t.calls c.loop-t.invariant c.t-item.result _
    (drop_at c.args.terms.now c.args.terms.now c.loop-t.t-index c.t-item.result refl c.loop-t-test.true c.t-item.is)
    c.in_ok-one.field-0 c.in_ok-one.ensures c.in-Some.one c.in-Some.is (omega (arith, c.in_default-checked_add.ensures))

pub all_values-loop-t-preserved : goal.all_values-loop-t-preserved
all_values-loop-t-preserved t c =
    let s = c.args.scope.now in
    continues_next c.args.fuel s.program.now s.types.now s.funs.now s.values.now _ c.args.terms.now _ c.loop-t.found c.loop-t.calls c.loop-t.invariant c.t-item.result _
    (drop_at c.args.terms.now c.args.terms.now c.loop-t.t-index c.t-item.result refl c.loop-t-test.true c.t-item.is)
    c.in_ok-one.field-0 c.in_ok-one.ensures c.in-Some.one c.in-Some.is c.push.new.self c.in-Some-checked_add.sum c.in_ok-push.ensures.ok c.in-Some-checked_add.ensures.1
    (omega (arith, c.in-Some-checked_add.ensures))

pub all_values-returns : goal.all_values-returns
all_values-returns t c =
    let s = c.args.scope.now in
    all_found c.args.fuel s.program.now s.types.now s.funs.now s.values.now _ c.args.terms.now _ c.loop-t.found c.loop-t.calls c.loop-t.invariant
    (drop_all c.loop-t.t-index c.args.terms.now c.loop-t-test.false)

pub called-returns-in_default : goal.called-returns-in_default
called-returns-in_default t c = λ f fs fun_means funs_mean.
    let s = c.args.scope.now in
    call_unseen c.args.fuel s.program.now s.types.now s.funs.now s.values.now _ f fs c.args.args.now c.in_ok-inputs.field-0 c.in_ok-inputs.ensures c.in_default.is

pub called-returns-in_default-2 : goal.called-returns-in_default-2
called-returns-in_default-2 t c = λ f fs fun_means funs_mean.
    let s = c.args.scope.now in
    call_absent c.args.fuel s.program.now s.types.now s.funs.now s.values.now _ f fs c.args.args.now c.in_ok-inputs.field-0 c.in_ok-inputs.ensures c.in-Some.inputs c.in-Some.is c.args.callee.now fun_means funs_mean
    c.in_ok-found.field-0 (rw (sym c.as_slice.ensures) c.in_ok-found.ensures) c.in_default-2.is

pub called-returns : goal.called-returns
called-returns t c = λ f fs fun_means funs_mean.
    let s = c.args.scope.now in
    call_found c.args.fuel s.program.now s.types.now s.funs.now s.values.now _ f fs c.args.args.now c.in_ok-inputs.field-0 c.in_ok-inputs.ensures c.in-Some.inputs c.in-Some.is c.args.callee.now fun_means funs_mean
    c.in_ok-found.field-0 (rw (sym c.as_slice.ensures) c.in_ok-found.ensures) c.in-Some-2.found c.in-Some-2.is c.with_calls.result c.with_calls.ensures

pub given-returns-in_default-2 : goal.given-returns-in_default-2
given-returns-in_default-2 t c =
    body_absent c.args.fuel c.args.program.now c.args.callee.now c.args.inputs.now c.in-Def.number c.in-Def.is c.in-Some.def.now
    (ap (λ (ds : List Def). slice_get ds c.in-Def.number) (sym c.as_slice-in-Def.ensures) ∙ sym c.in-Some.ensures)
    c.as_slice.result.now c.as_slice.ensures c.as_slice-2.result.now c.as_slice-2.ensures c.as_slice-3.result.now (c.as_slice-3.ensures ∙ c.new-inner.ensures)
    c.in_ok-found-in-Def.field-0 c.in_ok-found-in-Def.ensures c.in_default-2.is

pub given-returns-in-Def : goal.given-returns-in-Def
given-returns-in-Def t c =
    body_found c.args.fuel c.args.program.now c.args.callee.now c.args.inputs.now c.in-Def.number c.in-Def.is c.in-Some.def.now
    (ap (λ (ds : List Def). slice_get ds c.in-Def.number) (sym c.as_slice-in-Def.ensures) ∙ sym c.in-Some.ensures)
    c.as_slice.result.now c.as_slice.ensures c.as_slice-2.result.now c.as_slice-2.ensures c.as_slice-3.result.now (c.as_slice-3.ensures ∙ c.new-inner.ensures)
    c.in_ok-found-in-Def.field-0 c.in_ok-found-in-Def.ensures c.in-Some-2.found c.in-Some-2.is c.with_calls.result c.with_calls.ensures

pub given-returns-in-Wle : goal.given-returns-in-Wle
given-returns-in-Wle t c = c.at_most.ensures c.args.fuel c.args.program.now c.args.callee.now c.in-Wle.is

pub given-returns-in-Weq : goal.given-returns-in-Weq
given-returns-in-Weq t c = c.equal.ensures c.args.fuel c.args.program.now c.args.callee.now c.in-Weq.is

pub matched-returns-in_default : goal.matched-returns-in_default
matched-returns-in_default t c = λ d ts.
    let s = c.args.scope.now in
    match_unseen c.args.fuel s.program.now s.types.now s.funs.now s.values.now (reverse s.inner.now) d ts c.args.on.now c.args.arms.now
    c.in_ok-scrutinee.field-0 c.in_ok-scrutinee.ensures c.in_default.is

pub matched-returns-in_default-value : goal.matched-returns-in_default-value
matched-returns-in_default-value t c = λ d ts.
    let s = c.args.scope.now in
    match_stuck c.args.fuel s.program.now s.types.now s.funs.now s.values.now (reverse s.inner.now) d ts c.args.on.now c.args.arms.now
    c.in_ok-scrutinee.field-0 c.in_ok-scrutinee.ensures c.in-Some.scrutinee c.in-Some.is
    (lit_chooses c.args.arms.now c.in-Some.scrutinee.value c.in_default-value.field-0 c.in_default-value.is)

pub matched-returns-in_default-arm_of : goal.matched-returns-in_default-arm_of
matched-returns-in_default-arm_of t c = λ d ts.
    let s = c.args.scope.now in
    match_stuck c.args.fuel s.program.now s.types.now s.funs.now s.values.now (reverse s.inner.now) d ts c.args.on.now c.args.arms.now
    c.in_ok-scrutinee.field-0 c.in_ok-scrutinee.ensures c.in-Some.scrutinee c.in-Some.is
    (con_chooses c.args.arms.now c.in-Some.scrutinee.value c.in-Con.datatype c.in-Con.con c.in-Con.fields c.in-Con.is None c.in_default-arm_of.ensures)

pub matched-returns-in_default-2 : goal.matched-returns-in_default-2
matched-returns-in_default-2 t c = λ d ts.
    let s = c.args.scope.now in
    match_absent c.args.fuel s.program.now s.types.now s.funs.now s.values.now (reverse s.inner.now) d ts c.args.on.now c.args.arms.now
    c.in_ok-scrutinee.field-0 c.in_ok-scrutinee.ensures c.in-Some.scrutinee c.in-Some.is c.in-Some-arm_of.arm.now c.in-Con.fields
    (con_chooses c.args.arms.now c.in-Some.scrutinee.value c.in-Con.datatype c.in-Con.con c.in-Con.fields c.in-Con.is (Some c.in-Some-arm_of.arm.now) c.in-Some-arm_of.ensures)
    (reverse c.as_slice-2.result.now)
    (bound_is s.inner.now c.in-Con.fields c.as_slice-2.result.now (c.as_slice-2.ensures ∙ (c.in_ok-inner.ensures ∙ ap (λ xs. s.inner.now ++ xs) c.as_slice.ensures)))
    c.in_ok-found.field-0 c.in_ok-found.ensures c.in_default-2.is

pub matched-returns : goal.matched-returns
matched-returns t c = λ d ts.
    let s = c.args.scope.now in
    match_found c.args.fuel s.program.now s.types.now s.funs.now s.values.now (reverse s.inner.now) d ts c.args.on.now c.args.arms.now
    c.in_ok-scrutinee.field-0 c.in_ok-scrutinee.ensures c.in-Some.scrutinee c.in-Some.is c.in-Some-arm_of.arm.now c.in-Con.fields
    (con_chooses c.args.arms.now c.in-Some.scrutinee.value c.in-Con.datatype c.in-Con.con c.in-Con.fields c.in-Con.is (Some c.in-Some-arm_of.arm.now) c.in-Some-arm_of.ensures)
    (reverse c.as_slice-2.result.now)
    (bound_is s.inner.now c.in-Con.fields c.as_slice-2.result.now (c.as_slice-2.ensures ∙ (c.in_ok-inner.ensures ∙ ap (λ xs. s.inner.now ++ xs) c.as_slice.ensures)))
    c.in_ok-found.field-0 c.in_ok-found.ensures c.in-Some-2.found c.in-Some-2.is c.with_calls.result c.with_calls.ensures

pub value_of-returns-in_default : goal.value_of-returns-in_default
value_of-returns-in_default t c =
    let s = c.args.scope.now in
    out_of_fuel c.args.fuel s.program.now s.types.now s.funs.now s.values.now (reverse s.inner.now) (out-Term c.args.term.now) (omega (arith, c.in_default.ensures))

pub value_of-returns-in_default-2 : goal.value_of-returns-in_default-2
value_of-returns-in_default-2 t c =
    let s = c.args.scope.now in
    no_call_here c.args.fuel c.in-Some.less s.program.now s.types.now s.funs.now s.values.now (reverse s.inner.now) c.args.term.now (omega (arith, c.in-Some.ensures))
    c.in-Call.fun c.in-Call.funs c.as_slice-in-Call.result.now c.in-Call.args c.in-Call.is c.as_slice-in-Call.ensures c.in_ok-callee-in-Call.field-0 c.in_ok-callee-in-Call.ensures c.in_default-2.is

pub value_of-returns-in-Free : goal.value_of-returns-in-Free
value_of-returns-in-Free t c =
    let s = c.args.scope.now in
    ok_alike _ _ c.at_hand.result (λ r finds.
    free_here c.args.fuel c.in-Some.less s.program.now s.types.now s.funs.now s.values.now (reverse s.inner.now) c.args.term.now (omega (arith, c.in-Some.ensures))
    c.in-Free.number c.in-Free.is _ r c.variable.ensures finds) c.at_hand.ensures

pub value_of-returns-in-Bound : goal.value_of-returns-in-Bound
value_of-returns-in-Bound t c =
    let s = c.args.scope.now in
    ok_alike _ _ c.at_hand-in-Bound.result (λ r finds.
    bound_here c.args.fuel c.in-Some.less s.program.now s.types.now s.funs.now s.values.now (reverse s.inner.now) c.args.term.now (omega (arith, c.in-Some.ensures))
    c.in-Bound.number c.in-Bound.is _ r c.nearest.ensures finds) c.at_hand-in-Bound.ensures

pub value_of-returns-in-Lit : goal.value_of-returns-in-Lit
value_of-returns-in-Lit t c =
    let s = c.args.scope.now in
    lit_here c.args.fuel c.in-Some.less s.program.now s.types.now s.funs.now s.values.now (reverse s.inner.now) c.args.term.now (omega (arith, c.in-Some.ensures))
    c.in-Lit.word c.in-Lit.is

pub value_of-returns-in_ok-found-in-Con : goal.value_of-returns-in_ok-found-in-Con
value_of-returns-in_ok-found-in-Con t c =
    let s = c.args.scope.now in
    con_here c.args.fuel c.in-Some.less s.program.now s.types.now s.funs.now s.values.now (reverse s.inner.now) c.args.term.now (omega (arith, c.in-Some.ensures))
    c.in-Con.datatype c.in-Con.con c.in-Con.types c.in-Con.fields c.as_slice.result.now c.in-Con.is c.as_slice.ensures c.in_ok-found-in-Con.found c.constructed.result
    c.in_ok-found-in-Con.ensures c.constructed.ensures

pub value_of-returns-in-Some-2 : goal.value_of-returns-in-Some-2
value_of-returns-in-Some-2 t c =
    let s = c.args.scope.now in
    let callee = found_is (IsCallee s c.in-Call.fun c.as_slice-in-Call.result.now) c.in_ok-callee-in-Call.field-0 c.in-Some-2.callee c.in_ok-callee-in-Call.ensures c.in-Some-2.is in
    ok_alike _ _ c.called.result (λ r finds.
    call_here c.args.fuel c.in-Some.less s.program.now s.types.now s.funs.now s.values.now (reverse s.inner.now) c.args.term.now (omega (arith, c.in-Some.ensures))
    c.in-Call.fun c.in-Call.funs c.as_slice-in-Call.result.now c.in-Call.args c.as_slice-in-Call-2.result.now c.in-Call.is c.as_slice-in-Call.ensures
    c.as_slice-in-Call-2.ensures r finds)
    (c.called.ensures c.in-Call.fun c.as_slice-in-Call.result.now callee.0 callee.1)

pub value_of-returns-in-Match : goal.value_of-returns-in-Match
value_of-returns-in-Match t c =
    let s = c.args.scope.now in
    ok_alike _ _ c.matched.result (λ r finds.
    match_here c.args.fuel c.in-Some.less s.program.now s.types.now s.funs.now s.values.now (reverse s.inner.now) c.args.term.now (omega (arith, c.in-Some.ensures))
    c.in-Match.on c.get.result.now c.in-Match.datatype c.in-Match.types c.in-Match.arms c.as_slice-in-Match.result.now c.in-Match.is c.get.ensures
    c.as_slice-in-Match.ensures r finds)
    (c.matched.ensures c.in-Match.datatype c.in-Match.types)
