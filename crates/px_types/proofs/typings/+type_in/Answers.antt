use Rattle.std.proofs.Common.{◌<◌, ◌≤◌, None, map, length, get_or, refl, sym, ◌∙◌, ap}
use Rattle.px_terms.specs.declared.types.Ty.TheVariants as ty
use Rattle.px_terms.specs.Types.{ty_instance}
use Rattle.px_types.specs.Bounds.{here, bound_of}
use Rattle.px_types.specs.TypeOf.{type_found}
use Rattle.px_types.proofs.TypeOfSteps.{stage, end_is, passed_on, finds_at, item_map, map_below, map_over, parts_uneven_map, have_next, have_fails}
use Rattle.px_types.proofs.TypeOfSteps.{have_other, have_end, arms_uneven_own, arms_next, arms_fail, arms_differ, arms_end, free_found, bound_found}
use Rattle.px_types.proofs.TypeOfSteps.{literal_found, con_found, call_found, match_found}
use Rattle.px_types.proofs.TypeOfKnown.{same_item}
use Rattle.px_types.proofs.typings.+type_in.Goals as goal

pub type_in-returns-in-Free : goal.type_in-returns-in-Free
type_in-returns-in-Free t c = finds_at _ _ c.variable.result
    (free_found (here c.args.scope.now) c.args.term.now (bound_of c.args.around.now) c.in-Free.number c.in-Free.is) c.variable.ensures

pub type_in-returns-in-Bound : goal.type_in-returns-in-Bound
type_in-returns-in-Bound t c = finds_at _ _ c.pattern_variable.result
    (bound_found (here c.args.scope.now) c.args.term.now (bound_of c.args.around.now) c.in-Bound.number c.in-Bound.is) c.pattern_variable.ensures

pub type_in-returns-in-Lit : goal.type_in-returns-in-Lit
type_in-returns-in-Lit t c = literal_found (here c.args.scope.now) c.args.term.now (bound_of c.args.around.now) c.in-Lit.word c.word_type.result c.in-Lit.is
    c.word_type.ensures

pub type_in-returns-in_err-tys-in-Con : goal.type_in-returns-in_err-tys-in-Con
type_in-returns-in_err-tys-in-Con t c =
    let whole = con_found (here c.args.scope.now) c.args.term.now (bound_of c.args.around.now) c.in-Con.datatype c.in-Con.con c.in-Con.types c.in-Con.fields
    c.in-Con.is in
    passed_on _ _ _ whole c.from_residual.result c.in_err-tys-in-Con.field-0.0 c.from_residual.ensures.1 c.in_err-tys-in-Con.ensures

pub type_in-returns-in_err-have_types-in-Con : goal.type_in-returns-in_err-have_types-in-Con
type_in-returns-in_err-have_types-in-Con t c =
    let whole = con_found (here c.args.scope.now) c.args.term.now (bound_of c.args.around.now) c.in-Con.datatype c.in-Con.con c.in-Con.types c.in-Con.fields
    c.in-Con.is in
    let first = stage _ _ whole _ c.in_ok-tys-in-Con.ensures in
    passed_on _ _ _ first c.from_residual-in_err-have_types-in-Con.result c.in_err-have_types-in-Con.field-0.0
    c.from_residual-in_err-have_types-in-Con.ensures.1 c.in_err-have_types-in-Con.ensures

pub type_in-returns-in_ok-have_types-in-Con : goal.type_in-returns-in_ok-have_types-in-Con
type_in-returns-in_ok-have_types-in-Con t c =
    let whole = con_found (here c.args.scope.now) c.args.term.now (bound_of c.args.around.now) c.in-Con.datatype c.in-Con.con c.in-Con.types c.in-Con.fields
    c.in-Con.is in
    let first = stage _ _ whole _ c.in_ok-tys-in-Con.ensures in
    let second = stage _ _ first tt c.in_ok-have_types-in-Con.ensures in
    finds_at _ _ c.datatype_at.result second c.datatype_at.ensures

pub type_in-returns-in_err-called-in-Call : goal.type_in-returns-in_err-called-in-Call
type_in-returns-in_err-called-in-Call t c =
    let whole = call_found (here c.args.scope.now) c.args.term.now (bound_of c.args.around.now) c.in-Call.fun c.in-Call.funs c.in-Call.args c.in-Call.is in
    passed_on _ _ _ whole c.from_residual-in_err-called-in-Call.result c.in_err-called-in-Call.field-0.0 c.from_residual-in_err-called-in-Call.ensures.1
    c.in_err-called-in-Call.ensures

pub type_in-returns-in_err-arguments_have-in-Call : goal.type_in-returns-in_err-arguments_have-in-Call
type_in-returns-in_err-arguments_have-in-Call t c =
    let whole = call_found (here c.args.scope.now) c.args.term.now (bound_of c.args.around.now) c.in-Call.fun c.in-Call.funs c.in-Call.args c.in-Call.is in
    let first = stage _ _ whole _ c.in_ok-called-in-Call.ensures in
    passed_on _ _ _ first c.from_residual-in_err-arguments_have-in-Call.result c.in_err-arguments_have-in-Call.field-0.0
    c.from_residual-in_err-arguments_have-in-Call.ensures.1 c.in_err-arguments_have-in-Call.ensures

pub type_in-returns-in_err-have_types-in-Call : goal.type_in-returns-in_err-have_types-in-Call
type_in-returns-in_err-have_types-in-Call t c =
    let whole = call_found (here c.args.scope.now) c.args.term.now (bound_of c.args.around.now) c.in-Call.fun c.in-Call.funs c.in-Call.args c.in-Call.is in
    let first = stage _ _ whole _ c.in_ok-called-in-Call.ensures in
    let second = stage _ _ first tt c.in_ok-arguments_have-in-Call.ensures in
    passed_on _ _ _ second c.from_residual-in_err-have_types-in-Call.result c.in_err-have_types-in-Call.field-0.0
    c.from_residual-in_err-have_types-in-Call.ensures.1 c.in_err-have_types-in-Call.ensures

pub type_in-returns-in_ok-have_types-in-Call : goal.type_in-returns-in_ok-have_types-in-Call
type_in-returns-in_ok-have_types-in-Call t c =
    let whole = call_found (here c.args.scope.now) c.args.term.now (bound_of c.args.around.now) c.in-Call.fun c.in-Call.funs c.in-Call.args c.in-Call.is in
    let first = stage _ _ whole _ c.in_ok-called-in-Call.ensures in
    let second = stage _ _ first tt c.in_ok-arguments_have-in-Call.ensures in
    let third = stage _ _ second tt c.in_ok-have_types-in-Call.ensures in
    finds_at _ _ c.given.result third c.given.ensures

pub type_in-returns-in_err-found-in-Match : goal.type_in-returns-in_err-found-in-Match
type_in-returns-in_err-found-in-Match t c =
    let whole = match_found (here c.args.scope.now) c.args.term.now (bound_of c.args.around.now) c.in-Match.on c.in-Match.datatype c.in-Match.types
    c.in-Match.arms c.in-Match.is in
    passed_on _ _ _ whole c.from_residual-in_err-found-in-Match.result c.in_err-found-in-Match.field-0.0 c.from_residual-in_err-found-in-Match.ensures.1
    (rw c.get.ensures at c.in_err-found-in-Match.ensures)

pub type_in-returns-in_err-cons-in-Match : goal.type_in-returns-in_err-cons-in-Match
type_in-returns-in_err-cons-in-Match t c =
    let whole = match_found (here c.args.scope.now) c.args.term.now (bound_of c.args.around.now) c.in-Match.on c.in-Match.datatype c.in-Match.types
    c.in-Match.arms c.in-Match.is in
    let first = stage _ _ whole c.in_ok-found-in-Match.found (rw c.get.ensures at c.in_ok-found-in-Match.ensures) in
    passed_on _ _ _ first c.from_residual-in_err-cons-in-Match.result c.in_err-cons-in-Match.field-0.0 c.from_residual-in_err-cons-in-Match.ensures.1
    c.in_err-cons-in-Match.ensures

pub type_in-returns-in_ok-cons-in-Match : goal.type_in-returns-in_ok-cons-in-Match
type_in-returns-in_ok-cons-in-Match t c =
    let whole = match_found (here c.args.scope.now) c.args.term.now (bound_of c.args.around.now) c.in-Match.on c.in-Match.datatype c.in-Match.types
    c.in-Match.arms c.in-Match.is in
    let first = stage _ _ whole c.in_ok-found-in-Match.found (rw c.get.ensures at c.in_ok-found-in-Match.ensures) in
    let second = stage _ _ first _ c.in_ok-cons-in-Match.ensures in
    finds_at _ _ c.arms_type.result second c.arms_type.ensures

pub have_types-loop-index-init : goal.have_types-loop-index-init
have_types-loop-index-init t c = refl

pub have_types-returns-then-terms-types : goal.have_types-returns-then-terms-types
have_types-returns-then-terms-types t c =
    parts_uneven_map (type_found (here c.args.scope.now)) (bound_of c.args.around.now) c.args.parts.now (ty_instance c.args.wanted.now.types.now)
    c.args.wanted.now.tys.now (rw (c.as_slice-terms.ensures, c.as_slice-types.ensures) at c.if-terms-types.true)

pub have_types-returns-in_err-found : goal.have_types-returns-in_err-found
have_types-returns-in_err-found t c =
    let below : c.loop-index.index < length c.as_slice-types.result.now = rw (← c.if-terms-types.false) c.loop-index-test.true in
    end_is _ c.from_residual.result c.in_err-found.field-0.0 c.from_residual.ensures.1
    (have_fails (type_found (here c.args.scope.now)) (bound_of c.args.around.now) c.args.parts.now c.as_slice-terms.result.now
    (map (ty_instance c.args.wanted.now.types.now) c.args.wanted.now.tys.now) (map (ty_instance c.args.wanted.now.types.now) c.as_slice-types.result.now)
    c.as_slice-terms.ensures (ap (map (ty_instance c.args.wanted.now.types.now)) c.as_slice-types.ensures) c.loop-index.index c.index-terms-index.result
    (get_or (map (ty_instance c.args.wanted.now.types.now) c.as_slice-types.result.now) c.loop-index.index ty.Word) c.in_err-found.field-0.0
    c.loop-index-test.true (map_below (ty_instance c.args.wanted.now.types.now) c.as_slice-types.result.now c.loop-index.index below)
    c.index-terms-index.is (same_item _ _ _ _ (map_below (ty_instance c.args.wanted.now.types.now) c.as_slice-types.result.now c.loop-index.index below))
    c.in_err-found.ensures c.loop-index.invariant)

pub have_types-returns-then-not-is_instance : goal.have_types-returns-then-not-is_instance
have_types-returns-then-not-is_instance t c =
    let below : c.loop-index.index < length c.as_slice-types.result.now = rw (← c.if-terms-types.false) c.loop-index-test.true in
    have_other (type_found (here c.args.scope.now)) (bound_of c.args.around.now) c.args.parts.now c.as_slice-terms.result.now
    (map (ty_instance c.args.wanted.now.types.now) c.args.wanted.now.tys.now) (map (ty_instance c.args.wanted.now.types.now) c.as_slice-types.result.now)
    c.as_slice-terms.ensures (ap (map (ty_instance c.args.wanted.now.types.now)) c.as_slice-types.ensures) c.loop-index.index c.index-terms-index.result
    (ty_instance c.args.wanted.now.types.now c.index-types-index.result) c.in_ok-found.found c.loop-index-test.true
    (map_below (ty_instance c.args.wanted.now.types.now) c.as_slice-types.result.now c.loop-index.index below) c.index-terms-index.is
    (item_map (ty_instance c.args.wanted.now.types.now) c.as_slice-types.result.now c.loop-index.index c.index-types-index.result below
    c.index-types-index.is) c.in_ok-found.ensures (sym c.is_instance.ensures ∙ c.if-not-is_instance.true)
    c.loop-index.invariant

pub have_types-loop-index-preserved : goal.have_types-loop-index-preserved
have_types-loop-index-preserved t c =
    let below : c.loop-index.index < length c.as_slice-types.result.now = rw (← c.if-terms-types.false) c.loop-index-test.true in
    have_next (type_found (here c.args.scope.now)) (bound_of c.args.around.now) c.args.parts.now c.as_slice-terms.result.now
    (map (ty_instance c.args.wanted.now.types.now) c.args.wanted.now.tys.now) (map (ty_instance c.args.wanted.now.types.now) c.as_slice-types.result.now)
    c.as_slice-terms.ensures (ap (map (ty_instance c.args.wanted.now.types.now)) c.as_slice-types.ensures) c.loop-index.index c.index-terms-index.result
    (ty_instance c.args.wanted.now.types.now c.index-types-index.result) c.in_ok-found.found c.loop-index-test.true
    (map_below (ty_instance c.args.wanted.now.types.now) c.as_slice-types.result.now c.loop-index.index below) c.index-terms-index.is
    (item_map (ty_instance c.args.wanted.now.types.now) c.as_slice-types.result.now c.loop-index.index c.index-types-index.result below
    c.index-types-index.is) c.in_ok-found.ensures (sym c.is_instance.ensures ∙ c.if-not-is_instance.false)
    c.loop-index.invariant

pub have_types-returns : goal.have_types-returns
have_types-returns t c =
    let over : length c.as_slice-types.result.now ≤ c.loop-index.index = rw (← c.if-terms-types.false) c.loop-index-test.false in
    have_end (type_found (here c.args.scope.now)) (bound_of c.args.around.now) c.args.parts.now c.as_slice-terms.result.now
    (map (ty_instance c.args.wanted.now.types.now) c.args.wanted.now.tys.now) (map (ty_instance c.args.wanted.now.types.now) c.as_slice-types.result.now)
    c.as_slice-terms.ensures (ap (map (ty_instance c.args.wanted.now.types.now)) c.as_slice-types.ensures) c.loop-index.index c.loop-index-test.false
    (map_over (ty_instance c.args.wanted.now.types.now) c.as_slice-types.result.now c.loop-index.index over) c.loop-index.invariant

pub arms_type-loop-index-init : goal.arms_type-loop-index-init
arms_type-loop-index-init t c = refl

pub arms_type-returns-then-bodies-cons : goal.arms_type-returns-then-bodies-cons
arms_type-returns-then-bodies-cons t c =
    arms_uneven_own (type_found (here c.args.scope.now)) (bound_of c.args.around.now) c.args.matched.now.types.now None c.args.matched.now.cons.now
    c.args.arms.now (rw (c.as_slice-bodies.ensures, c.as_slice-cons.ensures) at c.if-bodies-cons.true)

pub arms_type-returns-in_err-found : goal.arms_type-returns-in_err-found
arms_type-returns-in_err-found t c =
    let below : c.loop-index.index < length c.as_slice-cons.result.now = rw (← c.if-bodies-cons.false) c.loop-index-test.true in
    end_is _ c.from_residual.result c.in_err-found.field-0.0 c.from_residual.ensures.1
    (arms_fail (type_found (here c.args.scope.now)) (bound_of c.args.around.now) c.args.matched.now.types.now c.args.arms.now c.as_slice-bodies.result.now
    c.args.matched.now.cons.now c.as_slice-cons.result.now c.as_slice-bodies.ensures c.as_slice-cons.ensures c.loop-index.index c.loop-index.agreed
    c.index-bodies-index.result (get_or c.as_slice-cons.result.now c.loop-index.index c.index-cons-index.result) c.in_err-found.field-0.0
    c.loop-index-test.true below c.index-bodies-index.is (same_item _ _ _ _ below) (rw c.inside_arm-inner.ensures at c.in_err-found.ensures)
    c.loop-index.invariant)

pub arms_type-returns-then-not-is_agreed : goal.arms_type-returns-then-not-is_agreed
arms_type-returns-then-not-is_agreed t c =
    let below : c.loop-index.index < length c.as_slice-cons.result.now = rw (← c.if-bodies-cons.false) c.loop-index-test.true in
    arms_differ (type_found (here c.args.scope.now)) (bound_of c.args.around.now) c.args.matched.now.types.now c.args.arms.now c.as_slice-bodies.result.now
    c.args.matched.now.cons.now c.as_slice-cons.result.now c.as_slice-bodies.ensures c.as_slice-cons.ensures c.loop-index.index c.loop-index.agreed
    c.index-bodies-index.result (get_or c.as_slice-cons.result.now c.loop-index.index c.index-cons-index.result) c.in_ok-found.found
    c.loop-index-test.true below c.index-bodies-index.is (same_item _ _ _ _ below) (rw c.inside_arm-inner.ensures at c.in_ok-found.ensures)
    (sym c.is_agreed.ensures ∙ c.if-not-is_agreed.true) c.loop-index.invariant

pub arms_type-loop-index-preserved : goal.arms_type-loop-index-preserved
arms_type-loop-index-preserved t c =
    let below : c.loop-index.index < length c.as_slice-cons.result.now = rw (← c.if-bodies-cons.false) c.loop-index-test.true in
    arms_next (type_found (here c.args.scope.now)) (bound_of c.args.around.now) c.args.matched.now.types.now c.args.arms.now c.as_slice-bodies.result.now
    c.args.matched.now.cons.now c.as_slice-cons.result.now c.as_slice-bodies.ensures c.as_slice-cons.ensures c.loop-index.index c.loop-index.agreed
    c.index-bodies-index.result (get_or c.as_slice-cons.result.now c.loop-index.index c.index-cons-index.result) c.in_ok-found.found
    c.loop-index-test.true below c.index-bodies-index.is (same_item _ _ _ _ below) (rw c.inside_arm-inner.ensures at c.in_ok-found.ensures)
    (sym c.is_agreed.ensures ∙ c.if-not-is_agreed.false) c.loop-index.invariant

pub arms_type-returns-in-Some : goal.arms_type-returns-in-Some
arms_type-returns-in-Some t c =
    let over : length c.as_slice-cons.result.now ≤ c.loop-index.index = rw (← c.if-bodies-cons.false) c.loop-index-test.false in
    arms_end (type_found (here c.args.scope.now)) (bound_of c.args.around.now) c.args.matched.now.types.now c.args.arms.now c.as_slice-bodies.result.now
    c.args.matched.now.cons.now c.as_slice-cons.result.now c.as_slice-bodies.ensures c.as_slice-cons.ensures c.loop-index.index c.loop-index.agreed
    c.loop-index-test.false over c.loop-index.invariant ∙ c.in-Some.is

pub arms_type-returns-in-None : goal.arms_type-returns-in-None
arms_type-returns-in-None t c =
    let over : length c.as_slice-cons.result.now ≤ c.loop-index.index = rw (← c.if-bodies-cons.false) c.loop-index-test.false in
    arms_end (type_found (here c.args.scope.now)) (bound_of c.args.around.now) c.args.matched.now.types.now c.args.arms.now c.as_slice-bodies.result.now
    c.args.matched.now.cons.now c.as_slice-cons.result.now c.as_slice-bodies.ensures c.as_slice-cons.ensures c.loop-index.index c.loop-index.agreed
    c.loop-index-test.false over c.loop-index.invariant ∙ c.in-None.is
