use Rattle.std.proofs.Common.{◌≡◌, ◌++◌, ◌+◌, drop, ap, sym, subst, refl, ◌∙◌, All, List, ℕ}
use Rattle.std.proofs.lemmas.List.Elements.{All-push}
use Rattle.px_terms.specs.declared.types.Ty.{Ty}
use Rattle.px_terms.specs.declared.program.ConDef.{ConDef}
use Rattle.px_terms.specs.declared.sequent.Sequent.{Sequent}
use Rattle.px_terms.specs.Sequents.{IsWithinLimits}
use Rattle.px_terms.specs.Rows.{case_of, cases_from}
use Rattle.px_cases.proofs.CaseLists.{one_more, is_due, made_at}
use Rattle.px_cases.proofs.EndLemmas.{part_ends}
use Rattle.px_cases.proofs.variables.cases.Goals as goal

pub loop-place-preserved : goal.loop-place-preserved
loop-place-preserved c =
    let s = c.args.sequent.now in
    let v = c.args.variable in
    let f = c.args.family.now in
    let shape = c.shape_at-shape.result in
    let child : c.in_ok-child.child ≡ case_of s v f.number f.args.now c.loop-place.place shape.constructor.now = made_at (λ (d : ℕ) (ts : List Ty) (k : ℕ) (con : ConDef). case_of s v d ts k con) f.number shape.datatype f.args.now shape.args.now c.loop-place.place shape.con shape.constructor.now c.in_ok-child.child c.shape_at-shape.ensures.datatype c.shape_at-shape.ensures.args c.shape_at-shape.ensures.con c.in_ok-child.ensures.case in
    let rest = cases_from s v f.number f.args.now (c.loop-place.place + 1) (drop (c.loop-place.place + 1) f.declaration.now.cons) in
    record {
      cases = ap (λ (xs : List Sequent). xs ++ rest) c.in_ok-push.ensures.ok ∙ one_more (λ (k : ℕ) (con : ConDef). case_of s v f.number f.args.now k con) (λ (k : ℕ) (cs : List ConDef). cases_from s v f.number f.args.now k cs) (λ k con cs. refl) c.loop-place.children c.loop-place.place f.declaration.now.cons shape.constructor.now c.in_ok-child.child _ c.shape_at-shape.ensures.constructor child c.loop-place.invariant.cases;
      small = subst (All IsWithinLimits) (sym c.in_ok-push.ensures.ok) (All-push IsWithinLimits c.loop-place.children c.in_ok-child.child c.loop-place.invariant.small c.in_ok-child.ensures.small);
    }

pub returns-in_err-child-clause-end : goal.returns-in_err-child-clause-end
returns-in_err-child-clause-end c =
    let s = c.args.sequent.now in
    let v = c.args.variable in
    let f = c.args.family.now in
    let shape = c.shape_at-shape.result in
    let same : case_of s v shape.datatype shape.args.now shape.con shape.constructor.now ≡ case_of s v f.number f.args.now c.loop-place.place shape.constructor.now = made_at (λ (d : ℕ) (ts : List Ty) (k : ℕ) (con : ConDef). case_of s v d ts k con) f.number shape.datatype f.args.now shape.args.now c.loop-place.place shape.con shape.constructor.now (case_of s v shape.datatype shape.args.now shape.con shape.constructor.now) c.shape_at-shape.ensures.datatype c.shape_at-shape.ensures.args c.shape_at-shape.ensures.con refl in
    part_ends c.from_residual.result _ (IsWithinLimits (case_of s v shape.datatype shape.args.now shape.con shape.constructor.now)) (All IsWithinLimits (cases_from s v f.number f.args.now 0 f.declaration.now.cons)) c.from_residual.ensures c.in_err-child.ensures.end (λ all. subst IsWithinLimits (sym same) (is_due (λ (k : ℕ) (con : ConDef). case_of s v f.number f.args.now k con) (λ (k : ℕ) (cs : List ConDef). cases_from s v f.number f.args.now k cs) (λ k con cs. refl) c.loop-place.children c.loop-place.place f.declaration.now.cons shape.constructor.now (cases_from s v f.number f.args.now 0 f.declaration.now.cons) c.shape_at-shape.ensures.constructor c.loop-place.invariant.cases all))
