use Rattle.std.proofs.Common.{◌≡◌, ◌<◌, ◌≤◌, ◌++◌, ◌+◌, ◌-◌, drop, length, ap, sym, subst, refl, ◌∙◌, All, List, ℕ, Some, slice_get, arith}
use Rattle.std.proofs.lemmas.List.Elements.{All-push}
use Rattle.px_terms.specs.declared.types.Ty.{Ty}
use Rattle.px_terms.specs.declared.program.ConDef.{ConDef}
use Rattle.px_terms.specs.declared.sequent.Sequent.{Sequent}
use Rattle.px_terms.specs.Sequents.{IsWithinLimits}
use Rattle.px_terms.specs.Rows.{split_of, splits_from}
use Rattle.px_cases.proofs.CaseLists.{one_more, last_one, is_due, made_at}
use Rattle.px_cases.proofs.EndLemmas.{part_ends}
use Rattle.px_cases.proofs.splits.splits.Goals as goal

pub loop-place-preserved : goal.loop-place-preserved
loop-place-preserved c =
    let s = c.args.sequent in
    let t = c.args.term.now in
    let f = c.args.family.now in
    let shape = c.shape_at-shape.result in
    let child : c.in_ok-child.child ≡ split_of s t f.number f.args.now c.loop-place.place shape.constructor.now = made_at (λ (d : ℕ) (ts : List Ty) (k : ℕ) (con : ConDef). split_of s t d ts k con) f.number shape.datatype f.args.now shape.args.now c.loop-place.place shape.con shape.constructor.now c.in_ok-child.child c.shape_at-shape.ensures.datatype c.shape_at-shape.ensures.args c.shape_at-shape.ensures.con (c.in_ok-child.ensures.split ∙ ap (λ (x : Sequent). split_of x t shape.datatype shape.args.now shape.con shape.constructor.now) c.in_ok-copied.ensures) in
    let rest = splits_from s t f.number f.args.now (c.loop-place.place + 1) (drop (c.loop-place.place + 1) f.declaration.now.cons) in
    record {
      splits = ap (λ (xs : List Sequent). xs ++ rest) c.in_ok-push.ensures.ok ∙ one_more (λ (k : ℕ) (con : ConDef). split_of s t f.number f.args.now k con) (λ (k : ℕ) (cs : List ConDef). splits_from s t f.number f.args.now k cs) (λ k con cs. refl) c.loop-place.children c.loop-place.place f.declaration.now.cons shape.constructor.now c.in_ok-child.child _ c.shape_at-shape.ensures.constructor child c.loop-place.invariant.splits;
      small = subst (All IsWithinLimits) (sym c.in_ok-push.ensures.ok) (All-push IsWithinLimits c.loop-place.children c.in_ok-child.child c.loop-place.invariant.small c.in_ok-child.ensures.small);
    }

pub returns-in_err-child-clause-end : goal.returns-in_err-child-clause-end
returns-in_err-child-clause-end c =
    let s = c.args.sequent in
    let t = c.args.term.now in
    let f = c.args.family.now in
    let shape = c.shape_at-shape.result in
    let made = split_of c.in_ok-copied.copied t shape.datatype shape.args.now shape.con shape.constructor.now in
    let same : made ≡ split_of s t f.number f.args.now c.loop-place.place shape.constructor.now = made_at (λ (d : ℕ) (ts : List Ty) (k : ℕ) (con : ConDef). split_of s t d ts k con) f.number shape.datatype f.args.now shape.args.now c.loop-place.place shape.con shape.constructor.now made c.shape_at-shape.ensures.datatype c.shape_at-shape.ensures.args c.shape_at-shape.ensures.con (ap (λ (x : Sequent). split_of x t shape.datatype shape.args.now shape.con shape.constructor.now) c.in_ok-copied.ensures) in
    part_ends c.from_residual-in_err-child.result _ (IsWithinLimits made) (All IsWithinLimits (splits_from s t f.number f.args.now 0 f.declaration.now.cons)) c.from_residual-in_err-child.ensures c.in_err-child.ensures.end (λ all. subst IsWithinLimits (sym same) (is_due (λ (k : ℕ) (con : ConDef). split_of s t f.number f.args.now k con) (λ (k : ℕ) (cs : List ConDef). splits_from s t f.number f.args.now k cs) (λ k con cs. refl) c.loop-place.children c.loop-place.place f.declaration.now.cons shape.constructor.now (splits_from s t f.number f.args.now 0 f.declaration.now.cons) c.shape_at-shape.ensures.constructor c.loop-place.invariant.splits all))

pub returns-in_err-final_child-clause-end : goal.returns-in_err-final_child-clause-end
returns-in_err-final_child-clause-end c =
    let s = c.args.sequent in
    let t = c.args.term.now in
    let f = c.args.family.now in
    let shape = c.shape_at-final_shape.result in
    let at_last : c.loop-place.place ≡ c.len-last.result - 1 = omega (arith, c.loop-place-test.false, c.loop-place.auto.place-end) in
    let found : slice_get f.declaration.now.cons c.loop-place.place ≡ Some shape.constructor.now = ap (λ (n : ℕ). slice_get f.declaration.now.cons n) at_last ∙ c.shape_at-final_shape.ensures.constructor in
    let made = split_of s t shape.datatype shape.args.now shape.con shape.constructor.now in
    let same : made ≡ split_of s t f.number f.args.now c.loop-place.place shape.constructor.now = made_at (λ (d : ℕ) (ts : List Ty) (k : ℕ) (con : ConDef). split_of s t d ts k con) f.number shape.datatype f.args.now shape.args.now c.loop-place.place shape.con shape.constructor.now made c.shape_at-final_shape.ensures.datatype c.shape_at-final_shape.ensures.args (c.shape_at-final_shape.ensures.con ∙ sym at_last) refl in
    part_ends c.from_residual-in_err-final_child.result _ (IsWithinLimits made) (All IsWithinLimits (splits_from s t f.number f.args.now 0 f.declaration.now.cons)) c.from_residual-in_err-final_child.ensures c.in_err-final_child.ensures.end (λ all. subst IsWithinLimits (sym same) (is_due (λ (k : ℕ) (con : ConDef). split_of s t f.number f.args.now k con) (λ (k : ℕ) (cs : List ConDef). splits_from s t f.number f.args.now k cs) (λ k con cs. refl) c.loop-place.children c.loop-place.place f.declaration.now.cons shape.constructor.now (splits_from s t f.number f.args.now 0 f.declaration.now.cons) found c.loop-place.invariant.splits all))

pub returns-clause-splits : goal.returns-clause-splits
returns-clause-splits c =
    let s = c.args.sequent in
    let t = c.args.term.now in
    let f = c.args.family.now in
    let shape = c.shape_at-final_shape.result in
    let at_last : c.loop-place.place ≡ c.len-last.result - 1 = omega (arith, c.loop-place-test.false, c.loop-place.auto.place-end) in
    let found : slice_get f.declaration.now.cons c.loop-place.place ≡ Some shape.constructor.now = ap (λ (n : ℕ). slice_get f.declaration.now.cons n) at_last ∙ c.shape_at-final_shape.ensures.constructor in
    let child : c.in_ok-final_child.final_child ≡ split_of s t f.number f.args.now c.loop-place.place shape.constructor.now = made_at (λ (d : ℕ) (ts : List Ty) (k : ℕ) (con : ConDef). split_of s t d ts k con) f.number shape.datatype f.args.now shape.args.now c.loop-place.place shape.con shape.constructor.now c.in_ok-final_child.final_child c.shape_at-final_shape.ensures.datatype c.shape_at-final_shape.ensures.args (c.shape_at-final_shape.ensures.con ∙ sym at_last) c.in_ok-final_child.ensures.split in
    let past : length f.declaration.now.cons ≤ c.loop-place.place + 1 = omega (arith, at_last, c.len-last.ensures, c.requires.some) in
    c.in_ok-push-2.ensures.ok ∙ last_one (λ (k : ℕ) (con : ConDef). split_of s t f.number f.args.now k con) (λ (k : ℕ) (cs : List ConDef). splits_from s t f.number f.args.now k cs) (λ k con cs. refl) (λ k. refl) c.loop-place.children c.loop-place.place f.declaration.now.cons shape.constructor.now c.in_ok-final_child.final_child _ found child c.loop-place.invariant.splits past

pub returns-clause-small : goal.returns-clause-small
returns-clause-small c = subst (All IsWithinLimits) (sym c.in_ok-push-2.ensures.ok) (All-push IsWithinLimits c.loop-place.children c.in_ok-final_child.final_child c.loop-place.invariant.small c.in_ok-final_child.ensures.small)
