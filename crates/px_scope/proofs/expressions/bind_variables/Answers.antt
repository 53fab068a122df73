use Rattle.std.proofs.Common.{◌≡◌, ℕ, Bool, not, List, [], ◌∷◌, ◌++◌, refl, ap, ◌∙◌}
use Rattle.std.specs.Bool.{if◌then◌else◌}
use Rattle.px_scope.proofs.TermSteps.{variable_next, variable_fails, variable_bound, variable_place, variables_fine, variables_bound, variables_places}
use Rattle.px_scope.proofs.expressions.bind_variables.Goals as goal

pub returns-then-not-branch-clause-resolves : goal.returns-then-not-branch-clause-resolves
returns-then-not-branch-clause-resolves c =
    variable_fails c.args.locals.now c.args.vars.now c.loop-var.var-index c.var-item.result c.loop-var.locals c.loop-var-test.true c.var-item.is c.loop-var.invariant.bound c.fault.result c.loop-var.invariant.fine (rw (← c.as_str.ensures) c.in_ok-add.ensures.known ∙ ap not c.if-not-branch.true) c.fault.ensures

pub loop-var-init : goal.loop-var-init
loop-var-init c = record { fine = refl; places = c.new-places.ensures; bound = refl }

pub loop-var-preserved : goal.loop-var-preserved
loop-var-preserved c =
    let added : c.add.new.self ≡ c.loop-var.locals.names ++ c.var-item.result.text ∷ [] = c.in_ok-add.ensures.added ∙ ap (λ (b : Bool). if b then c.loop-var.locals.names ++ c.as_str.result.now ∷ [] else c.loop-var.locals.names) c.if-not-branch.false ∙ ap (λ (name : List ℕ). c.loop-var.locals.names ++ name ∷ []) c.as_str.ensures in
    record {
      fine = variable_next c.args.locals.now c.args.vars.now c.loop-var.var-index c.var-item.result c.loop-var.locals c.loop-var-test.true c.var-item.is c.loop-var.invariant.bound c.loop-var.invariant.fine (rw (← c.as_str.ensures) c.in_ok-add.ensures.known ∙ ap not c.if-not-branch.false);
      places = variable_place c.args.locals.now c.args.vars.now c.loop-var.var-index c.var-item.result c.loop-var.locals c.loop-var-test.true c.var-item.is c.loop-var.invariant.bound c.loop-var.places c.push.new.self c.loop-var.invariant.places c.in_ok-push.ensures.ok;
      bound = ap (λ (names : List (List ℕ)). record c.loop-var.locals { names = names }) added ∙ variable_bound c.args.locals.now c.args.vars.now c.loop-var.var-index c.var-item.result c.loop-var.locals c.loop-var-test.true c.var-item.is c.loop-var.invariant.bound;
    }

pub returns-clause-resolves : goal.returns-clause-resolves
returns-clause-resolves c = (variables_fine c.args.locals.now c.args.vars.now c.loop-var.var-index c.loop-var-test.false c.loop-var.invariant.fine, variables_places c.args.locals.now c.args.vars.now c.loop-var.var-index c.loop-var-test.false c.loop-var.places c.loop-var.invariant.places)

pub returns-clause-locals : goal.returns-clause-locals
returns-clause-locals c = variables_bound c.args.locals.now c.args.vars.now c.loop-var.var-index c.loop-var-test.false c.loop-var.locals c.loop-var.invariant.bound
