use Rattle.std.proofs.Common.{◌∙◌, sym, ap, IsTrue, List, slice_get}
use Rattle.px_terms.specs.declared.clause.Equation.{Equation}
use Rattle.px_replay.proofs.RowLemmas.{sides_found}
use Rattle.px_replay.proofs.rows.is_same.Goals as goal

pub returns-in-Some : goal.returns-in-Some
returns-in-Some c = sides_found c.args.sequent.now c.args.alternative c.in-Some.equation.now (IsTrue c.same_term.result) (ap (λ (xs : List Equation). slice_get xs c.args.alternative) (sym c.as_slice.ensures) ∙ sym c.in-Some.ensures) c.same_term.ensures
