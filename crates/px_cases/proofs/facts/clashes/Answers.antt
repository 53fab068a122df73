use Rattle.std.proofs.Common.{◌≡◌, List, Some, slice_get, sym, ap, ◌∙◌}
use Rattle.px_terms.specs.declared.clause.Equation.{Equation}
use Rattle.px_cases.proofs.facts.clashes.Goals as goal

pub returns-in-Some : goal.returns-in-Some
returns-in-Some c = (c.in-Some.equation.now, ap (λ (es : List Equation). slice_get es c.args.fact) (sym c.as_slice.ensures) ∙ sym c.in-Some.ensures, c.heads_clash.ensures)
