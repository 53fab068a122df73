use Rattle.std.proofs.Common.{sym, ◌∙◌}
use Rattle.std.proofs.lemmas.Result.{err_from_is_err_and}
use Rattle.px_derive.specs.Gives.{left}
use Rattle.px_derive.proofs.NumberFacts.{narrow_some, narrow_none, narrow_fails}
use Rattle.px_derive.proofs.rest.Rest.number.Goals as goal

pub returns-in_err-number : goal.returns-in_err-number
returns-in_err-number c =
    let p = err_from_is_err_and c.from_residual.result c.from_residual.ensures.1 in
    rw (p.1, p.2) (narrow_fails c.in_err-number.field-0.0 (left c.args.self) c.in_err-number.ensures)

pub returns-in-Some : goal.returns-in-Some
returns-in-Some c = narrow_some (left c.args.self) (left c.in_ok-number.rest) c.in_ok-number.number c.in-Some.number c.in_ok-number.ensures (sym c.small.ensures ∙ c.in-Some.is)

pub returns-in-None : goal.returns-in-None
returns-in-None c = narrow_none (left c.args.self) (left c.in_ok-number.rest) c.in_ok-number.number c.in_ok-number.ensures (sym c.small.ensures ∙ c.in-None.is)
