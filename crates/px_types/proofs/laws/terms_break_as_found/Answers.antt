use Rattle.px_types.proofs.Exact.{breaks_of}
use Rattle.px_types.proofs.AllExact.{exact_term}
use Rattle.px_types.proofs.laws.terms_break_as_found.Goals as goal

pub returns : goal.returns
returns c E raw bound fault declaring =
    let exact = exact_term E declaring raw bound in
    (λ e. breaks_of exact fault e, λ br. exact.err fault br)
