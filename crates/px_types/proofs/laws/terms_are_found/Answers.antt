use Rattle.px_types.proofs.Exact.{is_of}
use Rattle.px_types.proofs.AllExact.{exact_term}
use Rattle.px_types.proofs.laws.terms_are_found.Goals as goal

pub returns : goal.returns
returns c E raw bound t T declaring =
    let exact = exact_term E declaring raw bound in
    (λ e. is_of exact (record { term = t; ty = T }) e, λ typed. exact.ok (record { term = t; ty = T }) typed)
