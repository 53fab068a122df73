use Rattle.std.proofs.Common.{sym, ◌∙◌, ap}
use Rattle.px_types.specs.declared.typed.Typed.{Typed}
use Rattle.px_types.proofs.Exact.{one_ok}
use Rattle.px_types.proofs.AllExact.{exact_term}
use Rattle.px_types.proofs.laws.one_typing.Goals as goal

pub returns : goal.returns
returns c E raw bound t u T U declaring a b =
    let exact = exact_term E declaring raw bound in
    let one = one_ok (record { term = t; ty = T }) (record { term = u; ty = U }) (sym (exact.ok (record { term = t; ty = T }) a) ∙ exact.ok (record { term = u; ty = U }) b) in
    (ap (λ (x : Typed). x.term) one, ap (λ (x : Typed). x.ty) one)
