use Rattle.std.proofs.Common.{sym, ◌∙◌}
use Rattle.px_types.specs.declared.typed.Typed.{Typed}
use Rattle.px_types.proofs.Exact.{one_err}
use Rattle.px_types.proofs.AllExact.{exact_term}
use Rattle.px_types.proofs.laws.one_fault.Goals as goal

pub returns : goal.returns
returns c E raw bound a b declaring x y =
    let exact = exact_term E declaring raw bound in
    one_err {T = Typed} a b (sym (exact.err a x) ∙ exact.err b y)
