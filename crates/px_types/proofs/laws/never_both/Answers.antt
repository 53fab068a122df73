use Rattle.std.proofs.Common.{◌≡◌, Result, Ok, Err, sym, ◌∙◌}
use Rattle.px_types.specs.declared.typed.Typed.{Typed}
use Rattle.px_types.specs.Faults.{Broken}
use Rattle.px_types.proofs.AllExact.{exact_term}
use Rattle.px_types.proofs.laws.never_both.Goals as goal

pub returns : goal.returns
returns c E raw bound t T fault declaring typed br =
    let exact = exact_term E declaring raw bound in
    let clash : ◌≡◌ {A = Result Typed Broken} (Ok (record { term = t; ty = T })) (Err fault) = sym (exact.ok (record { term = t; ty = T }) typed) ∙ exact.err fault br in
    absurd cc
