use Rattle.px_types.proofs.Exact.{breaks_of}
use Rattle.px_types.proofs.TermsExact.{broken_parts, parts_broken}
use Rattle.px_types.proofs.AllExact.{exact_all_parts}
use Rattle.px_types.proofs.laws.parts_break_as_found.Goals as goal

pub returns : goal.returns
returns c E bound raws types fault declaring same =
    let exact = exact_all_parts E declaring bound raws types same in
    (λ e. broken_parts E declaring bound (breaks_of exact fault e), λ br. exact.err fault (parts_broken E declaring bound br))
