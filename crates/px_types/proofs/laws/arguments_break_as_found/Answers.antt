use Rattle.px_types.proofs.Exact.{breaks_of}
use Rattle.px_types.proofs.ArgumentsExact.{exact_arguments, broken_arguments, arguments_broken}
use Rattle.px_types.proofs.laws.arguments_break_as_found.Goals as goal

pub returns : goal.returns
returns c E raws takes fault declaring same =
    let exact = exact_arguments E declaring.placed raws takes same in
    (λ e. broken_arguments E declaring.placed (breaks_of exact fault e), λ br. exact.err fault (arguments_broken E declaring.placed br))
