use Rattle.px_types.proofs.Exact.{is_of}
use Rattle.px_types.proofs.ArgumentsExact.{exact_arguments, right_funs, right_arguments, all_right_funs}
use Rattle.px_types.proofs.laws.arguments_are_found.Goals as goal

pub returns : goal.returns
returns c E raws takes fs declaring same =
    let exact = exact_arguments E declaring.placed raws takes same in (
      λ e. let are = is_of exact fs e in (right_funs E declaring.placed are, right_arguments E declaring.placed are),
      λ both. exact.ok fs (all_right_funs E declaring.placed both.0 both.1),
    )
