use Rattle.px_types.proofs.Exact.{is_of}
use Rattle.px_types.proofs.TermsExact.{terms_of, have_types, all_parts}
use Rattle.px_types.proofs.AllExact.{exact_all_parts}
use Rattle.px_types.proofs.laws.parts_are_found.Goals as goal

pub returns : goal.returns
returns c E bound raws types ts declaring same =
    let exact = exact_all_parts E declaring bound raws types same in (
      λ e. let are = is_of exact ts e in (terms_of E declaring bound are, have_types E declaring bound are),
      λ both. exact.ok ts (all_parts E declaring bound both.0 both.1),
    )
