use Rattle.std.proofs.Common.{Bool, false, IsTrue, ◌↔◌, sym, subst}
use Rattle.std.proofs.lemmas.Option.{get_or_from_slice_get, slice_get_within}
use Rattle.px_terms.specs.Descent.{IsKept}
use Rattle.px_descent.proofs.stuck.is_kept.Goals as goal

pub returns-in-Some : goal.returns-in-Some
returns-in-Some c =
    let s = c.args.search.now in
    let told = s.kept.now in
    subst (λ (b : Bool). IsTrue b ↔ IsKept s.program.now s.def s.definition.now c.args.position)
    (get_or_from_slice_get told c.args.position c.in-Some.kept.now false (sym c.in-Some.ensures))
    (c.requires.tells c.args.position (slice_get_within told c.args.position c.in-Some.kept.now (sym c.in-Some.ensures)))
